-- The parts of a script from which its intent is made.
use Rattle.std.specs.Prelude.{◌≡◌, ℕ, List, map}
use Rattle.std.specs.List.{enumerate_from}
use Rattle.pw_defs.specs.declared.intent.RootList.{RootList}
use Rattle.line_forms.specs.declared.script_lines.CommandLine.{CommandLine}
use Rattle.list_defs.specs.Orders.{IsPutInOrder, name_cmp}
use Rattle.form_intent.specs.declared.parts.Parts.{Parts}
use Rattle.form_intent.specs.Script.{nets_made, root_list, set_names, stated}
use Rattle.form_intent.specs.Fits.{elements}

pub record ArePartsOf (instances : List (List ℕ)) (commands : List CommandLine) (parts : Parts) (lists : List RootList) : Type 0 where
  pub sets : parts.set_names ≡ set_names commands
  pub order : IsPutInOrder name_cmp (nets_made commands) parts.order.names.items
  pub index : parts.order.index ≡ parts.order.names.items
  pub values : map (λ of_one. of_one.items) parts.stated.items ≡ map (stated commands) parts.order.names.items
  pub lists_are : lists ≡ map (root_list commands) (enumerate_from 0 parts.order.names.items)
  pub found : parts.elements.keys ≡ elements instances commands
