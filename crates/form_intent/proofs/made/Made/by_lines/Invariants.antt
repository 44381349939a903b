use Rattle.std.proofs.Common.{◌≡◌, true, List, ℕ, take}
use Rattle.std.specs.List.{filter_map, list_all, enumerate_from}
use Rattle.line_forms.specs.declared.script_lines.CommandLine.{CommandLine}
use Rattle.list_defs.specs.Members.{all_differ, same_name}
use Rattle.form_intent.specs.declared.made.Made.{Made}
use Rattle.form_intent.specs.Script.{object_made}
use Rattle.form_intent.specs.Fits.{line_fits}
use Rattle.form_intent.specs.Made.{IsMadeBy}
use Rattle.form_intent.proofs.made.Made.by_lines.Given as goal

-- what holds after the first lines
pub record AreSoFar (instances : List (List ℕ)) (commands : List CommandLine) (i : ℕ) (made : Made) : Type 0 where
  pub names : IsMadeBy (take i commands) made
  pub known : list_all (line_fits instances commands) (take i (enumerate_from 0 commands)) ≡ true
  pub differ : all_differ same_name (filter_map object_made (take i commands)) ≡ true

abbrev pub invariant-loop-command : goal.invariant-loop-command
invariant-loop-command l = AreSoFar l.instances l.commands l.command-index l.made
