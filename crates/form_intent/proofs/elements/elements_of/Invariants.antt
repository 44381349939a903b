use Rattle.std.proofs.Common.{◌≡◌, ◌==◌, true, take}
use Rattle.std.specs.List.{filter_map}
use Rattle.list_defs.specs.Members.{all_differ}
use Rattle.form_intent.specs.Elements.{line_element}
use Rattle.form_intent.proofs.elements.elements_of.Given as goal

abbrev pub invariant-loop-command : goal.invariant-loop-command
invariant-loop-command l = record {
  found : l.elements.keys ≡ filter_map (line_element l.instances) (take l.command-index l.commands);
  differ : all_differ ◌==◌ l.elements.keys ≡ true;
}
