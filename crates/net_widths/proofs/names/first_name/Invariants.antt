use Rattle.net_widths.specs.Refusals.{IsFirstName}
use Rattle.net_widths.proofs.TargetLemmas.{names_to}
use Rattle.net_widths.proofs.names.first_name.Given as goal

abbrev pub invariant-loop-leaf : goal.invariant-loop-leaf
invariant-loop-leaf l = IsFirstName l.modules.symbols (names_to l.modules l.initial.leaf l.leaf) l.name
