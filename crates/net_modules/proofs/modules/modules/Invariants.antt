use Rattle.std.proofs.Common.{length}
use Rattle.std.specs.Option.{option_map}
use Rattle.net_text.specs.CommaLists.{named_view}
use Rattle.net_modules.proofs.NetlistLoop.{HasModules}
use Rattle.net_modules.proofs.modules.modules.Given as goal

abbrev pub invariant-loop-alloc : goal.invariant-loop-alloc
invariant-loop-alloc l = HasModules l.initial.builder.modules l.initial.tokens l.tokens l.builder (option_map named_view l.second) l.count

abbrev pub decreases-loop-alloc : goal.decreases-loop-alloc
decreases-loop-alloc l = length l.tokens
