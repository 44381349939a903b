use Rattle.upf_statements.specs.Blocks.{AreBlocksSoFar}
use Rattle.upf_statements.proofs.blocks.blocks_of.Given as goal

abbrev pub invariant-loop-at : goal.invariant-loop-at
invariant-loop-at l = AreBlocksSoFar l.lines l.at l.started l.blocks
