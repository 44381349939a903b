use Rattle.diagram_defs.proofs.Growth.{IsSet_grows}
use Rattle.bench.proofs.random.random_nodes.Goals as goal

pub and-requires : goal.and-requires
and-requires c = record {
  level = 0;
  first = IsSet_grows _ _ 0 c.in_ok-a.a c.in_ok-b.ensures.grows c.in_ok-a.ensures.number;
  second = c.in_ok-b.ensures.number;
}
