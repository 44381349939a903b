use Rattle.std.proofs.Common.{subst, sym}
use Rattle.diagram_defs.specs.Diagrams.{Diagram}
use Rattle.state_diagrams.specs.Pools.{diagram_of}
use Rattle.state_diagrams.specs.Remembered.{IsRemembered}
use Rattle.state_diagrams.proofs.Memo.{IsMemo_after}
use Rattle.state_diagrams.proofs.pool.Pool.remember.Goals as goal

pub invariant_of-self : goal.invariant_of-self
invariant_of-self c = record {
  table = c.self.invariant.table;
  memo = IsMemo_after c.insert.result (diagram_of c.self.inside) c.self.inside.memo c.insert.new.self c.args.task c.args.n c.insert.ensures.updates c.insert.ensures.err c.self.invariant.memo (subst (λ (d : Diagram). IsRemembered d c.args.task c.args.n) (sym c.self.view_is) c.requires);
}

pub invariant_of-self-2 : goal.invariant_of-self-2
invariant_of-self-2 c = record {
  table = c.self.invariant.table;
  memo = IsMemo_after c.insert.result (diagram_of c.self.inside) c.self.inside.memo c.insert.new.self c.args.task c.args.n c.insert.ensures.updates c.insert.ensures.err c.self.invariant.memo (subst (λ (d : Diagram). IsRemembered d c.args.task c.args.n) (sym c.self.view_is) c.requires);
}
