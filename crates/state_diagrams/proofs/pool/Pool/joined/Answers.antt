use Rattle.std.proofs.Common.{subst, sym}
use Rattle.diagram_defs.specs.Diagrams.{Diagram, IsSet}
use Rattle.state_diagrams.proofs.pool.Pool.joined.Goals as goal

pub join-requires-clause-first : goal.join-requires-clause-first
join-requires-clause-first c = subst (λ (d : Diagram). IsSet d c.args.level c.args.a) (sym c.forget.ensures) c.requires.first

pub join-requires-clause-second : goal.join-requires-clause-second
join-requires-clause-second c = subst (λ (d : Diagram). IsSet d c.args.level c.args.b) (sym c.forget.ensures) c.requires.second
