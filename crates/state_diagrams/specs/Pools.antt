-- A table as its users see it, and what holds of its fields.
use Rattle.diagram_defs.specs.Diagrams.{Diagram, IsPool}
use Rattle.state_diagrams.specs.declared.pool.Pool.TheInside.{Inside}
use Rattle.state_diagrams.specs.Nodes.{shapes}
use Rattle.state_diagrams.specs.Remembered.{IsMemo}

abbrev pub diagram_of : Inside → Diagram
diagram_of pool = record { arities = pool.arities.items; bound = pool.bound; nodes = shapes pool.nodes }

-- each set has one number, and each remembered result is right
pub record IsRight (pool : Inside) : Type 0 where
  pub table : IsPool (diagram_of pool)
  pub memo : IsMemo (diagram_of pool) pool.memo
