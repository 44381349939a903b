use Rattle.std.proofs.Common.{map, take}
use Rattle.cell_joins.specs.Unions.{IsUnionOf}
use Rattle.cell_joins.proofs.unions.joined_groups.Given as goal

abbrev pub invariant-loop-group : goal.invariant-loop-group
invariant-loop-group l = IsUnionOf (map (λ p. p.cell) (take l.group-index l.placed)) l.union
