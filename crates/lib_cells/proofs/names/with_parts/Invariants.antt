use Rattle.std.proofs.Common.{◌≡◌, ◌==◌, ◌++◌, length, filter, map, not, drop}
use Rattle.lib_cells.specs.Groups.{trimmed}
use Rattle.lib_cells.proofs.names.with_parts.Given as goal

abbrev pub invariant-loop-part : goal.invariant-loop-part
invariant-loop-part l =
    map (λ n. n.now) l.all ++ filter (λ name. not (length name == 0)) (map trimmed (map (λ x. x.now) (drop l.part-index l.parts)))
    ≡ map (λ n. n.now) l.initial.all ++ filter (λ name. not (length name == 0)) (map trimmed (map (λ x. x.now) l.parts))
