use Rattle.std.proofs.Common.{◌≡◌, ◌++◌, drop}
use Rattle.std.specs.List.{flat_map, enumerate_from}
use Rattle.form_design.specs.Hierarchy.{links_at, links_with}
use Rattle.form_design.proofs.wiring.links.Given as goal

-- the links so far and those of the instances that are left are all
abbrev pub invariant-loop-inst : goal.invariant-loop-inst
invariant-loop-inst l =
    l.links.items ++ flat_map (links_at l.names l.starts) (enumerate_from l.inst (drop l.inst l.helds)) ≡ links_with l.names l.starts l.helds
