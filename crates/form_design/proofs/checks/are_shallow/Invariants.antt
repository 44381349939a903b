use Rattle.std.proofs.Common.{◌≡◌, drop}
use Rattle.std.specs.List.{filter_map}
use Rattle.form_design.specs.Names.{inst_of}
use Rattle.form_design.specs.Depth.{are_shallow_by}
use Rattle.form_design.proofs.checks.are_shallow.Given as goal

-- all pass where those that are left do
abbrev pub invariant-loop-item : goal.invariant-loop-item
invariant-loop-item l = are_shallow_by l.names l.cells l.plain (filter_map inst_of (drop l.item-index l.items)) ≡ are_shallow_by l.names l.cells l.plain (filter_map inst_of l.items)
