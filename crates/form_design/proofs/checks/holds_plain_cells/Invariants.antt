use Rattle.std.proofs.Common.{◌≡◌, drop}
use Rattle.std.specs.List.{filter_map}
use Rattle.form_design.specs.Names.{inst_of}
use Rattle.form_design.specs.Fits.{holds_plain_cells}
use Rattle.form_design.proofs.checks.holds_plain_cells.Given as goal

-- all pass where those that are left do
abbrev pub invariant-loop-item : goal.invariant-loop-item
invariant-loop-item l = holds_plain_cells l.names l.cells (filter_map inst_of (drop l.item-index l.items)) ≡ holds_plain_cells l.names l.cells (filter_map inst_of l.items)
