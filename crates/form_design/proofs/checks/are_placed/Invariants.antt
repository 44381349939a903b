use Rattle.std.proofs.Common.{◌≡◌, drop}
use Rattle.std.specs.List.{list_all, filter_map}
use Rattle.form_design.specs.Names.{inst_of}
use Rattle.form_design.specs.Fits.{is_placed}
use Rattle.form_design.proofs.checks.are_placed.Given as goal

-- all pass where those that are left do
abbrev pub invariant-loop-item : goal.invariant-loop-item
invariant-loop-item l = list_all (is_placed l.names l.holder) (filter_map inst_of (drop l.item-index l.items)) ≡ list_all (is_placed l.names l.holder) (filter_map inst_of l.items)
