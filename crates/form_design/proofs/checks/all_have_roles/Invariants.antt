use Rattle.std.proofs.Common.{◌≡◌, drop}
use Rattle.std.specs.List.{list_all}
use Rattle.form_design.specs.Fits.{has_roles}
use Rattle.form_design.proofs.checks.all_have_roles.Given as goal

-- all pass where those that are left do
abbrev pub invariant-loop-cell : goal.invariant-loop-cell
invariant-loop-cell l = list_all has_roles (drop l.cell-index l.cells) ≡ list_all has_roles l.cells
