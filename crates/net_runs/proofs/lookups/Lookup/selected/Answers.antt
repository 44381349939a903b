use Rattle.std.proofs.Common.{sym, subst}
use Rattle.design_defs.specs.Places.{declared_range, selected}
use Rattle.module_rows.specs.View.{name_at}
use Rattle.net_runs.specs.Leaves.{IsSelection}
use Rattle.net_runs.proofs.RunLemmas.{select_known, select_unknown}
use Rattle.net_runs.proofs.lookups.Lookup.selected.Goals as goal

pub returns-in_err-row : goal.returns-in_err-row
returns-in_err-row c s m is =
    let o = c.args.self.now in
    let name = name_at o.netlist.symbols c.args.symbol in
    subst (IsSelection s o.holder (selected name (declared_range m name) c.args.left c.args.right)) (sym c.from_residual.ensures)
    (select_unknown s o.holder m is.is_module name c.args.left c.args.right (c.in_err-row.ensures s m is))

pub returns : goal.returns
returns c s m is =
    let o = c.args.self.now in
    let name = name_at o.netlist.symbols c.args.symbol in
    let row = c.in_ok-row.row in
    subst (IsSelection s o.holder (selected name (declared_range m name) c.args.left c.args.right)) (sym c.part_run.ensures)
    (select_known s o.holder m is.is_module name row c.args.left c.args.right (c.in_ok-row.ensures s m is))
