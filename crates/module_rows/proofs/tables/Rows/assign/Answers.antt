use Rattle.module_rows.proofs.ReadLemmas.{assign_read}
use Rattle.module_rows.specs.Reads.{module_at}
use Rattle.module_rows.specs.View.{netlist_of}
use Rattle.module_rows.proofs.tables.Rows.assign.Goals as goal

pub returns : goal.returns
returns c =
    let r = c.args.self.now in
    let m = module_at (netlist_of r) c.args.holder in
    let row = c.module_row-row in
    assign_read r c.requires.rows row.result row.ensures.fits m row.ensures.is c.args.assign c.assign_row.result c.requires.assign c.assign_row.ensures
