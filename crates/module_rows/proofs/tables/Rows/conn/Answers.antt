use Rattle.module_rows.proofs.ReadLemmas.{conn_read}
use Rattle.module_rows.specs.Reads.{inst_at}
use Rattle.module_rows.specs.View.{netlist_of}
use Rattle.module_rows.proofs.tables.Rows.conn.Goals as goal

pub returns : goal.returns
returns c =
    let r = c.args.self.now in
    let inst = inst_at (netlist_of r) c.args.holder c.args.inst in
    let row = c.inst_in-row in
    let conn = c.conn_row-conn in
    conn_read r c.requires.rows row.result row.ensures.fits inst row.ensures.is c.args.conn conn.result c.requires.conn conn.ensures
    c.numbered.result c.numbered.ensures
