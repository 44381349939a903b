use Rattle.net_places.specs.Tables.{placed_from}
use Rattle.net_places.proofs.Parts.{added_row}
use Rattle.net_places.proofs.tables.Table.add.Goals as goal

pub returns : goal.returns
returns c =
    added_row c.self.inside.nets c.put_rows.new.nets (placed_from 0 c.args.rows.now) c.self.inside.bodies c.push.new.self c.args.self.now c.len-first.result c.len-end.result c.in_ok-bits.bits
    c.in_ok-bits.ensures.rows c.self.invariant c.len-first.ensures c.len-end.ensures c.in_ok-push.ensures.ok c.self.view_is
