use Rattle.std.proofs.Common.{sym, ap}
use Rattle.net_places.specs.Tables.{bits_in}
use Rattle.net_places.proofs.Parts.{rows_past}
use Rattle.net_places.proofs.tables.Table.bits.Goals as goal

pub returns-in-None : goal.returns-in-None
returns-in-None c = sym (ap bits_in (rows_past c.self.inside.nets c.self.inside.bodies c.args.self.now c.args.body c.self.view_is c.in-None.ensures))
