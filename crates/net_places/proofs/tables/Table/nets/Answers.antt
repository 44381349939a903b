use Rattle.std.proofs.Common.{length, sym, ap}
use Rattle.net_places.proofs.Parts.{rows_past}
use Rattle.net_places.proofs.tables.Table.nets.Goals as goal

pub returns-in-None : goal.returns-in-None
returns-in-None c = sym (ap length (rows_past c.self.inside.nets c.self.inside.bodies c.args.self.now c.args.body c.self.view_is c.in-None.ensures))
