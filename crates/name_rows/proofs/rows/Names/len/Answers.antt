use Rattle.std.proofs.Common.{arith, ap, length}
use Rattle.name_rows.proofs.CutLemmas.{length-cuts}
use Rattle.name_rows.proofs.rows.Names.len.Goals as goal

pub returns : goal.returns
returns c = omega (arith, length-cuts c.self.inside.bytes.items 0 c.self.inside.ends.items, ap length c.self.view_is)
