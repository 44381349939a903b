use Rattle.std.proofs.Common.{arith, ap, length}
use Rattle.name_rows.proofs.CutLemmas.{length-cuts}
use Rattle.name_rows.proofs.rows.Names.name.Goals as goal

pub part-requires-clause-within : goal.part-requires-clause-within
part-requires-clause-within c =
    omega (arith, length-cuts c.self.inside.bytes.items 0 c.self.inside.ends.items, ap length c.self.view_is, ap length c.as_slice-2.ensures.value)
