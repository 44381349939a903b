use Rattle.std.proofs.Common.{◌≡◌, length, take, true}
use Rattle.list_defs.specs.Members.{all_differ, same_name}
use Rattle.module_rows.specs.Reads.{module_at}
use Rattle.net_names.specs.Marks.{AreVectorsMarked}
use Rattle.net_names.proofs.marks.mark_vectors.Given as goal

abbrev pub invariant-loop-number : goal.invariant-loop-number
invariant-loop-number l = all_differ same_name l.modules.symbols ≡ true → length l.initial.marks.items ≡ length l.modules.symbols
    → AreVectorsMarked l.modules.symbols l.marks.items l.stamp (take l.number (module_at l.modules l.holder).ports)
