use Rattle.std.proofs.Common.{◌≡◌, drop, bytes_eq}
use Rattle.std.specs.List.{list_any}
use Rattle.upf_reader.specs.Rows.{texts_view}
use Rattle.upf_reader.proofs.lists.is_seen.Given as goal

abbrev pub invariant-loop-other : goal.invariant-loop-other
invariant-loop-other l = list_any (bytes_eq l.word) (texts_view (drop l.other-index l.seen)) ≡ list_any (bytes_eq l.word) (texts_view l.seen)
