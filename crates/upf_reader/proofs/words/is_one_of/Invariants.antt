use Rattle.std.proofs.Common.{◌≡◌, drop, bytes_eq}
use Rattle.std.specs.List.{list_any}
use Rattle.upf_reader.specs.Rows.{texts_view}
use Rattle.upf_reader.proofs.words.is_one_of.Given as goal

abbrev pub invariant-loop-text : goal.invariant-loop-text
invariant-loop-text l =
    list_any (bytes_eq l.word) (texts_view (drop l.text-index l.texts)) ≡ list_any (bytes_eq l.word) (texts_view l.texts)
