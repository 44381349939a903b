-- A file that is too long leaves one byte more than the longest file has.
use Rattle.std.proofs.Common.{◌∙◌, ◌++◌, ap, arith, length, take}
use Rattle.std.proofs.lemmas.List.{length-take-le}
use Rattle.pw_outer.proofs.held_files.SureShelfShelf.fetch.Goals as goal

pub returns-in_ok-extend_from_slice-in-Some-clause-left : goal.returns-in_ok-extend_from_slice-in-Some-clause-left
returns-in_ok-extend_from_slice-in-Some-clause-left c =
    let file = c.in-Some.bytes.now in
    ap length (c.in_ok-extend_from_slice-in-Some.ensures.items ∙ ap (λ before. before ++ take 67108865 file) c.requires) ∙ length-take-le 67108865 file (omega arith)
