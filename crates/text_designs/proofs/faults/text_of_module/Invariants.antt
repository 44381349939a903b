use Rattle.std.proofs.Common.{◌≡◌, drop}
use Rattle.std.specs.Prelude.{slice_get}
use Rattle.text_designs.specs.Texts.{texts_of_modules}
use Rattle.text_designs.proofs.faults.text_of_module.Given as goal

-- the module is that many modules behind the netlists before
abbrev pub invariant-loop-count : goal.invariant-loop-count
invariant-loop-count l = record {
  number : l.text ≡ l.count-index;
  same : slice_get (texts_of_modules l.text (drop l.count-index l.counts)) l.left ≡ slice_get (texts_of_modules 0 l.counts) l.holder;
}
