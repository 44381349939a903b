use Rattle.std.proofs.Common.{◌≡◌, ℕ, ◌+◌, ◌-◌, ◌<◌, ◌≤◌, List, drop, get_or, length, sym, ap, subst, arith}
use Rattle.std.specs.Prelude.{slice_get}
use Rattle.text_designs.specs.Texts.{texts_of_modules}
use Rattle.text_designs.proofs.ModuleTexts.{text_is_later, text_is_none, text_is_this}
use Rattle.text_designs.proofs.faults.text_of_module.Goals as goal

pub returns-then-left-count : goal.returns-then-left-count
returns-then-left-count c =
    let counts : List ℕ = c.args.counts.now in
    let i : ℕ = c.loop-count.count-index in
    let same = c.as_slice-count-items.ensures.items in
    let long : length c.as_slice-count-items.result.now ≡ length counts = ap length same in
    let within : i < length counts = omega (arith, long, c.loop-count-test.true) in
    text_is_this counts i c.loop-count.text c.loop-count.left c.args.holder c.loop-count.invariant.same within
    (subst (λ (ns : List ℕ). c.loop-count.left < get_or ns i 0) same c.if-left-count.true)

pub loop-count-preserved : goal.loop-count-preserved
loop-count-preserved c =
    let counts : List ℕ = c.args.counts.now in
    let i : ℕ = c.loop-count.count-index in
    let text : ℕ = c.loop-count.text in
    let left : ℕ = c.loop-count.left in
    let same = c.as_slice-count-items.ensures.items in
    let long : length c.as_slice-count-items.result.now ≡ length counts = ap length same in
    let within : i < length counts = omega (arith, long, c.loop-count-test.true) in
    let past : get_or counts i 0 ≤ left = subst (λ (ns : List ℕ). get_or ns i 0 ≤ left) same c.if-left-count.false in
    let further = text_is_later counts i text left c.args.holder c.loop-count.invariant.same within past in
    record {
      number = omega (arith, c.loop-count.invariant.number);
      same = subst (λ (ns : List ℕ). slice_get (texts_of_modules (text + 1) (drop (i + 1) counts)) (left - get_or ns i 0)
          ≡ slice_get (texts_of_modules 0 counts) c.args.holder) (sym same) further;
    }

pub returns : goal.returns
returns c =
    let long : length c.as_slice-count-items.result.now ≡ length c.args.counts.now = ap length c.as_slice-count-items.ensures.items in
    let past : length c.args.counts.now ≤ c.loop-count.count-index = omega (arith, long, c.loop-count-test.false) in
    text_is_none c.args.counts.now c.loop-count.count-index c.loop-count.text c.loop-count.left c.args.holder c.loop-count.invariant.same past
