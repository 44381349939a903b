use Rattle.std.proofs.Common.{◌≡◌, ◌<◌, List, ℕ, get_or, length, ap, subst, arith}
use Rattle.net_text.specs.Stopped.{IsToldFault}
use Rattle.text_designs.specs.Texts.{ReadsMore}
use Rattle.text_designs.proofs.MoreTexts.{netlist_at_fault, next_netlists, none_open}
use Rattle.text_designs.proofs.netlists.modules_of_texts.Goals as goal

pub returns-in-Err-clause-cause : goal.returns-in-Err-clause-cause
returns-in-Err-clause-cause c =
    let i : ℕ = c.loop-text.text-index in
    let text : List ℕ = c.text-item.result in
    let same = c.as_slice-text-items.ensures.items in
    let long : length c.as_slice-text-items.result.now ≡ length c.args.netlists.now = ap length same in
    let within : i < length c.args.netlists.now = omega (arith, long, c.loop-text-test.true) in
    let item : text ≡ get_or c.args.netlists.now i text = subst (λ (ts : List (List ℕ)). text ≡ get_or ts i text) same c.text-item.is in
    netlist_at_fault c.args.netlists.now i text c.loop-text.builder c.loop-text.counts within item c.loop-text.invariant.read c.loop-text.number c.in-Err.fault
    c.loop-text.invariant.counted (subst (λ (t : List ℕ). IsToldFault t c.in-Err.fault) c.as_slice.ensures.bytes c.in-Err.ensures.cause)

pub loop-text-preserved : goal.loop-text-preserved
loop-text-preserved c =
    let i : ℕ = c.loop-text.text-index in
    let text : List ℕ = c.text-item.result in
    let same = c.as_slice-text-items.ensures.items in
    let long : length c.as_slice-text-items.result.now ≡ length c.args.netlists.now = ap length same in
    let within : i < length c.args.netlists.now = omega (arith, long, c.loop-text-test.true) in
    let item : text ≡ get_or c.args.netlists.now i text = subst (λ (ts : List (List ℕ)). text ≡ get_or ts i text) same c.text-item.is in
    let more : ReadsMore text c.loop-text.builder c.add_text.new.builder c.loop-text.counts c.add_text.new.counts =
    subst (λ (t : List ℕ). ReadsMore t c.loop-text.builder c.add_text.new.builder c.loop-text.counts c.add_text.new.counts) c.as_slice.ensures.bytes c.in-Ok.ensures.read in
    record {
      counted = omega (arith, c.loop-text.invariant.counted);
      closed = none_open text c.loop-text.builder c.add_text.new.builder c.loop-text.counts c.add_text.new.counts more;
      read = next_netlists c.args.netlists.now i text c.loop-text.builder c.loop-text.counts within item c.loop-text.invariant.read c.add_text.new.builder
          c.add_text.new.counts more;
    }
