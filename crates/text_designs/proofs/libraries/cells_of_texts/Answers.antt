use Rattle.std.proofs.Common.{◌≡◌, ◌<◌, List, ℕ, get_or, length, ap, subst, arith}
use Rattle.text_designs.specs.Texts.{JoinsText}
use Rattle.text_designs.proofs.MoreTexts.{next_joined}
use Rattle.text_designs.proofs.libraries.cells_of_texts.Goals as goal

pub loop-text-preserved : goal.loop-text-preserved
loop-text-preserved c =
    let i : ℕ = c.loop-text.text-index in
    let text : List ℕ = c.text-item.result in
    let same = c.as_slice-text-items.ensures.items in
    let long : length c.as_slice-text-items.result.now ≡ length c.args.libraries.now = ap length same in
    let within : i < length c.args.libraries.now = omega (arith, long, c.loop-text-test.true) in
    let item : text ≡ get_or c.args.libraries.now i text = subst (λ (ts : List (List ℕ)). text ≡ get_or ts i text) same c.text-item.is in
    record {
      counted = omega (arith, c.loop-text.invariant.counted);
      joined = next_joined c.args.libraries.now i text c.loop-text.all within item c.loop-text.invariant.joined c.in-Ok.joined
          (subst (λ (t : List ℕ). JoinsText c.loop-text.all t c.in-Ok.joined) c.as_slice.ensures.bytes c.in-Ok.ensures.joined);
    }
