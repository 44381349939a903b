use Rattle.std.proofs.Common.{◌≡◌, ℕ, List, ◌∷◌, None, Some, drop, sym, ap, ◌∙◌, subst}
use Rattle.net_instances.specs.Ways.{IsLeft, by_first, first_byte}
use Rattle.net_instances.proofs.TextLemmas.{both_at_shared, both_decided, both_further, both_skipped}
use Rattle.net_instances.proofs.texts.compare_texts.Goals as goal

pub loop-order-init : goal.loop-order-init
loop-order-init c = record {
  within = c.shared_by-shared.ensures.within;
  both = λ v w of_a of_b.
      both_at_shared c.args.modules.now.symbols c.args.rows.now c.args.a c.args.b c.shared_by-shared.result v w
      (c.shared_by-shared.ensures.shared c.args.modules.now.symbols v w of_a of_b);
}

pub returns-in-Some : goal.returns-in-Some
returns-in-Some c v w of_a of_b =
    let symbols = c.args.modules.now.symbols in
    let rows = c.args.rows.now in
    let left : ℕ = c.loop-order.left in
    let right : ℕ = c.loop-order.right in
    let xs : List ℕ = c.loop-order.left_rest.now in
    let ys : List ℕ = c.loop-order.right_rest.now in
    let k : ℕ = c.alike-count.result in
    let e : by_first (first_byte left (drop k xs) c.args.a) (first_byte right (drop k ys) c.args.b) ≡ Some c.in-Some.order =
    ap (λ f. by_first f (first_byte right (drop k ys) c.args.b)) (sym (c.first_byte.ensures ∙ ap (λ p. first_byte left p c.args.a) c.behind-left_end.ensures)) ∙ ap (by_first c.first_byte.result) (sym (c.first_byte-in-loop-order.ensures ∙ ap (λ p. first_byte right p c.args.b) c.behind-right_end.ensures))
    ∙ sym c.by_first.ensures ∙ c.in-Some.is in
    both_decided symbols rows c.args.a c.args.b left right (drop k xs) (drop k ys) v w c.in-Some.order e
    (both_skipped symbols rows c.args.a c.args.b left right k xs ys v w (c.loop-order.invariant.both v w of_a of_b) c.alike-count.ensures.left c.alike-count.ensures.right
    c.alike-count.ensures.same)

pub loop-order-preserved : goal.loop-order-preserved
loop-order-preserved c = record {
  within = ((c.next_place-left_next.ensures.within c.loop-order.invariant.within.0).1, (c.next_place-right_next.ensures.within c.loop-order.invariant.within.1).1);
  both = λ v w of_a of_b.
      let symbols = c.args.modules.now.symbols in
      let rows = c.args.rows.now in
      let left : ℕ = c.loop-order.left in
      let right : ℕ = c.loop-order.right in
      let xs : List ℕ = c.loop-order.left_rest.now in
      let ys : List ℕ = c.loop-order.right_rest.now in
      let k : ℕ = c.alike-count.result in
      let e : by_first (first_byte left (drop k xs) c.args.a) (first_byte right (drop k ys) c.args.b) ≡ None =
      ap (λ f. by_first f (first_byte right (drop k ys) c.args.b)) (sym (c.first_byte.ensures ∙ ap (λ p. first_byte left p c.args.a) c.behind-left_end.ensures)) ∙ ap (by_first c.first_byte.result) (sym (c.first_byte-in-loop-order.ensures ∙ ap (λ p. first_byte right p c.args.b) c.behind-right_end.ensures))
      ∙ sym c.by_first.ensures ∙ c.in-None.is in
      let left_text : (byte : ℕ) → (more : List ℕ) → IsLeft symbols rows c.args.a left (drop k xs) (byte ∷ more)
      → IsLeft symbols rows c.args.a c.next_place-left_next.result.0 c.next_place-left_next.result.1.now more =
      λ byte more is. c.next_place-left_next.ensures.text byte more (subst (λ p. IsLeft symbols rows c.args.a left p (byte ∷ more)) (sym c.behind-left_end.ensures) is) in
      let right_text : (byte : ℕ) → (more : List ℕ) → IsLeft symbols rows c.args.b right (drop k ys) (byte ∷ more)
      → IsLeft symbols rows c.args.b c.next_place-right_next.result.0 c.next_place-right_next.result.1.now more =
      λ byte more is. c.next_place-right_next.ensures.text byte more (subst (λ p. IsLeft symbols rows c.args.b right p (byte ∷ more)) (sym c.behind-right_end.ensures) is) in
      both_further symbols rows c.args.a c.args.b left right c.next_place-left_next.result.0 c.next_place-right_next.result.0 (drop k xs) (drop k ys)
      c.next_place-left_next.result.1.now c.next_place-right_next.result.1.now v w e left_text right_text
      (both_skipped symbols rows c.args.a c.args.b left right k xs ys v w (c.loop-order.invariant.both v w of_a of_b) c.alike-count.ensures.left c.alike-count.ensures.right
      c.alike-count.ensures.same);
}
