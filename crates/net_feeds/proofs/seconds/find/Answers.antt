use Rattle.std.proofs.lemmas.Bool.{eqb-true, eq-eqb}
use Rattle.std.proofs.Common.{◌≡◌, ◌==◌, true, false, sym, ℕ, List, inl, inr, ◌∷◌, ◌++◌, [], length, refl, ap, ◌∙◌, arith}
use Rattle.net_feeds.proofs.SecondLemmas.{found_behind, found_first, found_same}
use Rattle.net_feeds.proofs.seconds.find.Goals as goal
use Rattle.net_feeds.proofs.seconds.find.Goals.{then-is_empty-via-then-is_empty, then-is_empty-via-else-is_empty+then-line-found}

pub returns-then-is_empty : goal.returns-then-is_empty
returns-then-is_empty c =
    found_first c.args.line c.args.bit c.args.found.now _ refl (c.in_ok-push.ensures.items ∙ ap (λ xs. xs ++ c.args.bit ∷ []) c.clear.ensures.items) (elim c.then-is_empty.branch [
      | then-is_empty-via-then-is_empty w ↦ inl (eqb-true (length c.args.found.now.bits.items) 0
          (ap (λ (xs : List ℕ). length xs == 0) (sym c.as_slice.ensures.value) ∙ sym c.is_empty.ensures ∙ w.if-is_empty.true))
      | then-is_empty-via-else-is_empty+then-line-found w ↦ inr w.if-line-found.true
    ])

pub returns-in_ok-push-2 : goal.returns-in_ok-push-2
returns-in_ok-push-2 c = found_same c.args.line c.args.bit c.args.found.now _ refl c.if-line-found-2.true c.in_ok-push-2.ensures.items

pub returns-else-line-found-2 : goal.returns-else-line-found-2
returns-else-line-found-2 c =
    found_behind c.args.line c.args.bit c.args.found.now (λ none.
    let never : true ≡ false =
    sym (eq-eqb (length c.args.found.now.bits.items) 0 none) ∙ ap (λ (xs : List ℕ). length xs == 0) (sym c.as_slice.ensures.value) ∙ sym c.is_empty.ensures ∙ c.if-is_empty.false in cc)
    (omega (arith, c.if-line-found.false, c.if-line-found-2.false))
