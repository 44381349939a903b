-- Where two bytes close what is skipped.
use Rattle.std.proofs.Common.{◌≡◌, ℕ, ◌+◌, ◌<◌, ◌≤◌, Bool, true, false, ◌&&◌, ◌==◌, List, ◌∷◌, Option, Some, None, length, drop, get_or, refl, sym, ap, ◌∙◌, arith}
use Rattle.std.proofs.lemmas.List.{drop_more, drop_all}
use Rattle.text_defs.specs.Pieces.{begins_with, closed_by}

-- so many more than what was counted, where anything was
unfoldable pub counted_on : ℕ → Option ℕ → Option ℕ
counted_on before None = None
counted_on before (Some n) = Some (before + n)

pub closed_here : (a b : ℕ) (text : List ℕ) (at x : ℕ) → at < length text → x ≡ get_or text at 0 → (x == a && begins_with b (drop (at + 1) text)) ≡ true
    → counted_on at (closed_by a b (drop at text)) ≡ closed_by a b text → Some (at + 2) ≡ closed_by a b text
unfolding counted_on closed_by
closed_here a b text at x lt is closes so_far =
    sym (ap (λ l. counted_on at (closed_by a b l)) (drop_more text at 0 lt) ∙ rw (sym is) (here (drop (at + 1) text) closes)) ∙ so_far
  where
    here : (rest : List ℕ) → (x == a && begins_with b rest) ≡ true → counted_on at (closed_by a b (x ∷ rest)) ≡ Some (at + 2)
    here rest closes = rw closes refl

pub closed_on : (a b : ℕ) (text : List ℕ) (at x : ℕ) → at < length text → x ≡ get_or text at 0 → (x == a && begins_with b (drop (at + 1) text)) ≡ false
    → counted_on at (closed_by a b (drop at text)) ≡ closed_by a b text → counted_on (at + 1) (closed_by a b (drop (at + 1) text)) ≡ closed_by a b text
unfolding counted_on closed_by
closed_on a b text at x lt is not_here so_far =
    sym (ap (λ l. counted_on at (closed_by a b l)) (drop_more text at 0 lt) ∙ rw (sym is) (here (drop (at + 1) text) not_here (closed_by a b (drop (at + 1) text)) refl)) ∙ so_far
  where
    here : (rest : List ℕ) → (x == a && begins_with b rest) ≡ false → (o : Option ℕ) → closed_by a b rest ≡ o
        → counted_on at (closed_by a b (x ∷ rest)) ≡ counted_on (at + 1) (closed_by a b rest)
    here rest not_here None e = rw (not_here, e) refl
    here rest not_here (Some n) e = rw (not_here, e) (ap Some (omega arith))

pub never_closed : (a b : ℕ) (text : List ℕ) (at : ℕ) → length text ≤ at → counted_on at (closed_by a b (drop at text)) ≡ closed_by a b text → None ≡ closed_by a b text
unfolding counted_on closed_by
never_closed a b text at past so_far = sym (rw (drop_all at text past) refl) ∙ so_far

pub from_start : (a b : ℕ) (text : List ℕ) → counted_on 0 (closed_by a b text) ≡ closed_by a b text
unfolding counted_on
from_start a b text = by (closed_by a b text)
  where
    by : (o : Option ℕ) → counted_on 0 o ≡ o
    by None = refl
    by (Some n) = ap Some (omega arith)

-- a test that looked at what stands behind
pub looked_behind : (a b x : ℕ) (behind rest : List ℕ) (found answer : Bool) → behind ≡ rest → found ≡ (x == a && begins_with b behind) → found ≡ answer
    → (x == a && begins_with b rest) ≡ answer
looked_behind a b x behind rest found answer same is e = ap (λ l. x == a && begins_with b l) (sym same) ∙ sym is ∙ e
