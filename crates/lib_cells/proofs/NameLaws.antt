-- White space at the ends of a text.
use Rattle.std.proofs.Common.{◌≡◌, ℕ, true, false, List, [], ◌∷◌, ◌++◌, length, reverse, refl, sym, ap, ◌∙◌}
use Rattle.std.proofs.lemmas.List.{reverse-append, reverse-reverse}
use Rattle.text_defs.specs.Pieces.{is_white}
use Rattle.lib_cells.specs.Groups.{from_ink}

pub ink_here : (text more : List ℕ) (b : ℕ) → text ≡ b ∷ more → is_white b ≡ false → from_ink text ≡ text
unfolding from_ink
ink_here text more b is ink = rw (is, ink) refl

pub ink_on : (text more : List ℕ) (b : ℕ) → text ≡ b ∷ more → is_white b ≡ true → from_ink text ≡ from_ink more
unfolding from_ink
ink_on text more b is white = rw (is, white) refl

pub ink_none : (text : List ℕ) → length text ≡ 0 → from_ink text ≡ text
unfolding from_ink
ink_none [] none = refl
ink_none (b ∷ text) none = cc

backward : (text more : List ℕ) (b : ℕ) → text ≡ more ++ b ∷ [] → reverse text ≡ b ∷ reverse more
backward text more b is = ap reverse is ∙ reverse-append more (b ∷ [])

pub last_ink_here : (text more whole : List ℕ) (b : ℕ) → text ≡ more ++ b ∷ [] → is_white b ≡ false → from_ink (reverse text) ≡ from_ink (reverse whole)
    → text ≡ reverse (from_ink (reverse whole))
last_ink_here text more whole b is ink kept =
    sym (reverse-reverse text) ∙ ap reverse (sym (ink_here (reverse text) (reverse more) b (backward text more b is) ink) ∙ kept)

pub last_ink_on : (text more : List ℕ) (b : ℕ) → text ≡ more ++ b ∷ [] → is_white b ≡ true → from_ink (reverse text) ≡ from_ink (reverse more)
last_ink_on text more b is white = ink_on (reverse text) (reverse more) b (backward text more b is) white

pub last_ink_none : (text whole : List ℕ) → length text ≡ 0 → from_ink (reverse text) ≡ from_ink (reverse whole) → text ≡ reverse (from_ink (reverse whole))
unfolding from_ink
last_ink_none [] whole none kept = ap reverse kept
last_ink_none (b ∷ text) whole none kept = cc
