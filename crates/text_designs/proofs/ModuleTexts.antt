-- Which netlist has the module of a number.
use Rattle.std.proofs.Common.{◌≡◌, ℕ, zero, suc, ◌+◌, ◌-◌, ◌<◌, ◌≤◌, List, ◌∷◌, ◌++◌, Option, Some, drop, get_or, length, refl, sym, ap, ◌∙◌, arith}
use Rattle.std.specs.Prelude.{replicate, slice_get, unwrap_or}
use Rattle.std.proofs.lemmas.List.{drop_all, drop_more, length-replicate}
use Rattle.list_defs.proofs.Longer.{slice_get-append, slice_get_behind}
use Rattle.text_designs.specs.Texts.{texts_of_modules}

all_same : (count number i : ℕ) → i < count → slice_get (replicate count number) i ≡ Some number
all_same zero number i within = absurd (omega arith)
all_same (suc count) number zero within = refl
all_same (suc count) number (suc i) within = all_same count number i (omega arith)

pub in_this_text : (number count : ℕ) (counts : List ℕ) (i : ℕ) → i < count → slice_get (texts_of_modules number (count ∷ counts)) i ≡ Some number
in_this_text number count counts i within =
    slice_get-append (replicate count number) (texts_of_modules (number + 1) counts) i number (all_same count number i within)

pub in_later_text : (number count : ℕ) (counts : List ℕ) (i : ℕ) → count ≤ i
    → slice_get (texts_of_modules number (count ∷ counts)) i ≡ slice_get (texts_of_modules (number + 1) counts) (i - count)
in_later_text number count counts i past =
    let long : length (replicate count number) ≡ count = length-replicate count number in
    let split : i ≡ length (replicate count number) + (i - count) = omega (arith, long, past) in
    ap (λ (k : ℕ). slice_get (texts_of_modules number (count ∷ counts)) k) split
    ∙ slice_get_behind (replicate count number) (texts_of_modules (number + 1) counts) (i - count)

-- the module is this many modules behind the netlists before the one at a place
module _ (counts : List ℕ) (i text left holder : ℕ) (at : slice_get (texts_of_modules text (drop i counts)) left ≡ slice_get (texts_of_modules 0 counts) holder) where
  module _ (within : i < length counts) where
    rest : drop i counts ≡ get_or counts i 0 ∷ drop (i + 1) counts
    rest = drop_more counts i 0 within

    pub text_is_this : left < get_or counts i 0 → text ≡ unwrap_or (slice_get (texts_of_modules 0 counts) holder) 0
    text_is_this inside =
        let here : slice_get (texts_of_modules text (drop i counts)) left ≡ Some text =
        ap (λ (ns : List ℕ). slice_get (texts_of_modules text ns) left) rest ∙ in_this_text text (get_or counts i 0) (drop (i + 1) counts) left inside in
        sym (ap (λ (o : Option ℕ). unwrap_or o 0) (sym at ∙ here))

    pub text_is_later : get_or counts i 0 ≤ left
        → slice_get (texts_of_modules (text + 1) (drop (i + 1) counts)) (left - get_or counts i 0) ≡ slice_get (texts_of_modules 0 counts) holder
    text_is_later past =
        sym (in_later_text text (get_or counts i 0) (drop (i + 1) counts) left past) ∙ sym (ap (λ (ns : List ℕ). slice_get (texts_of_modules text ns) left) rest)
        ∙ at

  pub text_is_none : length counts ≤ i → 0 ≡ unwrap_or (slice_get (texts_of_modules 0 counts) holder) 0
  text_is_none past =
      ap (λ (o : Option ℕ). unwrap_or o 0) (sym (ap (λ (ns : List ℕ). slice_get (texts_of_modules text ns) left) (drop_all i counts past)) ∙ at)
