-- Marks of bits besides those that had one.
use Rattle.std.proofs.Common.{◌≡◌, ◌≢◌, ℕ, ◌+◌, ◌-◌, ◌<◌, ◌≤◌, ◌⊎◌, inl, inr, Bool, true, List, length, set, refl, sym, ap, ◌∙◌, subst, arith}
use Rattle.std.specs.List.{slice_get}
use Rattle.std.specs.Prelude.{Some}
use Rattle.std.proofs.lemmas.Bool.{cases_lt}
use Rattle.std.proofs.lemmas.List.{length-set}
use Rattle.std.proofs.lemmas.Option.{same_Some}
use Rattle.pw_defs.specs.declared.design.Body.TheVariants.{Module as ModuleBody}
use Rattle.list_defs.proofs.Longer.{slice_get-set_other, slice_get-set_same}
use Rattle.design_defs.specs.Ranges.{width}
use Rattle.module_rows.specs.declared.plain.Netlist.{Netlist}
use Rattle.net_hierarchy.proofs.Places.{same_or_not}
use Rattle.net_places.specs.Plans.{rows_at}
use Rattle.net_places.specs.declared.plans.Plans.{Plans}
use Rattle.net_places.specs.declared.rows.NetRow.{NetRow}
use Rattle.net_feeds.specs.Marked.{IsMarked}
use Rattle.net_feeds.specs.TopInputs.{AreMarkedAlso, IsInputBit, IsInputBitOf, IsInputPort, IsWithin}

-- nothing is marked where there is nothing to mark
pub also_none : (P : ℕ → Type 0) (marks : List Bool) → ((bit : ℕ) → P bit → ⊥) → AreMarkedAlso P marks marks
also_none P marks never = record { same = refl; marked = λ bit within. (λ is. inl is, λ either. back bit either) }
  where
    back : (bit : ℕ) → IsMarked marks bit ⊎ P bit → IsMarked marks bit
    back bit (inl is) = is
    back bit (inr p) = absurd (never bit p)

-- what is the same is marked the same
pub also_alike : (P Q : ℕ → Type 0) (old new : List Bool) → AreMarkedAlso P old new → ((bit : ℕ) → bit < length old → P bit → Q bit) → ((bit : ℕ) → bit < length old → Q bit → P bit)
    → AreMarkedAlso Q old new
also_alike P Q old new are to back = record {
  same = are.same;
  marked = λ bit within. (λ is. one bit within ((are.marked bit within).0 is), λ either. (are.marked bit within).1 (other bit within either));
}
  where
    one : (bit : ℕ) → bit < length old → IsMarked old bit ⊎ P bit → IsMarked old bit ⊎ Q bit
    one bit within (inl is) = inl is
    one bit within (inr p) = inr (to bit within p)

    other : (bit : ℕ) → bit < length old → IsMarked old bit ⊎ Q bit → IsMarked old bit ⊎ P bit
    other bit within (inl is) = inl is
    other bit within (inr q) = inr (back bit within q)

-- marks after marks
pub also_then : (P Q : ℕ → Type 0) (old mid new : List Bool) → AreMarkedAlso P old mid → AreMarkedAlso Q mid new → AreMarkedAlso (λ bit. P bit ⊎ Q bit) old new
also_then P Q old mid new first second = record { same = second.same ∙ first.same; marked = λ bit within. (to bit within, back bit within) }
  where
    inside : (bit : ℕ) → bit < length old → bit < length mid
    inside bit within = omega (arith, within, first.same)

    to : (bit : ℕ) → bit < length old → IsMarked new bit → IsMarked old bit ⊎ (P bit ⊎ Q bit)
    to bit within is = by ((second.marked bit (inside bit within)).0 is)
      where
        early : IsMarked old bit ⊎ P bit → IsMarked old bit ⊎ (P bit ⊎ Q bit)
        early (inl was) = inl was
        early (inr p) = inr (inl p)

        by : IsMarked mid bit ⊎ Q bit → IsMarked old bit ⊎ (P bit ⊎ Q bit)
        by (inl was) = early ((first.marked bit within).0 was)
        by (inr q) = inr (inr q)

    back : (bit : ℕ) → bit < length old → IsMarked old bit ⊎ (P bit ⊎ Q bit) → IsMarked new bit
    back bit within (inl was) = (second.marked bit (inside bit within)).1 (inl ((first.marked bit within).1 (inl was)))
    back bit within (inr (inl p)) = (second.marked bit (inside bit within)).1 (inl ((first.marked bit within).1 (inr p)))
    back bit within (inr (inr q)) = (second.marked bit (inside bit within)).1 (inr q)

-- one bit more
also_one : (marks : List Bool) (at : ℕ) → at < length marks → AreMarkedAlso (λ bit. bit ≡ at) marks (set marks at true)
also_one marks at within = record { same = length-set marks at true; marked = λ bit inside. (λ is. to bit is (same_or_not bit at), λ either. back bit either (same_or_not bit at)) }
  where
    here : (bit : ℕ) → bit ≡ at → IsMarked (set marks at true) bit
    here bit same = ap (slice_get (set marks at true)) same ∙ slice_get-set_same marks at true within

    to : (bit : ℕ) → IsMarked (set marks at true) bit → (bit ≡ at) ⊎ (bit ≢ at) → IsMarked marks bit ⊎ (bit ≡ at)
    to bit is (inl same) = inr same
    to bit is (inr differ) = inl (sym (slice_get-set_other marks at bit true differ) ∙ is)

    back : (bit : ℕ) → IsMarked marks bit ⊎ (bit ≡ at) → (bit ≡ at) ⊎ (bit ≢ at) → IsMarked (set marks at true) bit
    back bit either (inl same) = here bit same
    back bit (inl was) (inr differ) = slice_get-set_other marks at bit true differ ∙ was
    back bit (inr same) (inr differ) = absurd (differ same)

pub bits_more : (first at : ℕ) (old mid : List Bool) → first ≤ at → at < length mid → AreMarkedAlso (IsWithin first (at - first)) old mid
    → AreMarkedAlso (IsWithin first (at + 1 - first)) old (set mid at true)
bits_more first at old mid low within are =
    also_alike (λ bit. IsWithin first (at - first) bit ⊎ (bit ≡ at)) (IsWithin first (at + 1 - first)) old (set mid at true)
    (also_then (IsWithin first (at - first)) (λ bit. bit ≡ at) old mid (set mid at true) are (also_one mid at within)) to back
  where
    to : (bit : ℕ) → bit < length old → IsWithin first (at - first) bit ⊎ (bit ≡ at) → IsWithin first (at + 1 - first) bit
    to bit inside (inl is) = (is.0, omega (arith, is.1, low))
    to bit inside (inr same) = (omega (arith, same, low), omega (arith, same, low))

    back : (bit : ℕ) → bit < length old → IsWithin first (at + 1 - first) bit → IsWithin first (at - first) bit ⊎ (bit ≡ at)
    back bit inside is = by (cases_lt bit at)
      where
        by : (bit < at) ⊎ (at ≤ bit) → IsWithin first (at - first) bit ⊎ (bit ≡ at)
        by (inl less) = inl (is.0, omega (arith, less, low))
        by (inr more) = inr (omega (arith, more, is.1, low))

-- all of them, up to the end of the marks
pub bits_all : (first count at : ℕ) (old new : List Bool) → ((bit : ℕ) → bit < length old → IsWithin first count bit → bit < at) → at - first ≤ count
    → AreMarkedAlso (IsWithin first (at - first)) old new → AreMarkedAlso (IsWithin first count) old new
bits_all first count at old new end short are =
    also_alike (IsWithin first (at - first)) (IsWithin first count) old new are
    (λ bit within is. (is.0, omega (arith, is.1, short)))
    (λ bit within is. (is.0, omega (arith, is.0, end bit within is)))

module _ (n : Netlist) (plans : Plans) (holder : ℕ) where
  -- a net that is an input
  pub net_marked : (net : ℕ) (row : NetRow) (old new : List Bool) → slice_get (rows_at plans (ModuleBody holder)) net ≡ Some row → IsInputPort n holder row.port
      → AreMarkedAlso (IsWithin row.first (width row.range)) old new → AreMarkedAlso (IsInputBit n plans holder net) old new
  net_marked net row old new at input are =
      also_alike (IsWithin row.first (width row.range)) (IsInputBit n plans holder net) old new are
      (λ bit within is. record { row = row; there = at; input = input; within = is })
      (λ bit within is. subst (λ (r : NetRow). IsWithin r.first (width r.range) bit) (same_Some is.row row (sym is.there ∙ at)) is.within)

  -- a net that is none
  pub net_unmarked : (net : ℕ) (marks : List Bool) → ((row : NetRow) → slice_get (rows_at plans (ModuleBody holder)) net ≡ Some row → IsInputPort n holder row.port → ⊥)
      → AreMarkedAlso (IsInputBit n plans holder net) marks marks
  net_unmarked net marks never = also_none (IsInputBit n plans holder net) marks (λ bit is. never is.row is.there is.input)

  pub nets_none : (marks : List Bool) → AreMarkedAlso (IsInputBitOf n plans holder 0) marks marks
  nets_none marks = also_none (IsInputBitOf n plans holder 0) marks (λ bit is. absurd (omega (arith, is.1)))

  pub nets_more : (count : ℕ) (old mid new : List Bool) → AreMarkedAlso (IsInputBitOf n plans holder count) old mid → AreMarkedAlso (IsInputBit n plans holder count) mid new
      → AreMarkedAlso (IsInputBitOf n plans holder (count + 1)) old new
  nets_more count old mid new first second =
      also_alike (λ bit. IsInputBitOf n plans holder count bit ⊎ IsInputBit n plans holder count bit) (IsInputBitOf n plans holder (count + 1)) old new
      (also_then (IsInputBitOf n plans holder count) (IsInputBit n plans holder count) old mid new first second) to back
    where
      to : (bit : ℕ) → bit < length old → IsInputBitOf n plans holder count bit ⊎ IsInputBit n plans holder count bit → IsInputBitOf n plans holder (count + 1) bit
      to bit within (inl is) = (is.0, omega (arith, is.1), is.2)
      to bit within (inr is) = (count, omega arith, is)

      back : (bit : ℕ) → bit < length old → IsInputBitOf n plans holder (count + 1) bit → IsInputBitOf n plans holder count bit ⊎ IsInputBit n plans holder count bit
      back bit within is = by (cases_lt is.0 count)
        where
          by : (is.0 < count) ⊎ (count ≤ is.0) → IsInputBitOf n plans holder count bit ⊎ IsInputBit n plans holder count bit
          by (inl less) = inl (is.0, less, is.2)
          by (inr last) = let same : is.0 ≡ count = omega (arith, is.1, last) in inr (subst (λ (k : ℕ). IsInputBit n plans holder k bit) same is.2)
