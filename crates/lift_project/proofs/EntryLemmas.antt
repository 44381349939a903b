-- Parts of the sets that a kept number stands for.
use Rattle.std.proofs.Common.{◌≡◌, ℕ, ◌*◌, ◌%◌, ◌^◌, ◌<◌, Bool, ◌&&◌, ◌==◌, nat_eq, List, length, get_or, refl, sym, ap, ◌∙◌, inl, inr, arith}
use Rattle.std.specs.Int.{bit_at}
use Rattle.std.proofs.Math.Pow.{pow-lt}
use Rattle.std.proofs.Math.Nat.{mod-eq_of_lt}
use Rattle.std.proofs.Math.Bool.{and-false}
use Rattle.std.proofs.lemmas.Nat.Bits.{bit_at-pow_same, bit_at-pow_other}
use Rattle.std.proofs.lemmas.Bool.{cases_eq, eq-eqb, ne_eqb}
use Rattle.diagram_defs.specs.Rests.{is_rest}
use Rattle.diagram_defs.specs.Diagrams.{Diagram, member, IsSet, IsNumberFor, Grows}
use Rattle.diagram_defs.specs.Diagrams.IsKid.{empty}
use Rattle.diagram_defs.specs.Sets.{literal_set, and_set}
use Rattle.diagram_defs.specs.Parts.{IsPartOfSome, IsPartOf}
use Rattle.diagram_defs.proofs.PartLemmas.{IsPartOf_same, IsPartOf_grown}
use Rattle.diagram_defs.proofs.Meaning.{member-empty}
use Rattle.diagram_defs.proofs.Growth.{member_grows}
use Rattle.lift_project.specs.Entries.{value_set, held_set}

-- the shift by an index, as it is computed
pub shifted : (k : ℕ) → k < 64 → 1 * 2 ^ k % 18446744073709551616 ≡ 2 ^ k
shifted k low =
    let one : 1 * 2 ^ k ≡ 2 ^ k = omega arith in
    ap (λ (n : ℕ). n % 18446744073709551616) one ∙ mod-eq_of_lt (pow-lt low)

-- the bit of an index alone picks that index
pub literal_value : (d : Diagram) (level index : ℕ) (state : List ℕ) → literal_set d level (2 ^ index) state ≡ value_set d.arities level index state
literal_value d level index state = ap (λ (b : Bool). is_rest d.arities state && b) (picks (get_or state level 0))
  where
    picks : (i : ℕ) → (bit_at (2 ^ index) i == 1) ≡ nat_eq i index
    picks i = elim (cases_eq i index) [
      | inl same ↦ ap (λ (k : ℕ). bit_at (2 ^ index) k == 1) same ∙ ap (λ (b : ℕ). b == 1) (bit_at-pow_same index) ∙ sym (eq-eqb i index same)
      | inr other ↦ ap (λ (b : ℕ). b == 1) (bit_at-pow_other index i other) ∙ sym (ne_eqb i index other)
    ]

module _ (IsListed : (List ℕ → Bool) → Type 0) (set other : List ℕ → Bool) (listed : IsListed other) (agree : (state : List ℕ) → set state ≡ other state) where
  -- a part of a set that agrees with a listed one
  pub listed_part : (levels l : ℕ) (part : List ℕ → Bool) → IsPartOf levels 0 set l part → IsPartOfSome levels IsListed l part
  listed_part levels l part p = record { entry = other; listed = listed; of = IsPartOf_same levels 0 set other l part agree p }

  -- the same in a table that has grown
  pub listed_grown : (old mid : Diagram) → Grows old mid → (l : ℕ) (part : List ℕ → Bool) → IsPartOf (length mid.arities) 0 set l part → IsPartOfSome (length old.arities) IsListed l part
  listed_grown old mid g l part p = record { entry = other; listed = listed; of = IsPartOf_grown old mid 0 set other g agree l part p }

-- the states of a set that have an index, met with the literal of the index
pub held_meets : (old mid : Diagram) (level index mask value n : ℕ) → mask ≡ 2 ^ index → Grows old mid → IsSet old 0 n → IsNumberFor mid 0 (literal_set old level mask) value → (state : List ℕ) → and_set mid.nodes value n state ≡ held_set old.arities level index (member old.nodes n) state
held_meets old mid level index mask value n bit g is found state =
    ap (λ (b : Bool). b && member mid.nodes n state) (found.same state ∙ ap (λ (m : ℕ). literal_set old level m state) bit ∙ literal_value old level index state)
    ∙ ap (λ (b : Bool). value_set old.arities level index state && b) (member_grows old mid 0 n state g is)

-- nothing of the empty set
pub held_none : (d : Diagram) (level index n : ℕ) → n ≡ 0 → IsNumberFor d 0 (held_set d.arities level index (member d.nodes n)) 0
held_none d level index n none = record {
  in_level = empty refl;
  same = λ state.
      member-empty d.nodes state
      ∙ sym (ap (λ (k : ℕ). value_set d.arities level index state && member d.nodes k state) none ∙ ap (λ (b : Bool). value_set d.arities level index state && b) (member-empty d.nodes state) ∙ and-false (value_set d.arities level index state));
}
