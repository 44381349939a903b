-- Bits in order, and the least ones of rings.
use Rattle.std.specs.Prelude.{◌≡◌, ℕ, ◌<◌, ◌≤◌, List, Some, map, slice_get, take}
use Rattle.list_defs.specs.Members.{IsIn}
use Rattle.list_defs.specs.Rings.{IsReached}
use Rattle.net_rings.specs.Fed.{IsFedBy}
use Rattle.net_rings.specs.declared.minima.Ranked.{Ranked}

-- a bit of the order has this rank
abbrev pub HasRank : List Ranked → ℕ → ℕ → Type 0
HasRank order n rank = IsIn (record { bit = n; rank = rank }) order

-- each bit has one rank, and ranks don't fall
pub record AreRanked (order : List Ranked) : Type 0 where
  pub one : (n r s : ℕ) → HasRank order n r → HasRank order n s → r ≡ s
  pub rise : (i j : ℕ) (a b : Ranked) → i ≤ j → slice_get order i ≡ Some a → slice_get order j ≡ Some b → a.rank ≤ b.rank

-- one bit is fed by another, whose rank isn't below this one
abbrev pub IsFedFrom : List (List ℕ) → List Ranked → ℕ → ℕ → ℕ → Type 0
IsFedFrom sources order least fed source = IsFedBy sources fed source × (rank : ℕ) × HasRank order source rank × (least ≤ rank)

-- a bit is on a ring on which none has a lesser rank
pub record IsLeastOfRing (sources : List (List ℕ)) (order : List Ranked) (n : ℕ) : Type 0 where
  pub rank : ℕ
  pub ranked : HasRank order n rank
  pub ring : IsReached (IsFedFrom sources order rank) n n

-- the place in an order at which ranks aren't below this one any more
pub record IsPlaceOf (order : List Ranked) (rank place : ℕ) : Type 0 where
  pub before : (i : ℕ) (a : Ranked) → i < place → slice_get order i ≡ Some a → a.rank < rank
  pub behind : (i : ℕ) (a : Ranked) → place ≤ i → slice_get order i ≡ Some a → rank ≤ a.rank

-- the bits of an order before a place
abbrev pub bits_to : List Ranked → ℕ → List ℕ
bits_to order place = map (λ (a : Ranked). a.bit) (take place order)

-- each bit on a ring is one of the order
abbrev pub AreAllRanked : List (List ℕ) → List Ranked → Type 0
AreAllRanked sources order = (n : ℕ) → IsReached (IsFedBy sources) n n → (rank : ℕ) × HasRank order n rank
