-- A search from one bit through those that are there, which keeps all that it came to in a row.
use Rattle.std.specs.Prelude.{◌≡◌, ◌≢◌, ℕ, ◌<◌, Bool, true, false, ◌⊎◌, List, Some, slice_get}
use Rattle.list_defs.specs.Members.{IsIn}
use Rattle.list_defs.specs.Rings.{IsReached}
use Rattle.net_rings.specs.Fed.{IsFedByThere, IsThere}
use Rattle.net_rings.specs.declared.graphs.Rows.{Rows}

-- no mark is as great as this one
abbrev pub AreBelow : ℕ → List ℕ → Type 0
AreBelow limit marks = (n m : ℕ) → slice_get marks n ≡ Some m → m < limit

-- The bits in the row are the first one and some that it reaches. What is marked is in the row, and so are the sources of
-- the first `done` of them, among which the first one isn't.
pub record IsSearch (r : Rows) (from mark : ℕ) (marks row : List ℕ) (done : ℕ) : Type 0 where
  pub first : slice_get row 0 ≡ Some from
  pub reached : (n : ℕ) → IsIn n row → (n ≡ from) ⊎ IsReached (IsFedByThere r) from n
  pub marked : (n : ℕ) → slice_get marks n ≡ Some mark → IsIn n row
  pub looked : (k n source : ℕ) → k < done → slice_get row k ≡ Some n → IsFedByThere r n source → IsIn source row × (source ≢ from)

-- a search whose next bit was looked at, or that came back to the first one
abbrev pub IsLooked : Rows → ℕ → ℕ → List ℕ → List ℕ → ℕ → Bool → Type 0
IsLooked r from mark marks row done true = IsReached (IsFedByThere r) from from
IsLooked r from mark marks row done false = IsSearch r from mark marks row done

-- A search at the sources of its next bit, of which it has looked at some.
pub record IsLooking (r : Rows) (from mark bit : ℕ) (marks row seen : List ℕ) (done : ℕ) : Type 0 where
  pub search : IsSearch r from mark marks row done
  pub here : slice_get row done ≡ Some bit
  pub so_far : (source : ℕ) → IsIn source seen → IsThere r.bits.items source → IsIn source row × (source ≢ from)

-- a search that has looked at one source more, or that came back to the first bit
abbrev pub IsLookedAt : Rows → ℕ → ℕ → ℕ → List ℕ → List ℕ → List ℕ → ℕ → Bool → Type 0
IsLookedAt r from mark bit marks row seen done true = IsReached (IsFedByThere r) from from
IsLookedAt r from mark bit marks row seen done false = IsLooking r from mark bit marks row seen done
