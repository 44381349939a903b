-- The least bits of rings, with marks by numbers.
use Rattle.std.specs.Prelude.{◌≡◌, ◌<◌, ◌↔◌, ℕ, Bool, true, false, List, Option, Some, None, length, set, slice_get, MatchOption}
use Rattle.std.specs.declared.cmp.Ordering.TheVariants.{Less}
use Rattle.pw_defs.specs.declared.design.Body.TheVariants.{Module as ModuleBody}
use Rattle.pw_defs.specs.declared.faults.AtModule.{AtModule}
use Rattle.list_defs.specs.Members.{IsIn}
use Rattle.list_defs.specs.Orders.{AreAllRising, name_cmp}
use Rattle.list_defs.specs.Rings.{IsReached}
use Rattle.design_defs.specs.Bits.{HasSpotName, IsSpot, Spot, spot_cmp}
use Rattle.pw_defs.specs.declared.faults.DesignFault.TheVariants.{N10}
use Rattle.net_hierarchy.specs.Ordered.{HasNoneOf}
use Rattle.design_defs.specs.DesignFaults.{FaultKind, HasFirstFault, IsLeastOnRing}
use Rattle.design_defs.specs.Hierarchy.{Sources}
use Rattle.design_defs.specs.Links.{Feeds}
use Rattle.net_bits.specs.Placed.{ArePlaced}
use Rattle.net_bits.specs.declared.placed.Placed.{Placed}
use Rattle.net_instances.specs.declared.numbering.InstanceRow.{InstanceRow}
use Rattle.net_rings.specs.Least.{HasRank}
use Rattle.net_rings.specs.declared.minima.Ranked.{Ranked}
use Rattle.net_loops.specs.Lines.{mark_at}
use Rattle.net_loops.specs.declared.lines.Candidate.{Candidate}

-- some bits are marked
pub record AreMarked (bits : List ℕ) (count : ℕ) (marks : List Bool) : Type 0 where
  pub all : length marks ≡ count
  pub only : (n : ℕ) → slice_get marks n ≡ Some true → IsIn n bits
  pub each : (n : ℕ) → IsIn n bits → n < count → slice_get marks n ≡ Some true

-- the bits that are marked have their ranks
pub record AreMarkedRanks (order : List Ranked) (marks : List Bool) (ranks : List (Option ℕ)) : Type 0 where
  pub all : length ranks ≡ length marks
  pub only : (n rank : ℕ) → mark_at ranks n ≡ Some rank → (slice_get marks n ≡ Some true) × HasRank order n rank
  pub each : (n rank : ℕ) → HasRank order n rank → slice_get marks n ≡ Some true → (other : ℕ) × (mark_at ranks n ≡ Some other)

-- a bit has its rank if it is marked
abbrev pub with_rank : Option Bool → Ranked → List (Option ℕ) → List (Option ℕ)
with_rank None item ranks = ranks
with_rank (Some true) item ranks = set ranks item.bit (Some item.rank)
with_rank (Some false) item ranks = ranks

-- a bit with a mark is the least of a ring
pub record IsLeastAt (s : Sources) (spots : List Spot) (n : ℕ) : Type 0 where
  pub x : Spot
  pub name : List ℕ
  pub at : slice_get spots n ≡ Some x
  pub least : IsLeastOnRing s x name

-- the mark of a bit
pub record HasMark (spots : List Spot) (marks : List (Option ℕ)) (x : Spot) : Type 0 where
  pub n : ℕ
  pub mark : ℕ
  pub at : slice_get spots n ≡ Some x
  pub marked : mark_at marks n ≡ Some mark

-- the bits with marks are the least ones of rings, and marks are less where names come before
pub record AreLeastBits (s : Sources) (spots : List Spot) (marks : List (Option ℕ)) : Type 0 where
  pub each : (n mark : ℕ) → mark_at marks n ≡ Some mark → IsLeastAt s spots n
  pub all : (x : Spot) (name : List ℕ) → IsLeastOnRing s x name → HasMark spots marks x
  pub less : (n m r q : ℕ) (x y : Spot) (a b : List ℕ) → mark_at marks n ≡ Some r → mark_at marks m ≡ Some q → slice_get spots n ≡ Some x → slice_get spots m ≡ Some y
      → HasSpotName s x a → HasSpotName s y b → (r < q) ↔ (name_cmp a b ≡ Less)

-- no bits are on a ring, or the least ones are marked
abbrev pub IsLeastAnswer : Sources → List Spot → Option (List (Option ℕ)) → Type 0
IsLeastAnswer s spots None = (x : Spot) → IsReached (Feeds s) x x → ⊥
IsLeastAnswer s spots (Some marks) = AreLeastBits s spots marks

-- a line of the module of an instance, with the name of the bit that it feeds
pub record IsFaultAt (p : Placed) (inst : ℕ) (c : Candidate) (at : AtModule) : Type 0 where
  pub row : InstanceRow
  pub at_row : slice_get p.instances.now.rows inst ≡ Some row
  pub body : row.body ≡ ModuleBody at.«module»
  pub on_line : at.line ≡ c.line
  pub named : (s : Sources) → ArePlaced s p → (spots : List Spot) → AreAllRising spot_cmp (IsSpot s) spots → (x : Spot) → slice_get spots c.bit ≡ Some x
      → (name : List ℕ) → HasSpotName s x name → at.name ≡ name

-- no bits are on a ring, or this is the first fault of a design
abbrev pub IsLoopAnswer : Sources → Option AtModule → Type 0
IsLoopAnswer s found = MatchOption found (HasNoneOf s FaultKind.wire_loop) (λ at. HasFirstFault s (N10 at))
