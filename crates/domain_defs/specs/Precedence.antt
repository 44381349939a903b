-- Which candidate is effective on a chain.
use Rattle.std.specs.Prelude.{◌≡◌, ◌≢◌, ℕ, ◌<◌, Bool, true, false, not, ◌&&◌, ◌==◌, List, Option, Some, None, slice_get}
use Rattle.std.specs.Ordering.{nat_cmp, ordering_then}
use Rattle.std.specs.declared.cmp.Ordering.{Ordering}
use Rattle.std.specs.declared.cmp.Ordering.TheVariants.{Less, Equal}
use Rattle.pw_defs.specs.declared.design.Design.{Design}
use Rattle.pw_defs.specs.declared.intent.Face.{Face}
use Rattle.pw_defs.specs.declared.intent.Intent.{Intent}
use Rattle.pw_defs.specs.declared.intent.SupplySet.{SupplySet}
use Rattle.pw_defs.specs.declared.strategies.Candidate.{Candidate}
use Rattle.pw_defs.specs.declared.strategies.Choice.{Choice}
use Rattle.pw_defs.specs.declared.strategies.Tool.{Tool}
use Rattle.list_defs.specs.Orders.{IsPutInOrder}
use Rattle.domain_defs.specs.Candidates.{AreCandidatesMade}

-- the rank of a filter: 3 for source and sink, 2 for a sink alone, 1 for a source alone, 0 for neither
abbrev pub rank_of : Option SupplySet → Option SupplySet → ℕ
rank_of None None = 0
rank_of (Some source) None = 1
rank_of None (Some sink) = 2
rank_of (Some source) (Some sink) = 3

-- the rank of a candidate is that of its filter
abbrev pub rank : Candidate → ℕ
rank c = rank_of c.filter.source c.filter.sink

-- the better candidate comes first: by class, then by rank, the greater first
abbrev pub candidate_cmp : Candidate → Candidate → Ordering
candidate_cmp a b = ordering_then (nat_cmp b.class a.class) (nat_cmp (rank b) (rank a))

-- The candidates at a face, best first; those of one class and rank in the order in which they were made.
abbrev pub AreCandidates : Design → Intent → Face → Tool → List Candidate → Type 0
AreCandidates design intent face tool list =
    (made : List Candidate) × AreCandidatesMade design intent.domains face tool intent.strategies made × IsPutInOrder candidate_cmp made list

-- whether two grounds are the same; a missing one is the same as a missing one alone
abbrev pub same_ground : Option ℕ → Option ℕ → Bool
same_ground None None = true
same_ground None (Some b) = false
same_ground (Some a) None = false
same_ground (Some a) (Some b) = a == b

-- whether two sets are the same, supply by supply
abbrev pub same_set : SupplySet → SupplySet → Bool
same_set s t = (s.power == t.power) && same_ground s.ground t.ground

-- whether a set is the one that a filter asks for, if it asks for one
abbrev pub is_asked : Option SupplySet → SupplySet → Bool
is_asked None set = true
is_asked (Some asked) set = same_set asked set

-- whether a filter that asks for different sets finds them different
abbrev pub is_apart : Bool → SupplySet → SupplySet → Bool
is_apart false from to = true
is_apart true from to = not (same_set from to)

-- Whether a candidate passes on a chain from one set to another: its source is the driver's set, its sink is the
-- receiver's, and where it asks for different sets these two are.
abbrev pub passes : SupplySet → SupplySet → Candidate → Bool
passes from to c = is_asked c.filter.source from && is_asked c.filter.sink to && is_apart c.filter.diff from to

-- a passing candidate stands at a place of the list
pub record Passes (list : List Candidate) (from to : SupplySet) (place : ℕ) (c : Candidate) : Type 0 where
  pub there : slice_get list place ≡ Some c
  pub passing : passes from to c ≡ true

-- The effective candidate: it passes, no passing one exceeds it in class, then rank, and of its equals it was made first.
pub record IsEffective (list : List Candidate) (from to : SupplySet) (place : ℕ) (c : Candidate) : Type 0 where
  pub passing : Passes list from to place c
  pub unexceeded : (other : ℕ) (o : Candidate) → Passes list from to other o → candidate_cmp o c ≢ Less
  pub made_first : (other : ℕ) (o : Candidate) → other < place → Passes list from to other o → candidate_cmp o c ≢ Equal

-- another passing candidate has the class and the rank of the one at a place
pub record IsTied (list : List Candidate) (from to : SupplySet) (place : ℕ) (c : Candidate) : Type 0 where
  pub other : ℕ
  pub candidate : Candidate
  pub elsewhere : other ≢ place
  pub passing : Passes list from to other candidate
  pub equal : candidate_cmp candidate c ≡ Equal

-- What is chosen of the candidates at a face, in their order: the effective one, and whether another one ties with it.
pub data IsChoice (list : List Candidate) (from to : SupplySet) : Choice → Type 0 where
  none : ((place : ℕ) (c : Candidate) → ¬ Passes list from to place c) → IsChoice list from to (record { first = None; tie = false })
  alone : (place : ℕ) (c : Candidate) → IsEffective list from to place c → ¬ IsTied list from to place c
      → IsChoice list from to (record { first = Some place; tie = false })
  tied : (place : ℕ) (c : Candidate) → IsEffective list from to place c → IsTied list from to place c
      → IsChoice list from to (record { first = Some place; tie = true })
