-- Sets and candidates as a unit sees them: each supply by its root there.
use Rattle.std.specs.Prelude.{◌≡◌, ℕ, Bool, List, Option, Some, None}
use Rattle.pw_defs.specs.declared.intent.SupplySet.{SupplySet}
use Rattle.pw_defs.specs.declared.strategies.Act.{Act}
use Rattle.pw_defs.specs.declared.strategies.Act.TheVariants.{Iso, Shift}
use Rattle.pw_defs.specs.declared.strategies.Candidate.{Candidate}
use Rattle.pw_defs.specs.declared.strategies.Filter.{Filter}
use Rattle.pw_defs.specs.declared.strategies.Mode.{Mode}
use Rattle.pw_defs.specs.declared.supplies.Supply.{Supply}
use Rattle.supply_defs.specs.UnitViews.{HasRoots}

-- a stated set by its roots; one that isn't stated stays so
pub data HasRootsIfStated (supplies : List Supply) (stop : List ℕ) : Option SupplySet → Option SupplySet → Type 0 where
  unstated : HasRootsIfStated supplies stop None None
  stated : (set roots : SupplySet) → HasRoots supplies stop set roots → HasRootsIfStated supplies stop (Some set) (Some roots)

-- a filter with its sets by their roots
pub record IsSeenFilter (supplies : List Supply) (stop : List ℕ) (filter seen : Filter) : Type 0 where
  pub source : HasRootsIfStated supplies stop filter.source seen.source
  pub sink : HasRootsIfStated supplies stop filter.sink seen.sink
  pub diff : seen.diff ≡ filter.diff

-- what a strategy asks for, with its sets by their roots
pub data IsSeenAct (supplies : List Supply) (stop : List ℕ) : Act → Act → Type 0 where
  isolates : (mode : Mode) (supply seen : Option SupplySet) → HasRootsIfStated supplies stop supply seen
      → IsSeenAct supplies stop (Iso mode supply) (Iso mode seen)
  shifts : (mode : Mode) (up down : Bool) (threshold : ℕ) (input output seen_input seen_output : Option SupplySet)
      → HasRootsIfStated supplies stop input seen_input → HasRootsIfStated supplies stop output seen_output
      → IsSeenAct supplies stop (Shift mode up down threshold input output) (Shift mode up down threshold seen_input seen_output)

-- a candidate with its sets by their roots
pub record IsSeenCandidate (supplies : List Supply) (stop : List ℕ) (candidate seen : Candidate) : Type 0 where
  pub class : seen.class ≡ candidate.class
  pub filter : IsSeenFilter supplies stop candidate.filter seen.filter
  pub act : IsSeenAct supplies stop candidate.act seen.act
