-- What is made of several sets, and what is known before.
use Rattle.std.specs.Prelude.{◌≡◌, ◌≢◌, ℕ, ◌+◌, Bool, ◌&&◌, List, [], ◌++◌, map, length, replicate}
use Rattle.diagram_defs.specs.declared.locals.Local.{Local}
use Rattle.diagram_defs.specs.declared.quantifiers.Quantifier.{Quantifier}
use Rattle.diagram_defs.specs.Diagrams.{Diagram, IsNumberFor}
use Rattle.diagram_defs.specs.Locals.{states_of}
use Rattle.diagram_defs.specs.Sets.{full_set}
use Rattle.diagram_defs.specs.Quantified.{quantified}
use Rattle.diagram_defs.specs.Answers.{IsCause}
use Rattle.state_meets.specs.declared.faults.GatherFault.{GatherFault}
use Rattle.state_meets.specs.declared.faults.GatherFault.TheVariants.{GivenUp, Table}
use Rattle.state_meets.specs.declared.plans.Plan.{Plan}
use Rattle.state_meets.specs.Walks.{AreBegun}

-- the whole states that are in all of the sets, or in any of them
abbrev pub gathered_set : Diagram → Quantifier → List Local → List ℕ → Bool
gathered_set d which sets state = full_set d 0 state && quantified which (λ s. states_of d s state) sets

-- a walk may give up at any time; a fault of the table has its cause
abbrev pub IsReason : Diagram → (ℕ → (List ℕ → Bool) → Type 0) → GatherFault → Type 0
IsReason d Allowed GivenUp = Unit {0}
IsReason d Allowed (Table fault) = IsCause d Allowed fault

-- the lists, with so many empty ones before and behind
abbrev pub padded : ℕ → List (List ℕ) → ℕ → List (List ℕ)
padded before lists behind = replicate before [] ++ (lists ++ replicate behind [])

-- the numbers that begin at each level
abbrev pub begun_of : Plan → List (List ℕ)
begun_of plan = padded plan.before (map (λ numbers. numbers.items) plan.begun.items) plan.behind

-- n is 0, or the number of all rests of the level
abbrev pub IsFullNumber : Diagram → ℕ → ℕ → Type 0
IsFullNumber d level n = n ≢ 0 → IsNumberFor d level (full_set d level) n

-- there is a list of numbers for each level and for the end
pub record IsPlan (d : Diagram) (plan : Plan) : Type 0 where
  pub count : length (begun_of plan) ≡ length d.arities + 1
  pub begun : AreBegun d 0 (begun_of plan)
