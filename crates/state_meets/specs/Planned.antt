-- How the sets of a walk are spread over the levels.
use Rattle.std.specs.Prelude.{◌≡◌, ℕ, ◌+◌, ◌≤◌, ◌<◌, List, All, drop, length}
use Rattle.diagram_defs.specs.declared.locals.Local.{Local}
use Rattle.diagram_defs.specs.declared.quantifiers.Quantifier.{Quantifier}
use Rattle.diagram_defs.specs.Diagrams.{Diagram, Shape, member}
use Rattle.diagram_defs.specs.Quantified.{quantified}
use Rattle.state_meets.specs.declared.plans.Plan.{Plan}
use Rattle.state_meets.specs.Walks.{later, AreBegun}
use Rattle.state_meets.specs.Gathered.{IsPlan, begun_of}

-- the lists have the numbers of the sets at the levels where they begin: a state is in all of the sets, or any, where
-- its ends are in those of the numbers
pub record IsSpread (d : Diagram) (sets : List Local) (begun : List (List ℕ)) : Type 0 where
  pub count : length begun ≡ length d.arities + 1
  pub begun_in : AreBegun d 0 begun
  pub same : (which : Quantifier) (nodes : List Shape) (state : List ℕ) → later which nodes begun state ≡ quantified which (λ s. member nodes s.number (drop s.level state)) sets

-- before this level nothing begins
abbrev pub Begins : List (List ℕ) → ℕ → Type 0
Begins begun level = (which : Quantifier) (nodes : List Shape) (state : List ℕ) → later which nodes begun state ≡ later which nodes (drop level begun) (drop level state)

-- each of the sets begins at one of these levels, from the first on and before the end
abbrev pub AreWithin : ℕ → ℕ → List Local → Type 0
AreWithin first past sets = All (λ (s : Local). (first ≤ s.level) × (s.level < past)) sets

-- the plan is right, of these sets, and before its levels nothing begins
pub record IsPlanFor (d : Diagram) (which : Quantifier) (sets : List Local) (plan : Plan) : Type 0 where
  pub which_is : plan.which ≡ which
  pub right : IsPlan d plan
  pub spread : IsSpread d sets (begun_of plan)
  pub low : plan.before ≤ length d.arities
  pub begins : Begins (begun_of plan) plan.before
