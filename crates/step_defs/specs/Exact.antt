-- Steps that have one answer.
use Rattle.std.specs.Prelude.{◌≡◌}
use Rattle.step_defs.specs.Steps.{Step}

-- a step gives at most one value, has at most one fault, and not both
pub record IsExact {A F : Type 0} (step : Step A F) : Type 0 where
  pub one_value : (a b : A) → step.gives a → step.gives b → a ≡ b
  pub one_fault : (f g : F) → step.faults f → step.faults g → f ≡ g
  pub not_both : (a : A) (f : F) → step.gives a → step.faults f → ⊥
