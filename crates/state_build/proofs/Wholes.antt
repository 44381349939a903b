-- The whole states at which a condition holds, by its parts.
use Rattle.std.proofs.Common.{◌≡◌, ℕ, Bool, true, false, not, ◌&&◌, List, refl, sym, ap, ◌∙◌}
use Rattle.pw_defs.specs.declared.values.Value.{Value}
use Rattle.pw_defs.specs.declared.conditions.Cond.{Cond}
use Rattle.pw_defs.specs.declared.conditions.Cond.TheVariants.{True, Not}
use Rattle.supply_defs.specs.Conditions.{holds}
use Rattle.supply_defs.proofs.Meaning.{holds_true, holds_not}
use Rattle.diagram_defs.specs.Rests.{is_rest}
use Rattle.state_build.specs.Built.{value_of, built_set}
use Rattle.std.proofs.Math.Bool.{and-true}

without : (r h : Bool) → (r && not (r && h)) ≡ (r && not h)
without true h = refl
without false h = refl

module _ (arities : List ℕ) (lists : List (List Value)) (state : List ℕ) where
  pub built_true : is_rest arities state ≡ built_set arities lists True state
  built_true = sym (ap (λ (b : Bool). is_rest arities state && b) (holds_true (value_of lists state)) ∙ and-true (is_rest arities state))

  pub built_not : (part : Cond) → (is_rest arities state && not (built_set arities lists part state)) ≡ built_set arities lists (Not part) state
  built_not part =
      without (is_rest arities state) (holds (value_of lists state) part) ∙ ap (λ (b : Bool). is_rest arities state && b) (sym (holds_not (value_of lists state) part))
