-- Ways below a body by the instance that they go through first.
use Rattle.std.proofs.Common.{◌≡◌, ℕ, ◌⊎◌, List, [], ◌∷◌, ◌++◌, Option, None, Some, option_and_then, inl, inr, refl, ap, ◌∙◌}
use Rattle.pw_defs.specs.declared.design.Body.{Body}
use Rattle.pw_defs.specs.declared.design.Body.TheVariants.{Module as ModuleBody}
use Rattle.design_defs.specs.Hierarchy.{Sources, Way, body_at, body_inside, module_named}
use Rattle.net_hierarchy.specs.Below.{body_below}
use Rattle.net_hierarchy.proofs.Ways.{top_at}

pub snoc_view : {X : Type 0} (xs : List X) → (xs ≡ []) ⊎ ((front : List X) × (last : X) × (xs ≡ front ++ last ∷ []))
snoc_view [] = inl refl
snoc_view (x ∷ xs) =
    elim (snoc_view xs) [
      | inl none ↦ inr ([], x, ap (λ ys. x ∷ ys) none)
      | inr more ↦ inr (x ∷ more.0, more.1, ap (λ ys. x ∷ ys) more.2)
    ]

pub below_first : (s : Sources) (body : Body) (way : Way) (name : List ℕ) → body_below s body (way ++ name ∷ []) ≡ option_and_then (λ b. body_below s b way) (body_inside s name body)
below_first s body [] name = by (body_inside s name body)
  where
    by : (o : Option Body) → o ≡ option_and_then (λ b. Some b) o
    by None = refl
    by (Some b) = refl
below_first s body (step ∷ way) name = ap (option_and_then (body_inside s step)) (below_first s body way name) ∙ by (body_inside s name body)
  where
    by : (o : Option Body) → option_and_then (body_inside s step) (option_and_then (λ b. body_below s b way) o) ≡ option_and_then (λ b. body_below s b (step ∷ way)) o
    by None = refl
    by (Some b) = refl

-- what is at a way is what is below the top there
pub at_below : (s : Sources) (top : ℕ) → module_named s s.top ≡ Some top → (way : Way) → body_at s way ≡ body_below s (ModuleBody top) way
at_below s top named [] = top_at s top named
at_below s top named (name ∷ outer) = ap (option_and_then (body_inside s name)) (at_below s top named outer)
