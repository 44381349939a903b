-- Some of the states shows a condition or none does, and not both.
use Rattle.std.proofs.Common.{◌≡◌, ℕ, Bool, true, false, List, [], ◌∷◌, ◌⊎◌, inl, inr, refl, sym, ◌∙◌, ap}
use Rattle.std.proofs.lemmas.Bool.{true≢false}
use Rattle.pw_defs.specs.declared.conditions.Cond.{Cond}
use Rattle.pw_defs.specs.declared.values.Value.{Value}
use Rattle.supply_defs.specs.Conditions.{holds}
use Rattle.supply_defs.specs.SetConditions.{SomeShows, NoneShows}

pub some_or_none : (value : List Value → ℕ → Value) (states : List (List Value)) (cond : Cond) → SomeShows value states cond ⊎ NoneShows value states cond
some_or_none value [] cond = inr (λ state none. absurd none)
some_or_none value (s ∷ states) cond = by (holds (value s) cond) refl (some_or_none value states cond)
  where
    by : (b : Bool) → holds (value s) cond ≡ b → SomeShows value states cond ⊎ NoneShows value states cond
        → SomeShows value (s ∷ states) cond ⊎ NoneShows value (s ∷ states) cond
    by true e rest = inl (s, inl refl, e)
    by false e (inl some) = inl (some.0, inr some.1, some.2)
    by false e (inr none) = inr (λ state there. elim there [ inl same ↦ ap (λ x. holds (value x) cond) same ∙ e | inr later ↦ none state later ])

pub not_some_and_none : (value : List Value → ℕ → Value) (states : List (List Value)) (cond : Cond) → SomeShows value states cond
    → ¬ NoneShows value states cond
not_some_and_none value states cond some none = true≢false (sym some.2 ∙ none some.0 some.1)
