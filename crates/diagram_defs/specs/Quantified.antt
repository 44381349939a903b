-- All or any of some things.
use Rattle.std.specs.Prelude.{Bool, true, false, not, ◌&&◌, ◌||◌, List}
use Rattle.std.specs.List.{list_all, list_any}
use Rattle.diagram_defs.specs.declared.quantifiers.Quantifier.{Quantifier}
use Rattle.diagram_defs.specs.declared.quantifiers.Quantifier.TheVariants as which

-- whether all of the items pass, or any of them
abbrev pub quantified : {X : Type 0} → Quantifier → (X → Bool) → List X → Bool
quantified which.All test items = list_all test items
quantified which.Any test items = list_any test items

-- whether both of two answers hold, or either
abbrev pub quantified_two : Quantifier → Bool → Bool → Bool
quantified_two which.All x y = x && y
quantified_two which.Any x y = x || y

-- all of no things hold, and none of them does
abbrev pub quantified_none : Quantifier → Bool
quantified_none which.All = true
quantified_none which.Any = false

-- the answer of one thing that settles the question: one that doesn't hold for all, one that holds for any
abbrev pub deciding : Quantifier → Bool
deciding which = not (quantified_none which)
