-- The sets that building a condition may make on its way.
use Rattle.std.specs.Prelude.{◌≡◌, ℕ, Bool, List, Some, take, length, slice_get}
use Rattle.pw_defs.specs.declared.values.Value.{Value}
use Rattle.pw_defs.specs.declared.conditions.Cond.{Cond}
use Rattle.pw_defs.specs.declared.conditions.Cond.TheVariants.{Not, All, Any}
use Rattle.diagram_defs.specs.Parts.{IsPartOfSome}
use Rattle.state_build.specs.Built.{built_set}

-- a set is that of the condition, or of a part of it, or what first ones of the parts make
pub data IsEntry (arities : List ℕ) (lists : List (List Value)) : Cond → (List ℕ → Bool) → Type 0 where
  itself : (cond : Cond) → IsEntry arities lists cond (built_set arities lists cond)
  part_of_not : (part : Cond) (set : List ℕ → Bool) → IsEntry arities lists part set → IsEntry arities lists (Not part) set
  part_of_all : (parts : List Cond) (at : ℕ) (part : Cond) (set : List ℕ → Bool) → slice_get parts at ≡ Some part → IsEntry arities lists part set → IsEntry arities lists (All parts) set
  part_of_any : (parts : List Cond) (at : ℕ) (part : Cond) (set : List ℕ → Bool) → slice_get parts at ≡ Some part → IsEntry arities lists part set → IsEntry arities lists (Any parts) set
  first_of_all : (parts : List Cond) (count : ℕ) → IsEntry arities lists (All parts) (built_set arities lists (All (take count parts)))
  first_of_any : (parts : List Cond) (count : ℕ) → IsEntry arities lists (Any parts) (built_set arities lists (Any (take count parts)))

-- a part of one of these sets
abbrev pub IsPartOfEntry : List ℕ → List (List Value) → Cond → ℕ → (List ℕ → Bool) → Type 0
IsPartOfEntry arities lists cond = IsPartOfSome (length arities) (IsEntry arities lists cond)
