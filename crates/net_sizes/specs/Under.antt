-- What stands below a body: its own things and those of all instances inside it.
use Rattle.std.specs.Prelude.{◌≡◌, ℕ, List, [], ◌∷◌, Some, length}
use Rattle.pw_defs.specs.declared.design.Body.{Body}
use Rattle.list_defs.specs.Members.{IsIn}
use Rattle.design_defs.specs.Bits.{Spot}
use Rattle.design_defs.specs.Hierarchy.{Sources}
use Rattle.net_hierarchy.specs.Below.{body_below}

-- things of each body, by a name and a place
abbrev pub Own : Type 0
Own = Body → List (List ℕ × ℕ)

-- a thing that a body below this one has
pub record IsUnder (s : Sources) (own : Own) (body : Body) (x : Spot) : Type 0 where
  pub b : Body
  pub there : body_below s body x.way ≡ Some b
  pub one : IsIn (x.net, x.place) (own b)

-- no thing comes twice
abbrev pub AllDiffer : {X : Type 0} → List X → Type 0
AllDiffer [] = Unit {0}
AllDiffer (x ∷ xs) = (IsIn x xs → ⊥) × AllDiffer xs

-- all things below a body, each once
pub record AreUnder (s : Sources) (own : Own) (body : Body) (xs : List Spot) : Type 0 where
  pub each : (x : Spot) → IsIn x xs → IsUnder s own body x
  pub all : (x : Spot) → IsUnder s own body x → IsIn x xs
  pub different : AllDiffer xs

-- a body has so many things below it
pub record HasUnder (s : Sources) (own : Own) (body : Body) (count : ℕ) : Type 0 where
  pub xs : List Spot
  pub are : AreUnder s own body xs
  pub length : length xs ≡ count
