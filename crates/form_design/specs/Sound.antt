-- What holds of the instances at and below a top, whatever the files say.
use Rattle.std.specs.Prelude.{◌≡◌, ℕ, ◌<◌, List, [], Option, Some, None, slice_get}
use Rattle.std.specs.List.{AllByRecursion}
use Rattle.form_design.specs.declared.hierarchy.Held.{Held}
use Rattle.form_design.specs.Names.{Table}
use Rattle.form_design.specs.Hierarchy.{size}

-- a join is between a bit of the instance and a bit of its parent
pub record IsJoin (t : Table) (h parent : Held) (join : ℕ × ℕ) : Type 0 where
  pub inner : join.0 < size t h
  pub outer : join.1 < size t parent

-- an instance without parent joins nothing; another one has a parent in the list, with which it joins bits that there are
abbrev pub IsHeldUnder : Table → List Held → Held → Option ℕ → Type 0
IsHeldUnder t hs h None = h.joins ≡ []
IsHeldUnder t hs h (Some p) = (parent : Held) × (slice_get hs p ≡ Some parent) × AllByRecursion (IsJoin t h parent) h.joins

abbrev pub AreHeld : Table → List Held → Type 0
AreHeld t hs = AllByRecursion (λ h. IsHeldUnder t hs h h.parent) hs
