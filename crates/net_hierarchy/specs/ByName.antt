-- Modules that have a name of others, and modules that have other ports than a model, by the tables of names.
use Rattle.std.specs.Prelude.{◌≡◌, ◌≢◌, ◌<◌, ◌≤◌, ◌==◌, ℕ, Bool, true, false, not, ◌||◌, List, Option, Some, None, is_some, min, slice_get}
use Rattle.pw_defs.specs.declared.model.Model.{Model}
use Rattle.pw_defs.specs.declared.netlist.Module.{Module}
use Rattle.list_defs.specs.Members.{IsIn}
use Rattle.net_hierarchy.specs.Kinds.{first_place}
use Rattle.net_hierarchy.specs.declared.kinds.Kinds.{Kinds}

-- whether a place is this one
abbrev pub is_at : ℕ → Option ℕ → Bool
is_at n None = false
is_at n (Some found) = found == n

-- whether a module of this number and name has the name of a cell, or isn't the first of its name
abbrev pub is_twice : Kinds → ℕ → List ℕ → Bool
is_twice k n name = is_some (first_place k.cells name) || not (is_at n (first_place k.modules name))

-- No module, or none up to a number, has a name of others.
abbrev pub AreNamedApart : Kinds → List Module → Type 0
AreNamedApart k modules = (n : ℕ) (m : Module) → slice_get modules n ≡ Some m → is_twice k n m.name ≡ false

abbrev pub AreApartBefore : Kinds → List Module → ℕ → Type 0
AreApartBefore k modules end = (n : ℕ) (m : Module) → slice_get modules n ≡ Some m → n < end → is_twice k n m.name ≡ false

-- the first module that has a name of others
pub record IsFirstTwice (k : Kinds) (modules : List Module) (n : ℕ) : Type 0 where
  pub m : Module
  pub there : slice_get modules n ≡ Some m
  pub twice : is_twice k n m.name ≡ true
  pub first : AreApartBefore k modules n

-- the first module of the model's name has this number and other ports
pub record HasOtherPorts (k : Kinds) (modules : List Module) (model : Model) (n : ℕ) : Type 0 where
  pub m : Module
  pub named : first_place k.modules model.module ≡ Some n
  pub there : slice_get modules n ≡ Some m
  pub other : model.ports ≢ m.ports

-- none of the models has another's ports
abbrev pub AreAlike : Kinds → List Module → List Model → Type 0
AreAlike k modules models = (model : Model) (n : ℕ) → IsIn model models → HasOtherPorts k modules model n → ⊥

-- the least number of a module that has other ports than one of the models
pub record IsLeastOther (k : Kinds) (modules : List Module) (models : List Model) (n : ℕ) : Type 0 where
  pub model : Model
  pub one : IsIn model models
  pub other : HasOtherPorts k modules model n
  pub least : (later : Model) (place : ℕ) → IsIn later models → HasOtherPorts k modules later place → n ≤ place

-- what is known once these models were looked at
abbrev pub IsOtherAmong : Kinds → List Module → List Model → Option ℕ → Type 0
IsOtherAmong k modules models None = AreAlike k modules models
IsOtherAmong k modules models (Some n) = IsLeastOther k modules models n

-- the lesser of two numbers, where there are two
abbrev pub lesser : Option ℕ → Option ℕ → Option ℕ
lesser None right = right
lesser (Some a) None = Some a
lesser (Some a) (Some b) = Some (min a b)
