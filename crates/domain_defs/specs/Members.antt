-- Which power domain each instance is in.
use Rattle.std.specs.Prelude.{◌≡◌, ℕ, ◌≤◌, List, Some, length, slice_get}
use Rattle.pw_defs.specs.declared.design.Body.TheVariants.{Model}
use Rattle.pw_defs.specs.declared.design.Design.{Design}
use Rattle.pw_defs.specs.declared.intent.Domain.{Domain}
use Rattle.list_defs.specs.Members.{IsIn}
use Rattle.design_defs.specs.Joined.{parent_of}
use Rattle.design_defs.specs.Ports.{body_of}

-- a model stands for the instance
abbrev pub IsModelled : Design → ℕ → Type 0
IsModelled design inst = (model : ℕ) × (body_of design inst ≡ Some (Model model))

-- the domain of this number has the instance as an element
abbrev pub HasElement : List Domain → ℕ → ℕ → Type 0
HasElement domains d inst = (domain : Domain) × (slice_get domains d ≡ Some domain) × IsIn inst domain.elements

-- the domain of this number excludes the instance
abbrev pub Excludes : List Domain → ℕ → ℕ → Type 0
Excludes domains d inst = (domain : Domain) × (slice_get domains d ≡ Some domain) × IsIn inst domain.excluded

-- d is the first domain that has the instance as an element
pub record IsDomainOfElement (domains : List Domain) (inst d : ℕ) : Type 0 where
  pub has : HasElement domains d inst
  pub first : (other : ℕ) → HasElement domains other inst → d ≤ other

-- no domain has the instance as an element
abbrev pub IsNoElement : List Domain → ℕ → Type 0
IsNoElement domains inst = (d : ℕ) → ¬ HasElement domains d inst

-- An instance is in the domain of which it is an element. Else, where the domain of its parent excludes it, it is in
-- none. Else it is in its parent's domain.
pub data IsInDomain (design : Design) (domains : List Domain) : ℕ → ℕ → Type 0 where
  element : (inst d : ℕ) → IsDomainOfElement domains inst d → IsInDomain design domains inst d
  inherited : (inst parent d : ℕ) → IsNoElement domains inst → parent_of design inst ≡ Some (Some parent) → IsInDomain design domains parent d
      → ¬ Excludes domains d inst → IsInDomain design domains inst d

-- An instance's entry is the number of its domain. For a modelled instance it is the number of all domains.
pub data IsEntry (design : Design) (domains : List Domain) (inst : ℕ) : ℕ → Type 0 where
  modelled : IsModelled design inst → IsEntry design domains inst (length domains)
  member : (d : ℕ) → ¬ IsModelled design inst → IsInDomain design domains inst d → IsEntry design domains inst d
