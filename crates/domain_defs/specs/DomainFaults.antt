-- The domains of all instances, or why they have none.
use Rattle.std.specs.Prelude.{◌≡◌, ℕ, ◌<◌, ◌⊎◌, List, [], ◌∷◌, Some, length, slice_get}
use Rattle.std.specs.Ordering.{nat_cmp, ordering_then}
use Rattle.std.specs.declared.cmp.Ordering.{Ordering}
use Rattle.pw_defs.specs.declared.design.Design.{Design}
use Rattle.pw_defs.specs.declared.faults.DomainFault.{DomainFault}
use Rattle.pw_defs.specs.declared.faults.DomainFault.TheVariants.{U10, U11}
use Rattle.pw_defs.specs.declared.intent.Domain.{Domain}
use Rattle.list_defs.specs.Orders.{IsLeast}
use Rattle.design_defs.specs.Joined.{path_of}
use Rattle.domain_defs.specs.Members.{IsModelled, HasElement, IsInDomain, IsEntry}

-- a refusal names an instance by its path, and the top by a point
abbrev pub shown_path : List ℕ → List ℕ
shown_path [] = 46 ∷ []
shown_path (c ∷ cs) = c ∷ cs

-- the instance is in no domain, and no model stands for it
pub record LacksDomain (design : Design) (domains : List Domain) (inst : ℕ) : Type 0 where
  pub there : inst < length design.insts
  pub unmodelled : ¬ IsModelled design inst
  pub none : (d : ℕ) → ¬ IsInDomain design domains inst d

-- domain d can't have the instance as an element: a model stands for it, or an earlier domain has it
pub record CannotHave (design : Design) (domains : List Domain) (d inst : ℕ) : Type 0 where
  pub has : HasElement domains d inst
  pub why : IsModelled design inst ⊎ ((earlier : ℕ) × (earlier < d) × HasElement domains earlier inst)

-- The domains of all instances: each instance has its entry, and each domain may have its elements.
pub record AreDomainsOf (design : Design) (domains : List Domain) (list : List ℕ) : Type 0 where
  pub count : length list ≡ length design.insts
  pub each : (inst d : ℕ) → slice_get list inst ≡ Some d → IsEntry design domains inst d
  pub apart : (d inst : ℕ) → ¬ CannotHave design domains d inst

-- by domain, then by instance
abbrev pub element_cmp : ℕ × ℕ → ℕ × ℕ → Ordering
element_cmp p q = ordering_then (nat_cmp p.0 q.0) (nat_cmp p.1 q.1)

-- The first fault of domains: the first instance without domain; where there is none, the first domain that can't have
-- one of its elements, with the first such element, at the domain's line.
pub data HasDomainFault (design : Design) (domains : List Domain) : DomainFault → Type 0 where
  no_domain : (inst : ℕ) (path : List ℕ) → IsLeast nat_cmp (LacksDomain design domains) inst → path_of design inst ≡ Some path
      → HasDomainFault design domains (U10 (shown_path path))
  two_domains : (d inst : ℕ) (domain : Domain) (path : List ℕ) → ((other : ℕ) → ¬ LacksDomain design domains other)
      → IsLeast element_cmp (λ (p : ℕ × ℕ). CannotHave design domains p.0 p.1) (d, inst) → slice_get domains d ≡ Some domain
      → path_of design inst ≡ Some path → HasDomainFault design domains (U11 (record { line = domain.line; name = shown_path path }))
