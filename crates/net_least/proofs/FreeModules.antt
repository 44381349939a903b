-- Below a free module is no recursion.
use Rattle.std.proofs.Common.{◌≡◌, ℕ, ◌⊎◌, Some, inl, inr, refl, sym, ap, ◌∙◌, subst}
use Rattle.pw_defs.specs.declared.design.Body.{Body}
use Rattle.pw_defs.specs.declared.design.Body.TheVariants.{Module as ModuleBody}
use Rattle.design_defs.specs.DesignFaults.{IsAtOrAbove}
use Rattle.design_defs.specs.DesignFaults.IsAtOrAbove.{here, above}
use Rattle.design_defs.specs.Hierarchy.{Sources, Way, body_at}
use Rattle.design_defs.proofs.Lookups.{IsInsideBy, at_outer}
use Rattle.net_hierarchy.specs.Graph.{Holds, Leads, Types, types_of}
use Rattle.net_hierarchy.proofs.Ways.{holds_by}
use Rattle.net_least.specs.Recursion.{IsClosing, IsFree}

-- a module that leads to another is it, or holds one that leads there
first_step : (types : Types) (n k : ℕ) → Leads types n k → (n ≡ k) ⊎ ((m : ℕ) × Holds types n m × Leads types m k)
first_step types _ _ (Leads.here _) = inl refl
first_step types n k (Leads.further _ m _ leads holds) =
    elim (first_step types n m leads) [
      | inl same ↦ inr (k, subst (λ j. Holds types j k) (sym same) holds, Leads.here k)
      | inr more ↦ inr (more.0, more.1, Leads.further more.0 m k more.2 holds)
    ]

-- a free module doesn't come back to itself
pub no_return : (types : Types) (n : ℕ) → IsFree types n → (k : ℕ) → Holds types n k → Leads types k n → ⊥
no_return types n (IsFree.free _ below) k holds leads =
    elim (first_step types k n leads) [
      | inl same ↦ no_return types k (below k holds) n (subst (λ j. Holds types j n) (sym same) (subst (λ j. Holds types n j) same holds)) (subst (Leads types n) (sym same) (Leads.here n))
      | inr more ↦ no_return types k (below k holds) more.0 more.1 (Leads.further more.0 n k more.2 holds)
    ]

pub free_below : (types : Types) (n k : ℕ) → IsFree types n → Leads types n k → IsFree types k
free_below types _ _ known (Leads.here _) = known
free_below types n k known (Leads.further _ m _ leads holds) = held (free_below types n m known leads)
  where
    held : IsFree types m → IsFree types k
    held (IsFree.free _ below) = below k holds

-- the modules that a way leads through lead to the module at its end
pub leads_down : (s : Sources) (j : ℕ) (way : Way) (n : ℕ) → IsAtOrAbove s j way → body_at s way ≡ Some (ModuleBody n) → Leads (types_of s) j n
leads_down s j way n (here _ body) is =
    let same : Some (ModuleBody j) ≡ Some (ModuleBody n) = sym body ∙ is in
    let number : j ≡ n = cc in
    subst (Leads (types_of s) j) number (Leads.here j)
leads_down s j _ n (above name outer higher) is = by (at_outer s name outer (ModuleBody n) is) (λ k. leads_down s j outer k higher)
  where
    by : (b : Body) × (body_at s outer ≡ Some b) × IsInsideBy s name b (ModuleBody n) → ((k : ℕ) → body_at s outer ≡ Some (ModuleBody k) → Leads (types_of s) j k) → Leads (types_of s) j n
    by found rest =
        let inside = found.2 in
        Leads.further j inside.number n (rest inside.number (found.1 ∙ ap Some inside.is_outer))
        (holds_by s inside.number n inside.of_module inside.inst inside.is_module inside.is_line inside.is_type)

-- no closing way leads through a free module
pub none_through_free : (s : Sources) (k : ℕ) (way : Way) (closing : IsClosing s way) → IsAtOrAbove s k way → IsFree (types_of s) k → ⊥
none_through_free s k way closing through known =
    let types = types_of s in
    let at_end = free_below types k closing.n known (leads_down s k way closing.n through closing.body) in
    no_return types closing.n at_end closing.k closing.holds (leads_down s closing.k way closing.n closing.above closing.body)
