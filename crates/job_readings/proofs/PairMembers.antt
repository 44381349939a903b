-- The domains of the instances of the two blocks: the top, the first block with its buffer, and the second with its own.
use Rattle.std.proofs.Common.{◌≡◌, ℕ, zero, suc, ◌<◌, List, [], ◌∷◌, Some, None, inl, inr, ◌⊎◌, refl, subst, arith}
use Rattle.std.proofs.Common.{slice_get}
use Rattle.std.specs.Prelude.{codes}
use Rattle.pw_defs.specs.declared.intent.Domain.{Domain}
use Rattle.pw_defs.specs.declared.intent.SupplySet.{SupplySet}
use Rattle.worked_jobs.specs.Designs.{pair}
use Rattle.list_defs.specs.Members.{IsIn}
use Rattle.design_defs.specs.Joined.{parent_of}
use Rattle.domain_defs.specs.DomainFaults.{AreDomainsOf, CannotHave}
use Rattle.domain_defs.specs.Members.{IsModelled, HasElement, Excludes, IsNoElement, IsInDomain, IsEntry}
use Rattle.domain_defs.proofs.Elements.{elements_at, excluded_at, elements_of, excluded_of, the_one}

-- the three domains, whatever their primary sets
abbrev pub three_domains : SupplySet → SupplySet → SupplySet → List Domain
three_domains p q r =
    record { name = codes "PT"; unit = 0; line = 9; elements = 0 ∷ []; excluded = []; primary = p; default_iso = None }
    ∷ record { name = codes "PA"; unit = 0; line = 10; elements = 1 ∷ []; excluded = []; primary = q; default_iso = None }
    ∷ record { name = codes "PB"; unit = 0; line = 11; elements = 3 ∷ []; excluded = []; primary = r; default_iso = None } ∷ []

-- no model stands for an instance of the two blocks
plain : (inst : ℕ) → ¬ IsModelled pair inst
plain zero h = let e = h.1 in cc
plain (suc zero) h = let e = h.1 in cc
plain (suc (suc zero)) h = let e = h.1 in cc
plain (suc (suc (suc zero))) h = let e = h.1 in cc
plain (suc (suc (suc (suc zero)))) h = let e = h.1 in cc
plain (suc (suc (suc (suc (suc n))))) h = let e = h.1 in cc

-- domain and element: the top, the first block, or the second
abbrev AreMatched : ℕ → ℕ → Type 0
AreMatched d inst = ((d ≡ 0) × (inst ≡ 0)) ⊎ (((d ≡ 1) × (inst ≡ 1)) ⊎ ((d ≡ 2) × (inst ≡ 3)))

module _ (p q r : SupplySet) where
  -- each domain has one element: the top, the first block, the second block
  has : (d inst : ℕ) → HasElement (three_domains p q r) d inst → AreMatched d inst
  has d inst h = by d (elements_of (three_domains p q r) d inst h)
    where
      by : (n : ℕ) → IsIn inst (elements_at (three_domains p q r) n) → AreMatched n inst
      by zero i = inl (refl, the_one inst 0 i)
      by (suc zero) i = inr (inl (refl, the_one inst 1 i))
      by (suc (suc zero)) i = inr (inr (refl, the_one inst 3 i))
      by (suc (suc (suc n))) i = absurd i

  -- an element is one of one domain alone
  one_domain : (d e inst : ℕ) → HasElement (three_domains p q r) d inst → HasElement (three_domains p q r) e inst → d ≡ e
  one_domain d e inst h k = by (has d inst h) (has e inst k)
    where
      by : AreMatched d inst → AreMatched e inst → d ≡ e
      by a b = grind (arith, a, b)

  -- the buffers are elements of none
  no_element : (inst : ℕ) → ((inst ≡ 2) ⊎ (inst ≡ 4)) → IsNoElement (three_domains p q r) inst
  no_element inst buffer d h = by (has d inst h)
    where
      by : AreMatched d inst → ⊥
      by a = grind (arith, a, buffer)

  -- nothing is excluded
  none_excluded : (d inst : ℕ) → ¬ Excludes (three_domains p q r) d inst
  none_excluded d inst h = by d (excluded_of (three_domains p q r) d inst h)
    where
      by : (n : ℕ) → IsIn inst (excluded_at (three_domains p q r) n) → ⊥
      by zero i = i
      by (suc zero) i = i
      by (suc (suc zero)) i = i
      by (suc (suc (suc n))) i = i

  -- an element is in its domain
  of_element : (inst d : ℕ) → HasElement (three_domains p q r) d inst → IsInDomain pair (three_domains p q r) inst d
  of_element inst d h = IsInDomain.element inst d
      (record { has = h; first = λ other k. let same : d ≡ other = one_domain d other inst h k in omega (arith, same) })

  -- a buffer is in the domain of its block
  of_block : (inst parent d : ℕ) → ((inst ≡ 2) ⊎ (inst ≡ 4)) → parent_of pair inst ≡ Some (Some parent) → IsInDomain pair (three_domains p q r) parent d
      → IsInDomain pair (three_domains p q r) inst d
  of_block inst parent d buffer above there = IsInDomain.inherited inst parent d (no_element inst buffer) above there (none_excluded d inst)

  entry_at : (inst d e : ℕ) → Some d ≡ Some e → IsInDomain pair (three_domains p q r) inst d → IsEntry pair (three_domains p q r) inst e
  entry_at inst d e same there =
      let here : d ≡ e = cc in
      IsEntry.member e (plain inst) (subst (IsInDomain pair (three_domains p q r) inst) here there)

  entries : (inst d : ℕ) → slice_get (0 ∷ 1 ∷ 1 ∷ 2 ∷ 2 ∷ []) inst ≡ Some d → IsEntry pair (three_domains p q r) inst d
  entries zero d e = entry_at 0 0 d e (of_element 0 0 (_, refl, inl refl))
  entries (suc zero) d e = entry_at 1 1 d e (of_element 1 1 (_, refl, inl refl))
  entries (suc (suc zero)) d e = entry_at 2 1 d e (of_block 2 1 1 (inl refl) refl (of_element 1 1 (_, refl, inl refl)))
  entries (suc (suc (suc zero))) d e = entry_at 3 2 d e (of_element 3 2 (_, refl, inl refl))
  entries (suc (suc (suc (suc zero)))) d e = entry_at 4 2 d e (of_block 4 3 2 (inr refl) refl (of_element 3 2 (_, refl, inl refl)))
  entries (suc (suc (suc (suc (suc n))))) d e = cc

  -- each domain may have its element
  apart : (d inst : ℕ) → ¬ CannotHave pair (three_domains p q r) d inst
  apart d inst cannot = by cannot.why
    where
      by : IsModelled pair inst ⊎ ((earlier : ℕ) × (earlier < d) × HasElement (three_domains p q r) earlier inst) → ⊥
      by (inl modelled) = plain inst modelled
      by (inr before) = let same : d ≡ before.0 = one_domain d before.0 inst cannot.has before.2 in let less = before.1 in omega (arith, same, less)

  -- the domains of all five instances
  pub the_pair_has_its_domains : AreDomainsOf pair (three_domains p q r) (0 ∷ 1 ∷ 1 ∷ 2 ∷ 2 ∷ [])
  the_pair_has_its_domains = record { count = refl; each = entries; apart = apart }
