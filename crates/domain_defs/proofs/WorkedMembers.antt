-- Domains of the worked block: elements, inherited and excluded instances, an instance without domain and one with two.
use Rattle.std.proofs.Common.{◌≡◌, ◌≢◌, ℕ, zero, suc, ◌<◌, ◌≤◌, [], ◌∷◌, Some, slice_get, inl, inr, ◌⊎◌, refl, sym, subst, arith}
use Rattle.std.specs.Prelude.{codes}
use Rattle.std.specs.Ordering.{nat_cmp}
use Rattle.std.specs.declared.cmp.Ordering.TheVariants.{Less}
use Rattle.std.proofs.lemmas.Cmp.{ranked}
use Rattle.pw_defs.specs.declared.faults.DomainFault.TheVariants.{U10, U11}
use Rattle.pw_defs.specs.declared.intent.Domain.{Domain}
use Rattle.list_defs.specs.Members.{IsIn}
use Rattle.design_defs.specs.Joined.{parent_of}
use Rattle.domain_defs.specs.DomainFaults.{LacksDomain, HasDomainFault, element_cmp}
use Rattle.domain_defs.specs.Members.{IsModelled, HasElement, Excludes, IsNoElement, IsInDomain}
use Rattle.domain_defs.proofs.Elements.{elements_at, elements_of, excluded_of, the_one}
use Rattle.domain_defs.proofs.WorkedDomains.{block, domain, two_domains, without_buffer, buffer_apart, block_twice}

less_from : (a b : ℕ) → nat_cmp a b ≡ Less → a < b
less_from a b e = ranked a b Less (sym e)

-- no model stands for an instance of the block
pub plain : (inst : ℕ) → ¬ IsModelled block inst
plain zero h = let e = h.1 in cc
plain (suc zero) h = let e = h.1 in cc
plain (suc (suc zero)) h = let e = h.1 in cc
plain (suc (suc (suc zero))) h = let e = h.1 in cc
plain (suc (suc (suc (suc n)))) h = let e = h.1 in cc

-- what each of the two domains has
has_two : (d inst : ℕ) → IsIn inst (elements_at two_domains d) → ((d ≡ 0) × (inst ≡ 0)) ⊎ ((d ≡ 1) × (inst ≡ 1))
has_two zero inst i = inl (refl, the_one inst 0 i)
has_two (suc zero) inst i = inr (refl, the_one inst 1 i)
has_two (suc (suc d)) inst i = absurd i

-- the block is in its domain as an element
pub block_in_its_domain : IsInDomain block two_domains 1 1
block_in_its_domain = IsInDomain.element 1 1 (record {
  has = (domain (codes "PB") 5 (1 ∷ []) [], refl, inl refl);
  first = λ other h. elim (has_two other 1 (elements_of two_domains other 1 h)) [ inl e ↦ absurd (omega (arith, e.1)) | inr e ↦ omega (arith, e.0) ];
})

-- the buffer is in the block's domain, since no domain has it and that one doesn't exclude it
pub buffer_inherits : IsInDomain block two_domains 2 1
buffer_inherits = IsInDomain.inherited 2 1 1 none refl block_in_its_domain (λ h. excluded_of two_domains 1 2 h)
  where
    none : IsNoElement two_domains 2
    none d h = elim (has_two d 2 (elements_of two_domains d 2 h)) [ inl e ↦ omega (arith, e.1) | inr e ↦ omega (arith, e.1) ]

-- where the block's domain excludes the buffer, the domains have the same elements as before
has_without : (d inst : ℕ) → HasElement without_buffer d inst → ((d ≡ 0) × (inst ≡ 0)) ⊎ ((d ≡ 1) × (inst ≡ 1))
has_without d inst h = by d (elements_of without_buffer d inst h)
  where
    by : (n : ℕ) → IsIn inst (elements_at without_buffer n) → ((n ≡ 0) × (inst ≡ 0)) ⊎ ((n ≡ 1) × (inst ≡ 1))
    by zero i = inl (refl, the_one inst 0 i)
    by (suc zero) i = inr (refl, the_one inst 1 i)
    by (suc (suc n)) i = absurd i

block_alone : (inst d : ℕ) → IsInDomain block without_buffer inst d → inst ≡ 1 → d ≡ 1
block_alone _ _ (IsInDomain.element inst d is) at = elim (has_without d inst is.has) [ inl e ↦ absurd (omega (arith, e.1)) | inr e ↦ e.0 ]
block_alone _ _ (IsInDomain.inherited inst parent d none above rest kept) at =
    let N : ℕ → Type 0 = λ n. IsNoElement without_buffer n in
    absurd (subst N at none 1 (domain (codes "PB") 5 (1 ∷ []) (2 ∷ []), refl, inl refl))

buffer_nowhere : (inst d : ℕ) → IsInDomain block without_buffer inst d → ¬ (inst ≡ 2)
buffer_nowhere _ _ (IsInDomain.element inst d is) at = elim (has_without d inst is.has) [ inl e ↦ omega (arith, e.1) | inr e ↦ omega (arith, e.1) ]
buffer_nowhere _ _ (IsInDomain.inherited inst parent d none above rest kept) at =
    let P : ℕ → Type 0 = λ n. parent_of block n ≡ Some (Some parent) in
    let above' : Some (Some 1) ≡ Some (Some parent) = subst P at above in
    let parent' : parent ≡ 1 = cc in
    let here : d ≡ 1 = block_alone parent d rest parent' in
    let K : ℕ → Type 0 = λ n. ¬ Excludes without_buffer n inst in
    let L : ℕ → Type 0 = λ n. ¬ Excludes without_buffer 1 n in
    subst L at (subst K here kept) (domain (codes "PB") 5 (1 ∷ []) (2 ∷ []), refl, inl refl)

-- then the buffer has no domain, and that is the fault
pub excluded_has_no_domain : HasDomainFault block without_buffer (U10 (codes "u_b/i"))
excluded_has_no_domain = HasDomainFault.no_domain 2 (codes "u_b/i") (record {
  holds = record { there = omega arith; unmodelled = plain 2; none = λ d is. buffer_nowhere 2 d is refl };
  least = λ other lacks. earlier other lacks.none;
}) refl
  where
    first : (d inst : ℕ) → (x : Domain) → slice_get without_buffer d ≡ Some x → IsIn inst x.elements → d ≡ inst → IsInDomain block without_buffer inst d
    first d inst x there i same = IsInDomain.element inst d (record {
      has = (x, there, i);
      first = λ other h. elim (has_without other inst h) [ inl e ↦ omega (arith, e.0, e.1) | inr e ↦ omega (arith, e.0, e.1) ];
    })

    earlier : (n : ℕ) → ((d : ℕ) → ¬ IsInDomain block without_buffer n d) → nat_cmp n 2 ≢ Less
    earlier zero none = absurd (none 0 (first 0 0 (domain (codes "PT") 4 (0 ∷ []) []) refl (inl refl) refl))
    earlier (suc zero) none = absurd (none 1 (first 1 1 (domain (codes "PB") 5 (1 ∷ []) (2 ∷ [])) refl (inl refl) refl))
    earlier (suc (suc n)) none = λ less. absurd (omega (arith, less_from (suc (suc n)) 2 less))

-- an element of a domain is in it, though its parent's domain excludes it
pub element_before_excluded : IsInDomain block buffer_apart 2 2
element_before_excluded = IsInDomain.element 2 2 (record {
  has = (domain (codes "PX") 6 (2 ∷ []) [], refl, inl refl);
  first = λ other h. by other (elements_of buffer_apart other 2 h);
})
  where
    by : (n : ℕ) → IsIn 2 (elements_at buffer_apart n) → 2 ≤ n
    by zero i = absurd (omega (arith, the_one 2 0 i))
    by (suc zero) i = absurd (omega (arith, the_one 2 1 i))
    by (suc (suc n)) i = omega arith

-- where two domains have the block, each instance has a domain
top_first : (inst : ℕ) → IsIn inst (0 ∷ 1 ∷ []) → IsInDomain block block_twice inst 0
top_first inst i = IsInDomain.element inst 0 (record {
  has = (domain (codes "PT") 4 (0 ∷ 1 ∷ []) [], refl, i);
  first = λ other h. omega arith;
})

no_element : (inst : ℕ) → 2 ≤ inst → IsNoElement block_twice inst
no_element inst low d h = by d (elements_of block_twice d inst h)
  where
    by : (n : ℕ) → ¬ IsIn inst (elements_at block_twice n)
    by zero (inl e) = omega arith
    by zero (inr (inl e)) = omega arith
    by zero (inr (inr none)) = none
    by (suc zero) (inl e) = omega arith
    by (suc zero) (inr none) = none
    by (suc (suc n)) i = i

cell_inherits : (inst : ℕ) → 2 ≤ inst → parent_of block inst ≡ Some (Some 1) → IsInDomain block block_twice inst 0
cell_inherits inst low above = IsInDomain.inherited inst 1 0 (no_element inst low) above (top_first 1 (inr (inl refl))) (λ h. excluded_of block_twice 0 inst h)

all_have : (inst : ℕ) → ¬ LacksDomain block block_twice inst
all_have zero lacks = lacks.none 0 (top_first 0 (inl refl))
all_have (suc zero) lacks = lacks.none 0 (top_first 1 (inr (inl refl)))
all_have (suc (suc zero)) lacks = lacks.none 0 (cell_inherits 2 (omega arith) refl)
all_have (suc (suc (suc zero))) lacks = lacks.none 0 (cell_inherits 3 (omega arith) refl)
all_have (suc (suc (suc (suc n)))) lacks = omega (arith, lacks.there)

-- and the fault is that the later of the two, at its line, cannot have it
pub block_in_two_domains : HasDomainFault block block_twice (U11 (record { line = 5; name = codes "u_b" }))
block_in_two_domains = HasDomainFault.two_domains 1 1 (domain (codes "PB") 5 (1 ∷ []) []) (codes "u_b") all_have (record {
  holds =
      record {
        has = (domain (codes "PB") 5 (1 ∷ []) [], refl, inl refl);
        why = inr (0, omega arith, (domain (codes "PT") 4 (0 ∷ 1 ∷ []) [], refl, inr (inl refl)));
      };
  least = λ p cannot. by p.0 p.1 cannot.has cannot.why;
}) refl refl
  where
    by : (d inst : ℕ) → HasElement block_twice d inst → IsModelled block inst ⊎ ((earlier : ℕ) × (earlier < d) × HasElement block_twice earlier inst)
        → element_cmp (d, inst) (1, 1) ≢ Less
    by zero inst has (inl is) = absurd (plain inst is)
    by zero inst has (inr before) = absurd (omega (arith, before.1))
    by (suc zero) inst has why = λ less. absurd (omega (arith, less_from inst 1 less, the_one inst 1 (elements_of block_twice 1 inst has)))
    by (suc (suc d)) inst has why = absurd (elements_of block_twice (suc (suc d)) inst has)
