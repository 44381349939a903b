-- What the elements of a domain are, by the number of the domain.
use Rattle.std.proofs.Common.{◌≡◌, ℕ, List, [], ◌∷◌, option_map, slice_get, inl, inr, sym, ap, subst}
use Rattle.std.specs.Prelude.{unwrap_or}
use Rattle.pw_defs.specs.declared.intent.Domain.{Domain}
use Rattle.list_defs.specs.Members.{IsIn}
use Rattle.domain_defs.specs.Members.{HasElement, Excludes}

abbrev pub elements_at : List Domain → ℕ → List ℕ
elements_at domains d = unwrap_or (option_map (λ (x : Domain). x.elements) (slice_get domains d)) []

abbrev pub excluded_at : List Domain → ℕ → List ℕ
excluded_at domains d = unwrap_or (option_map (λ (x : Domain). x.excluded) (slice_get domains d)) []

pub elements_of : (domains : List Domain) (d inst : ℕ) → HasElement domains d inst → IsIn inst (elements_at domains d)
elements_of domains d inst h =
    let same : elements_at domains d ≡ h.0.elements = ap (λ o. unwrap_or (option_map (λ (x : Domain). x.elements) o) []) h.1 in
    subst (IsIn inst) (sym same) h.2

pub excluded_of : (domains : List Domain) (d inst : ℕ) → Excludes domains d inst → IsIn inst (excluded_at domains d)
excluded_of domains d inst h =
    let same : excluded_at domains d ≡ h.0.excluded = ap (λ o. unwrap_or (option_map (λ (x : Domain). x.excluded) o) []) h.1 in
    subst (IsIn inst) (sym same) h.2

-- it is one of a list of one
pub the_one : (n x : ℕ) → IsIn n (x ∷ []) → n ≡ x
the_one n x (inl e) = e
the_one n x (inr none) = absurd none
