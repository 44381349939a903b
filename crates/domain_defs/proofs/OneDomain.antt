-- An instance is in at most one domain, and the instances of a design have one list of domains or one fault, not both.
use Rattle.std.proofs.Common.{◌≡◌, ℕ, ◌<◌, List, Some, length, slice_get, get_or, refl, sym, ap, ◌∙◌, subst, arith}
use Rattle.std.specs.Cmp.{IsTotalOrder}
use Rattle.std.specs.FinMap.{IsAntisymmetric, nat_cmp-IsAntisymmetric}
use Rattle.std.specs.Ordering.{nat_cmp, ordering_then}
use Rattle.std.specs.declared.cmp.Ordering.{Ordering}
use Rattle.std.specs.declared.cmp.Ordering.TheVariants.{Less, Equal, Greater}
use Rattle.std.proofs.lemmas.Cmp.{nat_cmp_total, on_total, then_total}
use Rattle.std.proofs.lemmas.List.{same_lists}
use Rattle.std.proofs.lemmas.Option.{slice_get-get_or}
use Rattle.pw_defs.specs.declared.design.Design.{Design}
use Rattle.pw_defs.specs.declared.faults.DomainFault.{DomainFault}
use Rattle.pw_defs.specs.declared.faults.DomainFault.TheVariants.{U10, U11}
use Rattle.pw_defs.specs.declared.intent.Domain.{Domain}
use Rattle.design_defs.specs.Joined.{path_of}
use Rattle.list_defs.proofs.OneList.{one_least}
use Rattle.domain_defs.specs.Members.{HasElement, IsInDomain, IsEntry}
use Rattle.domain_defs.specs.DomainFaults.{LacksDomain, CannotHave, AreDomainsOf, element_cmp, HasDomainFault, shown_path}

same_instance_domain : (design : Design) (domains : List Domain) (i j d e : ℕ) → i ≡ j → IsInDomain design domains i d → IsInDomain design domains j e → d ≡ e
same_instance_domain design domains _ _ _ _ same (IsInDomain.element i d is) (IsInDomain.element j e is') =
    let H : ℕ → Type 0 = λ n. HasElement domains d n in
    let K : ℕ → Type 0 = λ n. HasElement domains e n in
    let low = is.first e (subst K (sym same) is'.has) in
    let high = is'.first d (subst H same is.has) in
    omega arith
same_instance_domain design domains _ _ _ _ same (IsInDomain.element i d is) (IsInDomain.inherited j p e none above rest kept) =
    let H : ℕ → Type 0 = λ n. HasElement domains d n in
    absurd (none d (subst H same is.has))
same_instance_domain design domains _ _ _ _ same (IsInDomain.inherited i p d none above rest kept) (IsInDomain.element j e is) =
    let H : ℕ → Type 0 = λ n. HasElement domains e n in
    absurd (none e (subst H (sym same) is.has))
same_instance_domain design domains _ _ _ _ same (IsInDomain.inherited i p d none above rest kept) (IsInDomain.inherited j q e none' above' rest' kept') =
    let parents : p ≡ q = cc in
    same_instance_domain design domains p q d e parents rest rest'

-- an instance is in at most one domain
pub one_domain : (design : Design) (domains : List Domain) (inst d e : ℕ) → IsInDomain design domains inst d → IsInDomain design domains inst e → d ≡ e
one_domain design domains inst d e h k = same_instance_domain design domains inst inst d e refl h k

-- an instance has at most one entry
pub one_entry : (design : Design) (domains : List Domain) (inst d e : ℕ) → IsEntry design domains inst d → IsEntry design domains inst e → d ≡ e
one_entry design domains inst _ _ (IsEntry.modelled is) (IsEntry.modelled is') = refl
one_entry design domains inst _ _ (IsEntry.modelled is) (IsEntry.member e plain' here') = absurd (plain' is)
one_entry design domains inst _ _ (IsEntry.member d plain here) (IsEntry.modelled is') = absurd (plain is')
one_entry design domains inst _ _ (IsEntry.member d plain here) (IsEntry.member e plain' here') = one_domain design domains inst d e here here'

-- the instances of a design have at most one list of domains
pub one_list_of_domains : (design : Design) (domains : List Domain) (xs ys : List ℕ) → AreDomainsOf design domains xs → AreDomainsOf design domains ys → xs ≡ ys
one_list_of_domains design domains xs ys h k = same_lists xs ys (h.count ∙ sym k.count) (λ inst d there.
    let there' : inst < length ys = omega (arith, h.count, k.count) in
    one_entry design domains inst (get_or xs inst d) (get_or ys inst d)
    (h.each inst (get_or xs inst d) (slice_get-get_or xs inst d there)) (k.each inst (get_or ys inst d) (slice_get-get_or ys inst d there')))

pub element_cmp_total : IsTotalOrder element_cmp
element_cmp_total = then_total (on_total (λ (p : ℕ × ℕ). p.0) nat_cmp_total) (on_total (λ (p : ℕ × ℕ). p.1) nat_cmp_total)

then_equal : (a b : Ordering) → ordering_then a b ≡ Equal → (a ≡ Equal) × (b ≡ Equal)
then_equal Less b e = cc
then_equal Equal b e = (refl, e)
then_equal Greater b e = cc

abbrev pair : {X Y : Type 0} → X → Y → X × Y
pair x y = (x, y)

same_pair : {X Y : Type 0} (a b : X) (c d : Y) → a ≡ b → c ≡ d → pair a c ≡ pair b d
same_pair a b c d e f = cc

element_cmp_apart : IsAntisymmetric element_cmp
element_cmp_apart p q e =
    let both = then_equal (nat_cmp p.0 q.0) (nat_cmp p.1 q.1) e in
    let first : p.0 ≡ q.0 = nat_cmp-IsAntisymmetric p.0 q.0 both.0 in
    let second : p.1 ≡ q.1 = nat_cmp-IsAntisymmetric p.1 q.1 both.1 in
    same_pair p.0 q.0 p.1 q.1 first second

one_name : (design : Design) (inst : ℕ) (p q : List ℕ) → path_of design inst ≡ Some p → path_of design inst ≡ Some q → p ≡ q
one_name design inst p q h k = cc

one_there : (domains : List Domain) (d : ℕ) (a b : Domain) → slice_get domains d ≡ Some a → slice_get domains d ≡ Some b → a ≡ b
one_there domains d a b h k = cc

-- domains have at most one first fault
pub one_fault : (design : Design) (domains : List Domain) (f g : DomainFault) → HasDomainFault design domains f → HasDomainFault design domains g → f ≡ g
one_fault design domains _ _ (HasDomainFault.no_domain i p least path) (HasDomainFault.no_domain j q least' path') =
    let same : i ≡ j = one_least nat_cmp nat_cmp_total nat_cmp-IsAntisymmetric (LacksDomain design domains) i j least least' in
    let P : ℕ → Type 0 = λ n. path_of design n ≡ Some p in
    ap (λ n. U10 (shown_path n)) (one_name design j p q (subst P same path) path')
one_fault design domains _ _ (HasDomainFault.no_domain i p least path) (HasDomainFault.two_domains d j domain q none least' there path') =
    absurd (none i least.holds)
one_fault design domains _ _ (HasDomainFault.two_domains d j domain q none least there path) (HasDomainFault.no_domain i p least' path') =
    absurd (none i least'.holds)
one_fault design domains _ _ (HasDomainFault.two_domains d i domain p none least there path)
    (HasDomainFault.two_domains e j domain' q none' least' there' path') =
    let same : pair d i ≡ pair e j =
    one_least element_cmp element_cmp_total element_cmp_apart (λ (x : ℕ × ℕ). CannotHave design domains x.0 x.1) (d, i) (e, j) least least' in
    let D : ℕ × ℕ → Type 0 = λ x. slice_get domains x.0 ≡ Some domain in
    let P : ℕ × ℕ → Type 0 = λ x. path_of design x.1 ≡ Some p in
    let one : domain ≡ domain' = one_there domains e domain domain' (subst D same there) there' in
    let name : p ≡ q = one_name design j p q (subst P same path) path' in
    ap (λ (x : Domain × List ℕ). U11 (record { line = x.0.line; name = shown_path x.1 })) (same_pair domain domain' p q one name)

-- domains with a fault give the instances no list of domains
pub fault_or_list : (design : Design) (domains : List Domain) (fault : DomainFault) (list : List ℕ) → HasDomainFault design domains fault
    → ¬ AreDomainsOf design domains list
fault_or_list design domains _ list (HasDomainFault.no_domain i p least path) are =
    let lacks = least.holds in
    let there : i < length list = omega (arith, are.count, lacks.there) in
    without lacks (are.each i (get_or list i 0) (slice_get-get_or list i 0 there))
  where
    without : LacksDomain design domains i → {d : ℕ} → IsEntry design domains i d → ⊥
    without lacks (IsEntry.modelled is) = lacks.unmodelled is
    without lacks (IsEntry.member d plain here) = lacks.none d here
fault_or_list design domains _ list (HasDomainFault.two_domains d i domain p none least there path) are = are.apart d i least.holds
