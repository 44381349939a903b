-- What the closing checks look at is one, and so is the first fault that they find.
use Rattle.std.proofs.Common.{◌≡◌, ℕ, zero, suc, ◌≤◌, Bool, true, false, List, [], ◌∷◌, Some, slice_get, refl, sym, ap, ◌∙◌, subst, arith}
use Rattle.std.specs.List.{AllZip}
use Rattle.std.specs.FinMap.{IsAntisymmetric, nat_cmp-IsAntisymmetric, slice_cmp-IsAntisymmetric}
use Rattle.std.specs.Ordering.{nat_cmp, ordering_then}
use Rattle.std.specs.declared.cmp.Ordering.{Ordering}
use Rattle.std.specs.declared.cmp.Ordering.TheVariants.{Less, Equal, Greater}
use Rattle.std.proofs.lemmas.Cmp.{nat_cmp_total, lists_total}
use Rattle.pw_defs.specs.declared.design.Design.{Design}
use Rattle.pw_defs.specs.declared.faults.Refusal.{Refusal}
use Rattle.pw_defs.specs.declared.intent.Domain.{Domain}
use Rattle.pw_defs.specs.declared.intent.Export.{Export}
use Rattle.pw_defs.specs.declared.intent.SupplySet.{SupplySet}
use Rattle.pw_defs.specs.declared.intent.Unit.{Unit as PowerUnit}
use Rattle.pw_defs.specs.declared.intent.Want.{Want}
use Rattle.pw_defs.specs.declared.supplies.Supply.{Supply}
use Rattle.list_defs.specs.Orders.{name_cmp}
use Rattle.domain_defs.specs.DomainFaults.{LacksDomain, CannotHave, element_cmp}
use Rattle.domain_defs.proofs.OneDomain.{element_cmp_total}
use Rattle.supply_defs.specs.UnitLists.{AreUnitLists}
use Rattle.list_defs.proofs.OneList.{one_least}
use Rattle.supply_defs.proofs.UnitListLaws.{one_unit_lists}
use Rattle.script_defs.specs.World.{Object, World}
use Rattle.script_defs.specs.Scopes.{is_modelled}
use Rattle.script_defs.specs.LookUps.{whole_name}
use Rattle.script_defs.specs.Numbers.{unit_paths, domain_objects}
use Rattle.script_defs.specs.IntentOf.{IsSetNamed, IsExport, IsModelExport, AreExports, IsUnitOf}
use Rattle.script_defs.specs.Closing.{Check, check_number, Closed, IsClosingFault, HasClosingFault, HasManyValues, IsUnstatedPort, LacksOwnDomain, closed_uses, pair_cmp}
use Rattle.script_defs.specs.SetsUsed.{lacking_objects}
use Rattle.script_defs.specs.Loads.{IsDomainByElements, IsClosedOf}

-- lists that go with one list, item by item, are one where the items are
pub one_zip : {X Y : Type 0} (R : X → Y → Type 0) → ((x : X) (a b : Y) → R x a → R x b → a ≡ b) → (xs : List X) (ys zs : List Y) → AllZip R xs ys
    → AllZip R xs zs → ys ≡ zs
one_zip R one [] [] [] p q = refl
one_zip R one [] [] (b ∷ bs) p q = absurd q
one_zip R one [] (a ∷ ys) bs p q = absurd p
one_zip R one (x ∷ xs) [] bs p q = absurd p
one_zip R one (x ∷ xs) (a ∷ ys) [] p q = absurd q
one_zip R one (x ∷ xs) (a ∷ ys) (b ∷ bs) p q =
    let first : a ≡ b = one x a b p.0 q.0 in
    let rest : ys ≡ bs = one_zip R one xs ys bs p.1 q.1 in
    cc

then_equal : (a b : Ordering) → ordering_then a b ≡ Equal → (a ≡ Equal) × (b ≡ Equal)
then_equal Less b e = cc
then_equal Equal b e = (refl, e)
then_equal Greater b e = cc

pair_cmp_apart : IsAntisymmetric pair_cmp
pair_cmp_apart p q e =
    let both = then_equal (nat_cmp p.0 q.0) (nat_cmp p.1 q.1) e in
    λ i. (nat_cmp-IsAntisymmetric p.0 q.0 both.0 i, nat_cmp-IsAntisymmetric p.1 q.1 both.1 i)

pub one_some : {X : Type 0} (x y : X) → Some x ≡ Some y → x ≡ y
one_some x y e = cc

set_path : (s t : SupplySet) → s.power ≡ t.power → s.ground ≡ t.ground → s ≡ t
set_path s t p q = λ i. record { power = p i; ground = q i }

-- a name stands for one set
pub one_set : (d : Design) (w : World) (name : List ℕ) (s t : SupplySet) → IsSetNamed d w name s → IsSetNamed d w name t → s ≡ t
one_set d w name s t p q = set_path s t (one_some s.power t.power (sym p.power_is ∙ q.power_is)) (sym p.ground_is ∙ q.ground_is)

one_export : (d : Design) (w : World) (o : Object) (x y : Export) → IsExport d w o x → IsExport d w o y → x ≡ y
one_export d w o x y p q =
    let set : x.set ≡ y.set = one_set d w (whole_name o) x.set y.set p.1 q.1 in
    let name : x.name ≡ y.name = p.0 ∙ sym q.0 in
    λ i. record { name = name i; set = set i }

one_model_export : (d : Design) (w : World) (path : List ℕ) (e x y : Export) → IsModelExport d w path e x → IsModelExport d w path e y → x ≡ y
one_model_export d w path e x y p q =
    let set : x.set ≡ y.set = set_path x.set y.set (p.power_is ∙ sym q.power_is) (p.ground_is ∙ sym q.ground_is) in
    let name : x.name ≡ y.name = p.name_is ∙ sym q.name_is in
    λ i. record { name = name i; set = set i }

one_exports : (d : Design) (w : World) (path : List ℕ) (modelled : Bool) (xs ys : List Export) → AreExports d w path modelled xs
    → AreExports d w path modelled ys → xs ≡ ys
one_exports d w path true xs ys p q = one_zip (IsModelExport d w path) (one_model_export d w path) _ xs ys p q
one_exports d w path false xs ys p q = one_zip (IsExport d w) (one_export d w) _ xs ys p q

-- a path has one unit
pub one_unit : (d : Design) (w : World) (path : List ℕ) (u v : PowerUnit) → IsUnitOf d w path u → IsUnitOf d w path v → u ≡ v
one_unit d w path u v p q =
    let inst : u.inst ≡ v.inst = p.inst_is ∙ sym q.inst_is in
    let outer : u.outer ≡ v.outer = p.outer_is ∙ sym q.outer_is in
    let passed : u.passed ≡ v.passed = p.passed_is ∙ sym q.passed_is in
    let ports : u.ports ≡ v.ports = p.ports_are ∙ sym q.ports_are in
    let exports : u.exports ≡ v.exports = one_exports d w path (is_modelled d path) u.exports v.exports p.exports_are q.exports_are in
    λ i. record { inst = inst i; outer = outer i; passed = passed i; ports = ports i; exports = exports i }

one_domain : (d : Design) (w : World) (o : Object) (x y : Domain) → IsDomainByElements d w o x → IsDomainByElements d w o y → x ≡ y
one_domain d w o x y p q =
    let primary : x.primary ≡ y.primary = set_path x.primary y.primary (p.power_is ∙ sym q.power_is) (p.no_ground ∙ sym q.no_ground) in
    let name : x.name ≡ y.name = p.name_is ∙ sym q.name_is in
    let unit : x.unit ≡ y.unit = p.unit_is ∙ sym q.unit_is in
    let line : x.line ≡ y.line = p.line_is ∙ sym q.line_is in
    let elements : x.elements ≡ y.elements = p.elements_are ∙ sym q.elements_are in
    let excluded : x.excluded ≡ y.excluded = p.excluded_are ∙ sym q.excluded_are in
    let default : x.default_iso ≡ y.default_iso = p.no_default ∙ sym q.no_default in
    λ i. record { name = name i; unit = unit i; line = line i; elements = elements i; excluded = excluded i; primary = primary i; default_iso = default i }

-- what the closing checks look at is one
pub one_closed : (d : Design) (w : World) (name : List ℕ) (want : Want) (a b : Closed) → IsClosedOf d w name want a → IsClosedOf d w name want b → a ≡ b
one_closed d w name want a b p q =
    let script : a.script ≡ b.script = p.script_is ∙ sym q.script_is in
    let wanted : a.want ≡ b.want = p.want_is ∙ sym q.want_is in
    let units : a.units ≡ b.units = one_zip (IsUnitOf d w) (one_unit d w) (unit_paths d w) a.units b.units p.units_are q.units_are in
    let supplies : a.supplies ≡ b.supplies = p.supplies_are ∙ sym q.supplies_are in
    let domains : a.domains ≡ b.domains =
    one_zip (IsDomainByElements d w) (one_domain d w) (domain_objects w) a.domains b.domains p.domains_are q.domains_are in
    let P : List Supply → Type 0 = λ s. AreUnitLists s b.units b.lists in
    let Q : List PowerUnit → Type 0 = λ u. AreUnitLists a.supplies u b.lists in
    let lists : a.lists ≡ b.lists = one_unit_lists a.supplies a.units a.lists b.lists p.lists_are (subst Q (sym units) (subst P (sym supplies) q.lists_are)) in
    λ i. record { script = script i; want = wanted i; units = units i; supplies = supplies i; domains = domains i; lists = lists i }

one_slot : {X : Type 0} (xs : List X) (n : ℕ) (x y : X) → slice_get xs n ≡ Some x → slice_get xs n ≡ Some y → x ≡ y
one_slot xs n x y p q = one_some x y (sym p ∙ q)

-- a check refuses in one way
one_refusal : (d : Design) (w : World) (c : Closed) (check : Check) (p q : Refusal) → IsClosingFault d w c check p → IsClosingFault d w c check q → p ≡ q
one_refusal d w c _ _ _ (IsClosingFault.closed_name p u first is) (IsClosingFault.closed_name q v first' is') =
    let same : u ≡ v = one_slot (closed_uses d w) 0 u v first first' in cc
one_refusal d w c _ _ _ (IsClosingFault.unmarked_top p no_mark is) (IsClosingFault.unmarked_top q no_mark' is') = cc
one_refusal d w c _ _ _ (IsClosingFault.unstated_port p x unit port name least there listed named is)
    (IsClosingFault.unstated_port q y unit' port' name' least' there' listed' named' is') =
    let same : x ≡ y =
    one_least pair_cmp element_cmp_total pair_cmp_apart (λ (z : ℕ × ℕ). IsUnstatedPort d w c.want c.supplies c.units z.0 z.1) x y least least' in
    let units : unit ≡ unit' = cc in
    let ports : port ≡ port' = cc in
    let names : name ≡ name' = cc in
    cc
one_refusal d w c _ _ _ (IsClosingFault.no_own_domain p inst path least at is) (IsClosingFault.no_own_domain q inst' path' least' at' is') =
    let same : inst ≡ inst' = one_least nat_cmp nat_cmp_total nat_cmp-IsAntisymmetric (LacksOwnDomain d w c.want) inst inst' least least' in
    let paths : path ≡ path' = cc in
    cc
one_refusal d w c _ _ _ (IsClosingFault.without_domain p inst path least at is) (IsClosingFault.without_domain q inst' path' least' at' is') =
    let same : inst ≡ inst' = one_least nat_cmp nat_cmp_total nat_cmp-IsAntisymmetric (LacksDomain d c.domains) inst inst' least least' in
    let paths : path ≡ path' = cc in
    cc
one_refusal d w c _ _ _ (IsClosingFault.in_two_domains p x o path least made at is) (IsClosingFault.in_two_domains q y o' path' least' made' at' is') =
    let same : x ≡ y = one_least element_cmp element_cmp_total pair_cmp_apart (λ (z : ℕ × ℕ). CannotHave d c.domains z.0 z.1) x y least least' in
    let objects : o ≡ o' = cc in
    let paths : path ≡ path' = cc in
    cc
one_refusal d w c _ _ _ (IsClosingFault.without_function p o first is) (IsClosingFault.without_function q o' first' is') =
    let same : o ≡ o' = one_slot (lacking_objects d w) 0 o o' first first' in cc
one_refusal d w c _ _ _ (IsClosingFault.many_roots p many is) (IsClosingFault.many_roots q many' is') = cc
one_refusal d w c _ _ _ (IsClosingFault.many_values p name least is) (IsClosingFault.many_values q name' least' is') =
    let same : name ≡ name' =
    one_least name_cmp (lists_total nat_cmp_total) (slice_cmp-IsAntisymmetric nat_cmp-IsAntisymmetric)
    (HasManyValues c.supplies c.units c.lists) name name' least least' in
    cc

-- the check of a number
check_at : ℕ → Check
check_at zero = Check.closed
check_at (suc zero) = Check.unmarked
check_at (suc (suc zero)) = Check.unstated
check_at (suc (suc (suc zero))) = Check.own_domain
check_at (suc (suc (suc (suc zero)))) = Check.no_domain
check_at (suc (suc (suc (suc (suc zero))))) = Check.two_domains
check_at (suc (suc (suc (suc (suc (suc zero)))))) = Check.functions
check_at (suc (suc (suc (suc (suc (suc (suc zero))))))) = Check.roots
check_at (suc (suc (suc (suc (suc (suc (suc (suc n)))))))) = Check.values

numbered : (check : Check) → check_at (check_number check) ≡ check
unfolding check_at
numbered Check.closed = refl
numbered Check.unmarked = refl
numbered Check.unstated = refl
numbered Check.own_domain = refl
numbered Check.no_domain = refl
numbered Check.two_domains = refl
numbered Check.functions = refl
numbered Check.roots = refl
numbered Check.values = refl

-- the closing checks have one first fault
pub one_closing_fault : (d : Design) (w : World) (c : Closed) (p q : Refusal) → HasClosingFault d w c p → HasClosingFault d w c q → p ≡ q
one_closing_fault d w c p q a b =
    let up : check_number a.check ≤ check_number b.check = a.first b.check q b.refuses in
    let down : check_number b.check ≤ check_number a.check = b.first a.check p a.refuses in
    let number : check_number b.check ≡ check_number a.check = omega arith in
    let same : b.check ≡ a.check = sym (numbered b.check) ∙ ap check_at number ∙ numbered a.check in
    let P : Check → Type 0 = λ check. IsClosingFault d w c check q in
    one_refusal d w c a.check p q a.refuses (subst P same b.refuses)
