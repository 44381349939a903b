-- A network has one set of lists, and a root has one list in a whole job.
use Rattle.std.proofs.Common.{◌≡◌, ℕ, ◌≤◌, List, [], ◌∷◌, inl, inr, map, refl, sym, ap, ◌∙◌, subst, arith}
use Rattle.std.specs.Cmp.{IsTotalOrder}
use Rattle.std.proofs.lemmas.Cmp.{nat_cmp_total, on_total, then_total}
use Rattle.pw_defs.specs.Values.{value_cmp}
use Rattle.pw_defs.specs.declared.intent.RootList.{RootList}
use Rattle.pw_defs.specs.declared.intent.Unit.{Unit as PowerUnit}
use Rattle.pw_defs.specs.declared.supplies.Supply.{Supply}
use Rattle.pw_defs.specs.declared.values.Value.{Value}
use Rattle.list_defs.specs.Members.{IsIn}
use Rattle.supply_defs.specs.UnitLists.{unit_and_root, unit_and_root_cmp, AreValues, AreUnitLists, IsAtOrInside, OutersAreSmaller, IsJobList, IsSeenRoot}
use Rattle.supply_defs.specs.Values.{HasValue}
use Rattle.list_defs.proofs.OneList.{one_list}
use Rattle.supply_defs.proofs.TotalOrders.{value_cmp_total}

pub unit_and_root_cmp_total : IsTotalOrder unit_and_root_cmp
unit_and_root_cmp_total = then_total (on_total (λ (p : ℕ × ℕ). p.0) nat_cmp_total) (on_total (λ (p : ℕ × ℕ). p.1) nat_cmp_total)

-- a root in a unit has one list of values
pub one_list_of_values : (supplies : List Supply) (units : List PowerUnit) (unit root : ℕ) (v w : List Value)
    → AreValues supplies units unit root v → AreValues supplies units unit root w → v ≡ w
one_list_of_values supplies units unit root v w = one_list value_cmp value_cmp_total (HasValue supplies units unit root) v w

abbrev list_of : ℕ → ℕ → List Value → RootList
list_of unit root values = record { unit = unit; root = root; values = values }

same_list : (u v r s : ℕ) (x y : List Value) → u ≡ v → r ≡ s → x ≡ y → list_of u r x ≡ list_of v s y
same_list u v r s x y a b c = cc

same_lists : (supplies : List Supply) (units : List PowerUnit) (xs ys : List RootList)
    → ((l : RootList) → IsIn l xs → AreValues supplies units l.unit l.root l.values)
    → ((l : RootList) → IsIn l ys → AreValues supplies units l.unit l.root l.values)
    → map unit_and_root xs ≡ map unit_and_root ys → xs ≡ ys
same_lists supplies units [] [] each each' keys = refl
same_lists supplies units [] (y ∷ ys) each each' keys = cc
same_lists supplies units (x ∷ xs) [] each each' keys = cc
same_lists supplies units (x ∷ xs) (y ∷ ys) each each' keys =
    let key : unit_and_root x ≡ unit_and_root y = cc in
    let unit : x.unit ≡ y.unit = ap (λ (p : ℕ × ℕ). p.0) key in
    let root : x.root ≡ y.root = ap (λ (p : ℕ × ℕ). p.1) key in
    let behind : map unit_and_root xs ≡ map unit_and_root ys = cc in
    let V : ℕ → Type 0 = λ u. AreValues supplies units u x.root x.values in
    let W : ℕ → Type 0 = λ r. AreValues supplies units y.unit r x.values in
    let values : x.values ≡ y.values =
    one_list_of_values supplies units y.unit y.root x.values y.values (subst W root (subst V unit (each x (inl refl)))) (each' y (inl refl)) in
    let first : x ≡ y = same_list x.unit y.unit x.root y.root x.values y.values unit root values in
    let rest : xs ≡ ys = same_lists supplies units xs ys (λ l i. each l (inr i)) (λ l i. each' l (inr i)) behind in
    cc

-- a network has at most one list of the lists of its units
pub one_unit_lists : (supplies : List Supply) (units : List PowerUnit) (xs ys : List RootList)
    → AreUnitLists supplies units xs → AreUnitLists supplies units ys → xs ≡ ys
one_unit_lists supplies units xs ys h k =
    same_lists supplies units xs ys h.values k.values
    (one_list unit_and_root_cmp unit_and_root_cmp_total (λ (p : ℕ × ℕ). IsSeenRoot supplies units p.0 p.1)
    (map unit_and_root xs) (map unit_and_root ys) h.roots k.roots)

-- what stands at or inside a unit has no smaller number
no_smaller : (units : List PowerUnit) → OutersAreSmaller units → (a b : ℕ) → IsAtOrInside units a b → b ≤ a
no_smaller units smaller _ _ (IsAtOrInside.at a) = omega arith
no_smaller units smaller _ _ (IsAtOrInside.inside a b c unit there outer rest) =
    let below = no_smaller units smaller b c rest in
    let less = smaller a b unit there outer in
    omega arith

-- a root has at most one list in a whole job
pub one_job_list : (supplies : List Supply) (units : List PowerUnit) (lists : List RootList) → AreUnitLists supplies units lists → OutersAreSmaller units
    → (root : ℕ) (l m : RootList) → IsJobList units lists root l → IsJobList units lists root m → l ≡ m
one_job_list supplies units lists are smaller root l m h k =
    let there = no_smaller units smaller l.unit m.unit (k.outermost l h.listed h.of_root) in
    let back = no_smaller units smaller m.unit l.unit (h.outermost m k.listed k.of_root) in
    let unit : l.unit ≡ m.unit = omega arith in
    let root' : l.root ≡ m.root = h.of_root ∙ sym k.of_root in
    let V : ℕ → Type 0 = λ u. AreValues supplies units u l.root l.values in
    let W : ℕ → Type 0 = λ r. AreValues supplies units m.unit r l.values in
    same_list l.unit m.unit l.root m.root l.values m.values unit root'
    (one_list_of_values supplies units m.unit m.root l.values m.values (subst W root' (subst V unit (are.values l h.listed))) (are.values m k.listed))
