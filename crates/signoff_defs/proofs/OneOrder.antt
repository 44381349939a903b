-- A sound intent has one order of its roots, and one place for each supply.
use Rattle.std.proofs.Common.{◌≡◌, ℕ, zero, suc, inl, inr, List, [], ◌∷◌, ◌++◌, length, Some, sym, ap, subst, ◌∙◌, refl}
use Rattle.std.specs.Prelude.{slice_get}
use Rattle.std.specs.Cmp.{IsTotalOrder}
use Rattle.std.specs.List.{AllZip}
use Rattle.std.specs.Ordering.{ordering_reverse}
use Rattle.std.specs.declared.cmp.Ordering.{Ordering}
use Rattle.std.specs.declared.cmp.Ordering.TheVariants.{Less, Greater}
use Rattle.std.proofs.lemmas.Cmp.{nat_cmp_total, nat_list_cmp_total, on_total, then_total}
use Rattle.std.proofs.lemmas.Option.{same_Some}
use Rattle.pw_defs.specs.declared.design.Design.{Design}
use Rattle.pw_defs.specs.declared.intent.Intent.{Intent}
use Rattle.pw_defs.specs.declared.intent.Unit.{Unit as PowerUnit}
use Rattle.pw_defs.specs.declared.intent.RootList.{RootList}
use Rattle.pw_defs.specs.declared.intent.Want.{Want}
use Rattle.pw_defs.specs.declared.intent.Want.TheVariants.{Check, Macro}
use Rattle.pw_defs.specs.declared.values.Value.{Value}
use Rattle.list_defs.specs.Members.{IsIn}
use Rattle.list_defs.specs.Orders.{IsRising, AreAllRising}
use Rattle.list_defs.proofs.Members.{IsIn-append_cases}
use Rattle.list_defs.proofs.Rising.{each_in}
use Rattle.supply_defs.specs.Places.{ArePlaces}
use Rattle.supply_defs.specs.UnitViews.{in_ports}
use Rattle.list_defs.proofs.OneList.{one_list}
use Rattle.supply_defs.proofs.OnePlace.{one_list_of_places}
use Rattle.supply_defs.proofs.UnitListLaws.{one_job_list}
use Rattle.signoff_defs.proofs.SoundSupplies.{HasSoundSupplies}
use Rattle.signoff_defs.specs.RootOrders.{RootOrder, IsHidden, HasJobValues, IsRootOrder}
use Rattle.signoff_defs.specs.Visibility.{IsOtherRoot, IsInterface, IsVisible, AreVisibleFor, root_cmp, supply_name, model_number}
use Rattle.list_defs.proofs.OneFound.{zip_once}

pub root_cmp_total : (d : Design) (i : Intent) → IsTotalOrder (root_cmp d i)
root_cmp_total d i = then_total (on_total (supply_name i) nat_list_cmp_total)
    (then_total (on_total (model_number d i) nat_cmp_total) nat_cmp_total)

-- ---- one order

interface_once : (d : Design) (i : Intent) (unit : ℕ) (u : PowerUnit) (xs ys : List ℕ) → IsInterface d i unit u xs → IsInterface d i unit u ys → xs ≡ ys
interface_once d i unit u xs ys a b =
    let others : a.others ≡ b.others = one_list (root_cmp d i) (root_cmp_total d i) (IsOtherRoot d i unit u) a.others b.others a.are_others b.are_others in
    a.all ∙ ap (λ (os : List ℕ). in_ports i.supplies u ++ os) others ∙ sym b.all

visible_once : (w : Want) (d : Design) (i : Intent) (xs ys : List ℕ) → AreVisibleFor w d i xs → AreVisibleFor w d i ys → xs ≡ ys
visible_once Check d i xs ys a b = one_list (root_cmp d i) (root_cmp_total d i) (IsVisible d i) xs ys a b
visible_once Macro d i xs ys a b =
    let top : a.top ≡ b.top = same_Some a.top b.top (sym a.is_top ∙ b.is_top) in
    interface_once d i 0 b.top xs ys (subst (λ (u : PowerUnit). IsInterface d i 0 u xs) top a.is_interface) b.is_interface

values_once : (i : Intent) → HasSoundSupplies i → (root : ℕ) (v w : List Value) → HasJobValues i root v → HasJobValues i root w → v ≡ w
values_once i sound root v w a b =
    let list : a.list ≡ b.list = one_job_list i.supplies i.units i.lists sound.lists sound.outers root a.list b.list a.is_list b.is_list in
    a.listed ∙ ap (λ (l : RootList). l.values) list ∙ sym b.listed

order_with : {r s : List ℕ} {m n : ℕ} {x y : List (List Value)} → r ≡ s → m ≡ n → x ≡ y
    → (let o : RootOrder = record { roots = r; visible = m; lists = x } in o) ≡ record { roots = s; visible = n; lists = y }
order_with {r} {s} {m} {n} {x} {y} p q e = cc

-- a sound intent has one order of its roots
pub order_once : (d : Design) (i : Intent) → HasSoundSupplies i → (x y : RootOrder) → IsRootOrder d i x → IsRootOrder d i y → x ≡ y
order_once d i sound x y a b =
    let seen : a.seen ≡ b.seen = visible_once i.want d i a.seen b.seen a.are_visible b.are_visible in
    let hidden : a.hidden ≡ b.hidden = one_list (root_cmp d i) (root_cmp_total d i) (IsHidden i b.seen) a.hidden b.hidden
    (subst (λ (s : List ℕ). AreAllRising (root_cmp d i) (IsHidden i s) a.hidden) seen a.are_hidden) b.are_hidden in
    let all : a.seen ++ a.hidden ≡ b.seen ++ b.hidden = cc in
    let roots : x.roots ≡ y.roots = a.roots ∙ all ∙ sym b.roots in
    order_with roots (a.count ∙ ap length seen ∙ sym b.count)
    (zip_once (HasJobValues i) (values_once i sound) y.roots x.lists y.lists
    (subst (λ (rs : List ℕ). AllZip (HasJobValues i) rs x.lists) roots a.lists) b.lists)

-- ---- one place for each supply

-- no root comes twice
abbrev pub Apart : List ℕ → Type 0
Apart [] = Unit {0}
Apart (x ∷ xs) = (IsIn x xs → ⊥) × Apart xs

not_less : {X : Type 0} (cmp : X → X → Ordering) → IsTotalOrder cmp → (x : X) → cmp x x ≡ Less → ⊥
not_less cmp total x less =
    let back : cmp x x ≡ ordering_reverse (cmp x x) = total.antisymm x x in
    let greater : ordering_reverse (cmp x x) ≡ Greater = ap ordering_reverse less in
    cc

pub rising_apart : (cmp : ℕ → ℕ → Ordering) → IsTotalOrder cmp → (xs : List ℕ) → IsRising cmp xs → Apart xs
rising_apart cmp total [] up = tt
rising_apart cmp total (x ∷ xs) up = (λ there. not_less cmp total x (each_in (λ y. cmp x y ≡ Less) xs x up.0 there), rising_apart cmp total xs up.1)

both_apart : (xs ys : List ℕ) → Apart xs → Apart ys → ((z : ℕ) → IsIn z xs → IsIn z ys → ⊥) → Apart (xs ++ ys)
both_apart [] ys p q off = q
both_apart (x ∷ xs) ys p q off =
    (λ there. elim (IsIn-append_cases x xs ys there) [ inl i ↦ p.0 i | inr j ↦ off x (inl refl) j ], both_apart xs ys p.1 q (λ z i j. off z (inr i) j))

there_in : (xs : List ℕ) (n r : ℕ) → slice_get xs n ≡ Some r → IsIn r xs
there_in [] n r e = cc
there_in (x ∷ xs) zero r e = let same : r ≡ x = cc in inl same
there_in (x ∷ xs) (suc n) r e = inr (there_in xs n r e)

one_place : (xs : List ℕ) (m n r s : ℕ) → Apart xs → r ≡ s → slice_get xs m ≡ Some r → slice_get xs n ≡ Some s → m ≡ n
one_place [] m n r s apart same a b = cc
one_place (x ∷ xs) zero zero r s apart same a b = refl
one_place (x ∷ xs) zero (suc n) r s apart same a b = let e : x ≡ s = cc in absurd (apart.0 (subst (λ (z : ℕ). IsIn z xs) (sym e) (there_in xs n s b)))
one_place (x ∷ xs) (suc m) zero r s apart same a b = let e : x ≡ r = cc in absurd (apart.0 (subst (λ (z : ℕ). IsIn z xs) (sym e) (there_in xs m r a)))
one_place (x ∷ xs) (suc m) (suc n) r s apart same a b = ap suc (one_place xs m n r s apart.1 same a b)

pub order_apart : (d : Design) (i : Intent) (o : RootOrder) (a : IsRootOrder d i o) → Apart a.seen → Apart o.roots
order_apart d i o a seen = subst Apart (sym a.roots)
    (both_apart a.seen a.hidden seen (rising_apart (root_cmp d i) (root_cmp_total d i) a.hidden a.are_hidden.rising)
    (λ z i j. (a.are_hidden.each z j).unseen i))

-- in an order without repeats each supply has one place
pub places_once : (i : Intent) → HasSoundSupplies i → (roots p q : List ℕ) → Apart roots → ArePlaces i.supplies roots p → ArePlaces i.supplies roots q → p ≡ q
places_once i sound roots p q apart a b =
    one_list_of_places i.supplies roots p q sound.no_ring sound.in_range (λ m n root here there. one_place roots m n root root apart refl here there) a b
