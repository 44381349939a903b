-- Sets in order: what an insert leaves.
use Rattle.std.proofs.Common.{◌≡◌, ◌≢◌, ℕ, Bool, true, false, not, ◌&&◌, ◌||◌, eqb, eq-eqb, ◌-◌, ◌<◌, List, [], ◌∷◌, ◌++◌, take, length, get_or, slice_get, Some, ◌⊎◌, inl, inr, refl, sym, ap, ◌∙◌, subst}
use Rattle.std.proofs.lemmas.Bool.{eqb-true}
use Rattle.std.proofs.lemmas.Option.{slice_get-get_or}
use Rattle.std.specs.BTreeSet.{insert_key}
use Rattle.std.specs.BTreeMap.{is_at}
use Rattle.std.specs.List.{list_any}
use Rattle.std.specs.Ordering.{nat_cmp, ordering_then, match_ordering, is_eq}
use Rattle.std.specs.declared.cmp.Ordering.{Ordering}
use Rattle.std.specs.declared.cmp.Ordering.TheVariants.{Less, Equal, Greater}
use Rattle.std.proofs.lemmas.Map.Lookups.{CmpEqualImpliesEq, exact_unsigned}
use Rattle.pw_defs.specs.Values.{value_cmp}
use Rattle.pw_defs.specs.contracts.values.ValueOrd.TheImpl.{cmp-value}
use Rattle.pw_defs.specs.declared.values.Value.{Value}
use Rattle.pw_defs.specs.declared.values.Value.TheVariants.{Off, On}
use Rattle.list_defs.specs.Members.{IsIn}
use Rattle.unit_lists.specs.Kept.{Gains}
use Rattle.unit_lists.specs.Views.{view_cmp}
use Rattle.unit_lists.specs.declared.views.View.{View}

-- by a view, then by what belongs to it
abbrev pub at_view_cmp : {V : Type 0} → (V → V → Ordering) → View × V → View × V → Ordering
at_view_cmp cmp a b = ordering_then (view_cmp a.0 b.0) (cmp a.1 b.1)

-- one of two orders, and then the other
then_equal : (o p : Ordering) → ordering_then o p ≡ Equal → (o ≡ Equal) × (p ≡ Equal)
then_equal Less p e = cc
then_equal Equal p e = (refl, e)
then_equal Greater p e = cc

same_views : (u v s t : ℕ) → u ≡ v → s ≡ t → (let a : View = record { unit = u; supply = s } in let b : View = record { unit = v; supply = t } in a ≡ b)
same_views u v s t e f = cc

-- views that compare equal are the same
pub exact_views : CmpEqualImpliesEq view_cmp
exact_views a b e =
    let parts = then_equal (nat_cmp a.unit b.unit) (nat_cmp a.supply b.supply) e in
    same_views a.unit b.unit a.supply b.supply (exact_unsigned a.unit b.unit parts.0) (exact_unsigned a.supply b.supply parts.1)

-- the order of values as code compares them
abbrev pub value_ord : Value → Value → Ordering
value_ord = (cmp-value).it

-- is the order of values
pub value_ord_is : (v w : Value) → value_ord v w ≡ value_cmp v w
value_ord_is Off Off = refl
value_ord_is Off (On w) = refl
value_ord_is (On v) Off = refl
value_ord_is (On v) (On w) = refl

-- values that compare equal are the same
pub exact_values : CmpEqualImpliesEq value_ord
exact_values Off Off e = refl
exact_values Off (On w) e = cc
exact_values (On v) Off e = cc
exact_values (On v) (On w) e = ap On (exact_unsigned v w e)

same_pairs : {V : Type 0} (a b : View) (x y : V) → a ≡ b → x ≡ y → (let p : View × V = (a, x) in let q : View × V = (b, y) in p ≡ q)
same_pairs a b x y e f = cc

pub exact_at_views : {V : Type 0} (cmp : V → V → Ordering) → CmpEqualImpliesEq cmp → CmpEqualImpliesEq (at_view_cmp cmp)
exact_at_views cmp exact a b e =
    let parts = then_equal (view_cmp a.0 b.0) (cmp a.1 b.1) e in
    same_pairs a.0 b.0 a.1 b.1 (exact_views a.0 b.0 parts.0) (exact a.1 b.1 parts.1)

-- an insert adds the key
pub gains_key : {K : Type 0} (cmp : K → K → Ordering) → CmpEqualImpliesEq cmp → (keys : List K) (k : K) → Gains keys (insert_key cmp keys k) k
gains_key cmp exact [] k = record { kept = λ y there. absurd there; there = inl refl; only = λ y there. elim there [ inl e ↦ inr e | inr none ↦ absurd none ] }
gains_key {K} cmp exact (x ∷ xs) k = by (cmp k x) refl (gains_key cmp exact xs k)
  where
    by : (o : Ordering) → cmp k x ≡ o → Gains xs (insert_key cmp xs k) k
        → Gains (x ∷ xs) (match_ordering o (k ∷ x ∷ xs) (x ∷ xs) (x ∷ insert_key cmp xs k)) k
    by Less e rest = record { kept = λ y there. inr there; there = inl refl; only = λ y there. elim there [ inl e ↦ inr e | inr later ↦ inl later ] }
    by Equal e rest = record { kept = λ y there. there; there = inl (exact k x e); only = λ y there. inl there }
    by Greater e rest = record {
      kept = λ y there. elim there [ inl here ↦ inl here | inr later ↦ inr (rest.kept y later) ];
      there = inr rest.there;
      only = λ y there. elim there [
        | inl here ↦ inl (inl here)
        | inr later ↦ elim (rest.only y later) [ inl old ↦ inl (inr old) | inr new ↦ inr new ]
      ];
    }

-- the keys after an insert of this key
pub gains_by : {K : Type 0} (cmp : K → K → Ordering) → CmpEqualImpliesEq cmp → (old new : List K) (k : K) → new ≡ insert_key cmp old k → Gains old new k
gains_by cmp exact old new k e = let G : List _ → Type 0 = λ ks. Gains old ks k in subst G (sym e) (gains_key cmp exact old k)

-- what a test of two views tells
pub other_view : (a b : View) (r : Bool) → r ≡ not (eqb a.unit b.unit && eqb a.supply b.supply) → r ≡ true → a ≢ b
other_view a b r test other same =
    let units : eqb a.unit b.unit ≡ true = eq-eqb a.unit b.unit (ap (λ (v : View). v.unit) same) in
    let supplies : eqb a.supply b.supply ≡ true = eq-eqb a.supply b.supply (ap (λ (v : View). v.supply) same) in
    cc

pub same_view : (a b : View) (r : Bool) → r ≡ not (eqb a.unit b.unit && eqb a.supply b.supply) → r ≡ false → a ≡ b
same_view a b r test same = by (eqb a.unit b.unit) refl (eqb a.supply b.supply) refl
  where
    by : (x : Bool) → eqb a.unit b.unit ≡ x → (y : Bool) → eqb a.supply b.supply ≡ y → a ≡ b
    by true e true f = same_views a.unit b.unit a.supply b.supply (eqb-true a.unit b.unit e) (eqb-true a.supply b.supply f)
    by true e false f = cc
    by false e y f = cc

or_parts : (a b : Bool) → (a || b) ≡ true → (a ≡ true) ⊎ (b ≡ true)
or_parts true b e = inl refl
or_parts false b e = inr e

pub equal_from : (o : Ordering) → is_eq o ≡ true → o ≡ Equal
equal_from Less e = cc
equal_from Equal e = refl
equal_from Greater e = cc

-- what a set has is one of its keys
pub key_from : {K : Type 0} (cmp : K → K → Ordering) → CmpEqualImpliesEq cmp → (keys : List K) (k : K) → list_any (is_at (cmp k)) keys ≡ true → IsIn k keys
key_from cmp exact [] k e = cc
key_from cmp exact (x ∷ xs) k e = elim (or_parts (is_eq (cmp k x)) (list_any (is_at (cmp k)) xs) e) [
  | inl here ↦ inl (exact k x (equal_from (cmp k x) here))
  | inr later ↦ inr (key_from cmp exact xs k later)
]

or_left : (a b : Bool) → a ≡ true → (a || b) ≡ true
or_left a b e = cc

or_right : (a b : Bool) → b ≡ true → (a || b) ≡ true
or_right true b e = refl
or_right false b e = e

-- and it has each of its keys
pub key_to : {K : Type 0} (cmp : K → K → Ordering) → ((k : K) → cmp k k ≡ Equal) → (keys : List K) (k : K) → IsIn k keys → list_any (is_at (cmp k)) keys ≡ true
key_to cmp itself [] k there = absurd there
key_to {K} cmp itself (x ∷ xs) k there = elim there [
  | inl same ↦ or_left (is_eq (cmp k x)) (list_any (is_at (cmp k)) xs) (ap (λ (y : K). is_eq (cmp k y)) (sym same) ∙ ap is_eq (itself k))
  | inr later ↦ or_right (is_eq (cmp k x)) (list_any (is_at (cmp k)) xs) (key_to cmp itself xs k later)
]

-- a key that was not added was there
pub not_added : (added there : Bool) → added ≡ not there → added ≡ false → there ≡ true
not_added added true e f = refl
not_added added false e f = cc

-- a list of which nothing could be taken is empty
pub none_taken : {X : Type 0} (n : ℕ) (old new : List X) → n ≡ 0 → new ≡ take (n - 1) old → old ≡ new ++ [] → old ≡ []
none_taken n old new e f g = g ∙ ap (λ (xs : List _). xs ++ []) (f ∙ ap (λ (m : ℕ). take (m - 1) old) e)

-- what stands at a place of a list
pub item_there : {X : Type 0} (xs items : List X) (n : ℕ) (d : X) → items ≡ xs → n < length xs → slice_get xs n ≡ Some (get_or items n d)
item_there xs items n d same below = slice_get-get_or xs n d below ∙ ap (λ (ys : List _). Some (get_or ys n d)) (sym same)

pub item_is : {X : Type 0} (xs items : List X) (n : ℕ) (x : X) → items ≡ xs → x ≡ get_or items n x → n < length xs → slice_get xs n ≡ Some x
item_is xs items n x same is below = item_there xs items n x same below ∙ ap Some (sym is)
