-- Where among the children of all instances a name inside an instance can stand.
use Rattle.std.proofs.Common.{◌≡◌, ℕ, zero, suc, ◌<◌, List, [], ◌∷◌, length, Option, Some, None, MatchOption, slice_get, slice_index_or, inl, inr, refl, sym, ap, ◌∙◌, subst, arith}
use Rattle.std.specs.Cmp.{IsTotalOrder}
use Rattle.std.specs.FinMap.{nat_cmp-IsAntisymmetric, slice_cmp-IsAntisymmetric}
use Rattle.std.specs.Ordering.{nat_cmp, ordering_reverse}
use Rattle.std.specs.declared.cmp.Ordering.TheVariants.{Less, Equal, Greater}
use Rattle.std.specs.Option.{option_map}
use Rattle.std.proofs.lemmas.Bool.{cases_lt, cases_eq}
use Rattle.std.proofs.lemmas.List.{append_cancel_left}
use Rattle.std.proofs.lemmas.Option.{slice_get-get_or, slice_get_past}
use Rattle.std.proofs.lemmas.Cmp.{nat_cmp_total, lists_total, on_total, then_total}
use Rattle.list_defs.specs.Orders.{name_cmp}
use Rattle.list_defs.proofs.Few.{place_of_member}
use Rattle.list_defs.proofs.Members.{IsIn-slice_get}
use Rattle.list_defs.proofs.OneList.{both_equal}
use Rattle.list_defs.proofs.Rising.{not_before_itself, not_both_before, rising_at}
use Rattle.pw_defs.specs.declared.design.Instance.{Instance}
use Rattle.design_defs.specs.Joined.{parent_of, path_of}
use Rattle.design_defs.specs.Names.{joined}
use Rattle.design_rows.proofs.Paths.{path_under}
use Rattle.design_rows.proofs.RowLemmas.{instance_get, length_instances}
use Rattle.design_rows.specs.declared.tables.Rows.{Rows}
use Rattle.design_rows.specs.Children.{HasChildren, HasNames, HasNamesInside, HasNoneInside, IsChild, IsInner, IsNamedInside, child_cmp, key_cmp, key_of}
use Rattle.design_rows.specs.Sound.{AreRows}
use Rattle.design_rows.specs.View.{design_of, inst_at, instance_at, name_at, parent_in, path_at}

pub key_total : IsTotalOrder key_cmp
key_total = then_total (on_total (λ k. k.0) nat_cmp_total) (on_total (λ k. k.1) (lists_total nat_cmp_total))

pub child_key : (r : Rows) (outer : ℕ) (name : List ℕ) (n : ℕ) → IsChild r outer name n → key_of r n ≡ (outer, name)
child_key r outer name n is = let inside = is.inside in let named = is.named in cc

module _ (r : Rows) (children : HasChildren r) (outer : ℕ) (name : List ℕ) (middle m : ℕ) (at : slice_get r.children middle ≡ Some m) where
  -- behind one that comes before the name
  pub behind : key_cmp (key_of r m) (outer, name) ≡ Less → (k n : ℕ) → slice_get r.children k ≡ Some n → IsChild r outer name n → middle < k
  behind less k n there is =
      elim (cases_lt middle k) [
        | inl later ↦ later
        | inr earlier ↦ elim (cases_eq k middle) [
          | inl same ↦
              let one : Some n ≡ Some m = sym there ∙ ap (slice_get r.children) same ∙ at in
              let key : key_of r m ≡ (outer, name) = cc in
              absurd (not_before_itself key_cmp key_total (outer, name) (subst (λ x. key_cmp x (outer, name) ≡ Less) key less))
          | inr other ↦
              let before = rising_at (child_cmp r) r.children children.rising k middle n m (omega arith) there at in
              absurd (not_both_before key_cmp key_total (key_of r m) (outer, name) less (subst (λ x. key_cmp x (key_of r m) ≡ Less) (child_key r outer name n is) before))
        ]
      ]

  -- before one that comes behind the name
  pub ahead : key_cmp (key_of r m) (outer, name) ≡ Greater → (k n : ℕ) → slice_get r.children k ≡ Some n → IsChild r outer name n → k < middle
  ahead greater k n there is =
      let less : key_cmp (outer, name) (key_of r m) ≡ Less = key_total.antisymm (outer, name) (key_of r m) ∙ ap ordering_reverse greater in
      elim (cases_lt k middle) [
        | inl earlier ↦ earlier
        | inr later ↦ elim (cases_eq k middle) [
          | inl same ↦
              let one : Some n ≡ Some m = sym there ∙ ap (slice_get r.children) same ∙ at in
              let key : key_of r m ≡ (outer, name) = cc in
              absurd (not_before_itself key_cmp key_total (outer, name) (subst (λ x. key_cmp (outer, name) x ≡ Less) key less))
          | inr other ↦
              let after = rising_at (child_cmp r) r.children children.rising middle k m n (omega arith) at there in
              absurd (not_both_before key_cmp key_total (key_of r m) (outer, name) (subst (λ x. key_cmp (key_of r m) x ≡ Less) (child_key r outer name n is) after) less)
        ]
      ]

-- a name joined to a path is told by the whole
pub joined_once : (path one other : List ℕ) → joined path one ≡ joined path other → one ≡ other
joined_once [] one other same = same
joined_once (c ∷ cs) one other same =
    let rest : 47 ∷ one ≡ 47 ∷ other = append_cancel_left (c ∷ cs) (47 ∷ one) (47 ∷ other) same in
    cc

once : {X : Type 0} {x y : X} → Some x ≡ Some y → x ≡ y
once same = cc

-- what is inside an instance of the rows is so in their design
module _ (r : Rows) (rows : AreRows r) where
  parent_there : (n : ℕ) → n < length r.insts → parent_of (design_of r) n ≡ Some (parent_in n (inst_at r n).parent)
  unfolding instance_at
  parent_there n within = ap (option_map (λ (i : Instance). i.parent)) (instance_get r n within)

  path_there : (n : ℕ) → n < length r.insts → path_of (design_of r) n ≡ Some (path_at r n)
  unfolding instance_at
  path_there n within = ap (option_map (λ (i : Instance). i.path)) (instance_get r n within)

  inner_in : (m p outer : ℕ) → parent_in m p ≡ Some outer → (0 < m) × (p ≡ outer)
  inner_in zero p outer is = cc
  inner_in (suc m) p outer is = (omega arith, once is)

  inner_of : (n outer : ℕ) → parent_of (design_of r) n ≡ Some (Some outer) → IsInner r n × ((inst_at r n).parent ≡ outer)
  inner_of n outer inside = elim (cases_lt n (length r.insts)) [
    | inl within ↦
        let here = inner_in n (inst_at r n).parent outer (once (sym (parent_there n within) ∙ inside)) in
        ((here.0, within), here.1)
    | inr past ↦
        let none : slice_get (design_of r).insts n ≡ None = slice_get_past (design_of r).insts n (omega (arith, length_instances r)) in
        let lost : option_map (λ (i : Instance). i.parent) None ≡ Some (Some outer) = ap (option_map (λ (i : Instance). i.parent)) (sym none) ∙ inside in
        cc
  ]

  pub named_inside : (n : ℕ) → IsInner r n → IsNamedInside (design_of r) (inst_at r n).parent (name_at r (inst_at r n).name) n
  named_inside n inner = record {
    inside = parent_there n inner.1 ∙ ap Some (later n (inst_at r n).parent inner.0);
    path = path_at r (inst_at r n).parent;
    path_of_outer = path_there (inst_at r n).parent (omega (arith, rows.parents n inner.0 inner.1, inner.1));
    path_there = path_there n inner.1 ∙ ap Some (path_under r rows n inner.0);
  }
    where
      later : (m p : ℕ) → 0 < m → parent_in m p ≡ Some p
      later zero p some = absurd (omega arith)
      later (suc m) p some = refl

  -- what has a name inside an instance of the rows has it in their design
  pub child_named : (outer : ℕ) (name : List ℕ) (n : ℕ) → IsChild r outer name n → IsNamedInside (design_of r) outer name n
  child_named outer name n is =
      let P : ℕ → Type 0 = λ p. IsNamedInside (design_of r) p (name_at r (inst_at r n).name) n in
      let Q : List ℕ → Type 0 = λ own. IsNamedInside (design_of r) outer own n in
      subst Q is.named (subst P is.inside (named_inside n is.inner))

  -- and the other way round
  pub named_child : (outer : ℕ) (name : List ℕ) (n : ℕ) → IsNamedInside (design_of r) outer name n → IsChild r outer name n
  named_child outer name n is =
      let inner = inner_of n outer is.inside in
      let own = named_inside n inner.0 in
      let P : ℕ → Type 0 = λ p. path_of (design_of r) p ≡ Some own.path in
      let outer_path : path_of (design_of r) outer ≡ Some own.path = subst P inner.1 own.path_of_outer in
      let paths : own.path ≡ is.path = once (sym outer_path ∙ is.path_of_outer) in
      let whole : joined own.path (name_at r (inst_at r n).name) ≡ joined own.path name =
      once (sym own.path_there ∙ is.path_there) ∙ ap (λ path. joined path name) (sym paths) in
      record { inner = inner.0; inside = inner.1; named = joined_once own.path (name_at r (inst_at r n).name) name whole }

  -- each has a name there
  pub all_named : HasNames r → HasNamesInside (design_of r)
  all_named names n outer inside =
      let inner = inner_of n outer inside in
      let P : ℕ → Type 0 = λ p. IsNamedInside (design_of r) p (name_at r (inst_at r n).name) n in
      (name_at r (inst_at r n).name, names n inner.0, subst P inner.1 (named_inside n inner.0))

  -- so what is found by the rows is found in their design
  pub found_named : (outer : ℕ) (name : List ℕ) (found : Option ℕ) → MatchOption found ((n : ℕ) → IsChild r outer name n → ⊥) (λ n. IsChild r outer name n)
      → MatchOption found (HasNoneInside (design_of r) outer name) (λ n. IsNamedInside (design_of r) outer name n)
  found_named outer name None none = λ n is. none n (named_child outer name n is)
  found_named outer name (Some n) is = child_named outer name n is

-- two keys of which neither comes first are the same
pub same_key : (a b : ℕ × List ℕ) → key_cmp a b ≡ Equal → (a.0 ≡ b.0) × (a.1 ≡ b.1)
same_key a b equal =
    let both = both_equal (nat_cmp a.0 b.0) (name_cmp a.1 b.1) equal in
    (nat_cmp-IsAntisymmetric a.0 b.0 both.0, slice_cmp-IsAntisymmetric nat_cmp-IsAntisymmetric a.1 b.1 both.1)

module _ (r : Rows) (children : HasChildren r) (xs : List ℕ) (same : xs ≡ r.children) (place : ℕ) (within : place < length xs) where
  -- what stands at a place of the list of children
  pub child_there : slice_get r.children place ≡ Some (slice_index_or xs place 0)
  child_there = ap (λ ys. slice_get ys place) (sym same) ∙ slice_get-get_or xs place 0 within

  pub child_inner : IsInner r (slice_index_or xs place 0)
  child_inner = children.each (slice_index_or xs place 0) (IsIn-slice_get r.children place (slice_index_or xs place 0) child_there)

-- each instance inside another one is at some place of the list
pub child_place : (r : Rows) → HasChildren r → (xs : List ℕ) → xs ≡ r.children → (n : ℕ) → IsInner r n → (k : ℕ) × (slice_get xs k ≡ Some n)
child_place r children xs same n inner =
    let place = place_of_member n r.children (children.all n inner) in
    (place.0, ap (λ ys. slice_get ys place.0) same ∙ place.1)
