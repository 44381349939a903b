-- The top is the first instance of a made design, and what an instance is inside comes before it.
use Rattle.std.proofs.Common.{◌≡◌, ◌≢◌, ℕ, zero, suc, ◌<◌, ◌⊎◌, ◌↔◌, List, [], ◌∷◌, ◌++◌, Option, Some, None, option_map, slice_get, inl, inr, refl, sym, ap, ◌∙◌, subst, arith}
use Rattle.std.specs.Cmp.{IsTotalOrder, nat_cmp_is}
use Rattle.std.specs.Cmp.Lexicographic.{slice_cmp}
use Rattle.std.specs.Ordering.{nat_cmp, ordering_then}
use Rattle.std.specs.declared.cmp.Ordering.{Ordering}
use Rattle.std.specs.declared.cmp.Ordering.TheVariants.{Less, Equal}
use Rattle.std.proofs.lemmas.Bool.{cases_order}
use Rattle.std.proofs.lemmas.Option.{same_Some}
use Rattle.pw_defs.specs.declared.design.Body.TheVariants.{Module as ModuleBody}
use Rattle.pw_defs.specs.declared.design.Design.{Design}
use Rattle.pw_defs.specs.declared.design.Instance.{Instance}
use Rattle.list_defs.specs.Members.{IsIn}
use Rattle.list_defs.specs.Orders.{IsRising, name_cmp}
use Rattle.list_defs.proofs.Members.{IsIn-slice_get}
use Rattle.list_defs.proofs.Rising.{each_in, not_before_itself, not_both_before}
use Rattle.design_defs.specs.DesignFaults.{FaultKind, IsFault, IsFaultless, at_no_line}
use Rattle.design_defs.specs.Designs.{IsMadeFrom, IsParentOf}
use Rattle.design_defs.specs.Hierarchy.{IsInstance, Sources, Way, module_named, path, paths, way_cmp}
use Rattle.design_defs.specs.Names.{joined}
use Rattle.design_defs.specs.Sound.{HasParentsFirst, HasTop, IsInstanceOfModule}
use Rattle.design_defs.proofs.BitOrders.{way_total}
use Rattle.design_laws.proofs.Lines.{line_of}
use Rattle.design_laws.proofs.Numbered.{IsWayOf, body_of_way, is_instance, one_number, one_way, way_of_inst, way_of_parent}

-- ORDER. Of two things in a rising list the one that comes first has the lower number.
pub rising_places : {X : Type 0} (cmp : X → X → Ordering) (xs : List X) → IsRising cmp xs → (n m : ℕ) (x y : X) → slice_get xs n ≡ Some x
    → slice_get xs m ≡ Some y → n < m → cmp x y ≡ Less
rising_places cmp [] rising n m x y e f less = cc
rising_places cmp (z ∷ zs) rising n zero x y e f less = absurd (omega arith)
rising_places cmp (z ∷ zs) rising zero (suc m) x y e f less =
    subst (λ w. cmp w y ≡ Less) (same_Some z x e) (each_in (λ w. cmp z w ≡ Less) zs y rising.0 (IsIn-slice_get zs m y f))
rising_places cmp (z ∷ zs) rising (suc n) (suc m) x y e f less = rising_places cmp zs rising.1 n m x y e f (omega arith)

pub lower_place : {X : Type 0} (cmp : X → X → Ordering) → IsTotalOrder cmp → (xs : List X) → IsRising cmp xs → (n m : ℕ) (x y : X) → slice_get xs n ≡ Some x
    → slice_get xs m ≡ Some y → cmp x y ≡ Less → n < m
lower_place cmp total xs rising n m x y e f less =
    elim (cases_order n m) [
      | inl same ↦
          (let things : x ≡ y = same_Some x y (sym e ∙ ap (slice_get xs) same ∙ f) in
          absurd (not_before_itself cmp total y (subst (λ z. cmp z y ≡ Less) things less)))
      | inr apart ↦
          elim apart [
            | inl before ↦ before
            | inr behind ↦
                (let back = rising_places cmp xs rising m n y x f e behind in
                absurd (not_both_before cmp total x y less back))
          ]
    ]

-- a name comes before itself with more behind it
longer : (xs : List ℕ) (y : ℕ) (ys : List ℕ) → name_cmp xs (xs ++ y ∷ ys) ≡ Less
longer [] y ys = refl
longer (x ∷ xs) y ys = ap (λ o. ordering_then o (slice_cmp nat_cmp xs (xs ++ y ∷ ys))) (sym (nat_cmp_is x x Equal refl)) ∙ longer xs y ys

-- the path of an instance is before those of what is inside it, or the same
not_behind : (outer name : List ℕ) → (name_cmp outer (joined outer name) ≡ Less) ⊎ (name_cmp outer (joined outer name) ≡ Equal)
not_behind [] [] = inr refl
not_behind [] (c ∷ cs) = inl refl
not_behind (c ∷ cs) name = inl (longer (c ∷ cs) 47 name)

pub outer_before : (name : List ℕ) (outer : Way) → way_cmp outer (name ∷ outer) ≡ Less
outer_before name [] = refl
outer_before name (o ∷ rest) = by (not_behind (path (o ∷ rest)) name) (outer_before o rest)
  where
    by : (name_cmp (path (o ∷ rest)) (joined (path (o ∷ rest)) name) ≡ Less) ⊎ (name_cmp (path (o ∷ rest)) (joined (path (o ∷ rest)) name) ≡ Equal)
        → slice_cmp name_cmp (paths rest) (paths (o ∷ rest)) ≡ Less
        → ordering_then (name_cmp (path (o ∷ rest)) (joined (path (o ∷ rest)) name)) (slice_cmp name_cmp (paths rest) (paths (o ∷ rest))) ≡ Less
    by (inl less) inner = ap (λ x. ordering_then x (slice_cmp name_cmp (paths rest) (paths (o ∷ rest)))) less
    by (inr same) inner = ap (λ x. ordering_then x (slice_cmp name_cmp (paths rest) (paths (o ∷ rest)))) same ∙ inner

-- TOP. It is an instance, and comes first.
pub top_there : (s : Sources) → IsFaultless s → IsInstance s []
top_there s faultless = by (module_named s s.top) refl
  where
    by : (o : Option ℕ) → module_named s s.top ≡ o → IsInstance s []
    by None none = absurd (faultless (at_no_line FaultKind.unknown_type s.top) (IsFault.no_top none))
    by (Some m) is = (ModuleBody m, ap (option_map ModuleBody) is)

never_before_top : (w : Way) → way_cmp w [] ≢ Less
never_before_top [] e = cc
never_before_top (name ∷ outer) e = cc

first_is_top : (ws : List Way) → IsRising way_cmp ws → IsIn [] ws → slice_get ws 0 ≡ Some []
first_is_top [] rising there = absurd there
first_is_top (w ∷ ws) rising (inl same) = ap Some (sym same)
first_is_top (w ∷ ws) rising (inr later) = absurd (never_before_top w (each_in (λ v. way_cmp w v ≡ Less) ws [] rising.0 later))

pub top_is_first : (s : Sources) (d : Design) (made : IsMadeFrom s d) → IsFaultless s → IsWayOf made 0 []
top_is_first s d made faultless = first_is_top made.numbering.ways made.numbering.all_ways.rising (made.numbering.all_ways.all [] (top_there s faultless))

top_is_module : (s : Sources) (d : Design) (made : IsMadeFrom s d) → IsFaultless s → IsInstanceOfModule d 0
top_is_module s d made faultless = by (module_named s s.top) refl (top_there s faultless)
  where
    by : (o : Option ℕ) → module_named s s.top ≡ o → IsInstance s [] → IsInstanceOfModule d 0
    by None none there = let e = there.1 in cc
    by (Some m) is there = (m, body_of_way s d made 0 [] (top_is_first s d made faultless) ∙ ap (option_map ModuleBody) is)

pub has_top : (s : Sources) (d : Design) → IsFaultless s → IsMadeFrom s d → HasTop d
has_top s d faultless made = record { first = top_is_module s d made faultless; alone = alone }
  where
    inside_none : (way : Way) (parent : Option ℕ) → IsParentOf made.numbering.ways way parent → parent ≡ None → way ≡ []
    inside_none [] parent is none = refl
    inside_none (name ∷ outer) parent is none = let e = is.1 in cc

    top_inside_none : (way : Way) (parent : Option ℕ) → IsParentOf made.numbering.ways way parent → way ≡ [] → parent ≡ None
    top_inside_none [] parent is top = is
    top_inside_none (name ∷ outer) parent is top = cc

    alone : (n : ℕ) (i : Instance) → slice_get d.insts n ≡ Some i → (i.parent ≡ None) ↔ (n ≡ 0)
    alone n i e =
        let found = way_of_inst s d made n i e in
        let top = top_is_first s d made faultless in (
          λ none. one_number s d made n 0 [] (subst (IsWayOf made n) (inside_none found.0 i.parent found.2.parent_there none) found.1) top,
          λ first. top_inside_none found.0 i.parent found.2.parent_there (one_way s d made 0 found.0 [] (subst (λ k. IsWayOf made k found.0) first found.1) top),
        )

-- PARENTS.
pub has_parents_first : (s : Sources) (d : Design) → IsMadeFrom s d → HasParentsFirst d
has_parents_first s d made n p e = by found.0 found.1 found.2
  where
    found : (way : Way) × IsWayOf made n way × IsParentOf made.numbering.ways way (Some p)
    found = way_of_parent s d made n (Some p) e

    by : (way : Way) → IsWayOf made n way → IsParentOf made.numbering.ways way (Some p) → (p < n) × IsInstanceOfModule d p
    by [] at is = cc
    by (name ∷ outer) at is =
        let here = is_instance s d made n (name ∷ outer) at in
        let line = line_of s name outer here.0 here.1 in
        let outer_at : IsWayOf made p outer = subst (λ k. IsWayOf made k outer) (sym (same_Some p is.0 is.1)) is.2 in (
          lower_place way_cmp way_total made.numbering.ways made.numbering.all_ways.rising p n outer (name ∷ outer) outer_at at (outer_before name outer),
          (line.number, body_of_way s d made p outer outer_at ∙ line.is_module.body),
        )
