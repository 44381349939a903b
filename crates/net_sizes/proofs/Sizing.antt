-- The sums over the types of instances are the numbers of all things below modules.
use Rattle.std.proofs.Common.{◌≡◌, ◌≢◌, ℕ, ◌+◌, ◌<◌, ◌⊎◌, Bool, true, false, eqb, ◌||◌, List, [], ◌∷◌, ◌++◌, Option, None, Some, option_map, option_and_then, length, map, min, sum, set, slice_index, inl, inr, refl, sym, ap, ◌∙◌, subst, arith, length-append, get_or-set_other, get_or-set_same}
use Rattle.std.specs.List.{flat_map, list_any}
use Rattle.std.proofs.lemmas.Bool.{eqb-true, eq-eqb, or_cases, false≢true}
use Rattle.std.proofs.lemmas.List.{length-map}
use Rattle.std.proofs.lemmas.List.Sums.{sum_by-cons}
use Rattle.std.proofs.lemmas.Option.{same_Some, slice_get-map}
use Rattle.list_defs.specs.Members.{IsIn, same_name}
use Rattle.list_defs.proofs.Members.{IsIn-append_cases, IsIn-map, IsIn-map_from}
use Rattle.pw_defs.specs.declared.design.Body.{Body}
use Rattle.pw_defs.specs.declared.design.Body.TheVariants.{Module as ModuleBody, Cell as CellBody, Model as ModelBody}
use Rattle.pw_defs.specs.declared.netlist.Inst.{Inst}
use Rattle.pw_defs.specs.declared.netlist.Module.{Module}
use Rattle.design_defs.specs.Bits.{Spot}
use Rattle.design_defs.specs.Hierarchy.{Sources, body_inside, module_at, module_named, type_of, HasBody}
use Rattle.design_defs.proofs.WalkEnds.{there_within}
use Rattle.net_hierarchy.specs.Graph.{AreInstsApart, Holds, Leads, types_of}
use Rattle.net_sizes.specs.Sizes.{AreCounted, AreSized, IsSized, or_none, part_in, row_in}
use Rattle.net_sizes.specs.Under.{AllDiffer, AreUnder, HasUnder, IsUnder, Own}
use Rattle.net_hierarchy.specs.Below.{body_below}
use Rattle.net_sizes.specs.declared.sizes.Counts.{Counts}
use Rattle.net_sizes.proofs.AllUnder.{AllDiffer-map, AreLists, all_under, here_at, inside_at, one_here, spot_of_parts, under_module}
use Rattle.net_hierarchy.proofs.Below.{below_first, snoc_view}
use Rattle.list_defs.proofs.NameLemmas.{place_of-within}
use Rattle.net_hierarchy.proofs.Places.{same_or_not}
use Rattle.net_hierarchy.proofs.Ways.{holds_by, line_of_row}
use Rattle.design_defs.proofs.BodiesThere.{type_there}

-- BODIES that there are.
module_there : (s : Sources) (n : ℕ) (m : Module) → module_at s n ≡ Some m → HasBody s (ModuleBody n)
module_there s n m is = (m.ports, ap (option_map (λ (x : Module). x.ports)) is)

module_of_body : (s : Sources) (n : ℕ) → HasBody s (ModuleBody n) → (m : Module) × (module_at s n ≡ Some m)
module_of_body s n has = by (module_at s n) refl has.1
  where
    by : (o : Option Module) → module_at s n ≡ o → option_map (λ (x : Module). x.ports) o ≡ Some has.0 → (m : Module) × (module_at s n ≡ Some m)
    by None none e = cc
    by (Some m) there e = (m, there)

-- SUMS that are the same as far as they are below a number.
min_more : (most a b c d : ℕ) → min most a ≡ min most b → min most c ≡ min most d → min most (a + c) ≡ min most (b + d)
min_more most a b c d p q = omega arith

min_sums : (most : ℕ) (t : Inst → Option Body) (p : Option Body → ℕ) (lists : Option Body → List Spot) (xs : List Inst)
    → ((i : Inst) → IsIn i xs → min most (p (t i)) ≡ min most (length (lists (t i)))) → (a b : ℕ) → min most a ≡ min most b
    → min most (a + sum (map p (map t xs))) ≡ min most (b + length (flat_map (λ (i : Inst). map (inside_at i.name) (lists (t i))) xs))
min_sums most t p lists [] each a b same = min_more most a b 0 0 same refl
min_sums most t p lists (x ∷ xs) each a b same =
    let first : min most (a + p (t x)) ≡ min most (b + length (lists (t x))) = min_more most a b (p (t x)) (length (lists (t x))) same (each x (inl refl)) in
    let rest = min_sums most t p lists xs (λ i there. each i (inr there)) (a + p (t x)) (b + length (lists (t x))) first in
    let parts : length (map (inside_at x.name) (lists (t x)) ++ flat_map (λ (i : Inst). map (inside_at i.name) (lists (t i))) xs)
    ≡ length (lists (t x)) + length (flat_map (λ (i : Inst). map (inside_at i.name) (lists (t i))) xs) =
    length-append (map (inside_at x.name) (lists (t x))) _ ∙ ap (λ (n : ℕ). n + length (flat_map (λ (i : Inst). map (inside_at i.name) (lists (t i))) xs)) (length-map (lists (t x)) (inside_at x.name)) in
    let cons : sum (p (t x) ∷ map p (map t xs)) ≡ p (t x) + sum (map p (map t xs)) = sum_by-cons (λ (n : ℕ). n) (p (t x)) (map p (map t xs)) in
    let left : a + sum (p (t x) ∷ map p (map t xs)) ≡ a + p (t x) + sum (map p (map t xs)) = omega arith in
    let right : b + length (lists (t x)) + length (flat_map (λ (i : Inst). map (inside_at i.name) (lists (t i))) xs)
    ≡ b + (length (lists (t x)) + length (flat_map (λ (i : Inst). map (inside_at i.name) (lists (t i))) xs)) = omega arith in
    ap (min most) left ∙ rest ∙ ap (min most) (right ∙ ap (λ (n : ℕ). b + n) (sym parts))

-- LEAVES: a body that shows nothing inside has its own things alone.
leaf_under : (s : Sources) (own : Own) (b : Body) → AllDiffer (own b) → ((name : List ℕ) → body_inside s name b ≡ None) → AreUnder s own b (map here_at (own b))
leaf_under s own b differ none = record { each = each; all = all; different = AllDiffer-map here_at one_here (own b) differ }
  where
    each : (x : Spot) → IsIn x (map here_at (own b)) → IsUnder s own b x
    each x there = let found = IsIn-map_from here_at x (own b) there in subst (IsUnder s own b) (sym found.2) (record { b = b; there = refl; one = found.1 })

    all : (x : Spot) → IsUnder s own b x → IsIn x (map here_at (own b))
    all x under =
        elim (snoc_view x.way) [
          | inl empty ↦
              (let same : b ≡ under.b = same_Some b under.b (ap (body_below s b) (sym empty) ∙ under.there) in
              let one : IsIn (x.net, x.place) (own b) = subst (λ c. IsIn (x.net, x.place) (own c)) (sym same) under.one in
              subst (λ y. IsIn y (map here_at (own b))) (sym (spot_of_parts x (here_at (x.net, x.place)) empty refl refl)) (IsIn-map here_at (x.net, x.place) (own b) one))
          | inr more ↦
              (let nothing : body_below s b x.way ≡ None = ap (body_below s b) more.2 ∙ below_first s b more.0 more.1 ∙ ap (option_and_then (λ c. body_below s c more.0)) (none more.1) in
              let something : body_below s b x.way ≡ Some under.b = under.there in
              cc)
        ]

-- the types of the instances of a module
pub row_of_module : (s : Sources) (n : ℕ) (m : Module) → module_at s n ≡ Some m → row_in (types_of s) n ≡ map (λ (i : Inst). type_of s i.kind) m.insts
row_of_module s n m is =
    ap or_none (slice_get-map (λ (x : Module). map (λ (i : Inst). type_of s i.kind) x.insts) s.modules n
    ∙ ap (option_map (λ (x : Module). map (λ (i : Inst). type_of s i.kind) x.insts)) is)

-- MODULES: one more, from those that it holds.
in_of_any : (k : ℕ) (xs : List ℕ) → list_any (eqb k) xs ≡ true → IsIn k xs
in_of_any k [] e = absurd (false≢true e)
in_of_any k (x ∷ xs) e = elim (or_cases (eqb k x) (list_any (eqb k) xs) e) [ inl here ↦ inl (eqb-true k x here) | inr later ↦ inr (in_of_any k xs later) ]

module _ (s : Sources) (own : Own) (apart : AreInstsApart s) (counts : Counts) (most : ℕ) (counted : AreCounted s own counts most)
    (sizes done : List ℕ) (sized : AreSized s own most sizes done) where
  -- the things below a module that is done
  chosen : (k : ℕ) (b : Bool) → list_any (eqb k) done ≡ b → List Spot
  chosen k true e = (sized k (in_of_any k done e)).has.xs
  chosen k false e = []

  lists : Option Body → List Spot
  lists None = []
  lists (Some (ModuleBody k)) = chosen k (list_any (eqb k) done) refl
  lists (Some (CellBody c)) = map here_at (own (CellBody c))
  lists (Some (ModelBody m)) = map here_at (own (ModelBody m))

  any_of_in : (k : ℕ) (xs : List ℕ) → IsIn k xs → list_any (eqb k) xs ≡ true
  any_of_in k [] there = absurd there
  any_of_in k (x ∷ xs) (inl e) = rw (eq-eqb k x e) refl
  any_of_in k (x ∷ xs) (inr later) = by (eqb k x) (any_of_in k xs later)
    where
      by : (b : Bool) → list_any (eqb k) xs ≡ true → b || list_any (eqb k) xs ≡ true
      by true rest = refl
      by false rest = rest

  record IsChosen (k : ℕ) (xs : List Spot) : Type 0 where
    pub are : AreUnder s own (ModuleBody k) xs
    pub size : min most (slice_index sizes k) ≡ min most (length xs)

  chosen_is : (k : ℕ) → IsIn k done → IsChosen k (lists (Some (ModuleBody k)))
  unfolding lists chosen
  chosen_is k there = by (list_any (eqb k) done) refl
    where
      by : (b : Bool) (e : list_any (eqb k) done ≡ b) → IsChosen k (chosen k b e)
      by true e =
          let is = sized k (in_of_any k done e) in
          let size : slice_index sizes k ≡ min most is.count = is.size in
          let count : length is.has.xs ≡ is.count = is.has.length in
          record { are = is.has.are; size = omega arith }
      by false e = absurd (false≢true (sym e ∙ any_of_in k done there))

  module _ (n : ℕ) (m : Module) (is : module_at s n ≡ Some m) (behind : (k : ℕ) → Holds (types_of s) n k → IsIn k done) where
    are_lists : AreLists s own lists m.insts
    unfolding lists
    are_lists = record { none = refl; some = some }
      where
        some : (i : Inst) (b : Body) → IsIn i m.insts → type_of s i.kind ≡ Some b → AreUnder s own b (lists (Some b))
        some i (ModuleBody k) one type = (chosen_is k (behind k (holds_by s n k m i is one type))).are
        some i (CellBody c) one type = leaf_under s own (CellBody c) (counted.different (CellBody c)) (λ name. refl)
        some i (ModelBody c) one type = leaf_under s own (ModelBody c) (counted.different (ModelBody c)) (λ name. refl)

    same_part : (i : Inst) → IsIn i m.insts → (o : Option Body) → type_of s i.kind ≡ o → min most (part_in counts sizes o) ≡ min most (length (lists o))
    unfolding lists
    same_part i one None type = refl
    same_part i one (Some (ModuleBody k)) type = (chosen_is k (behind k (holds_by s n k m i is one type))).size
    same_part i one (Some (CellBody c)) type = counted.count (CellBody c) (type_there s i.kind (CellBody c) type) ∙ ap (min most) (sym (length-map (own (CellBody c)) here_at))
    same_part i one (Some (ModelBody c)) type = counted.count (ModelBody c) (type_there s i.kind (ModelBody c) type) ∙ ap (min most) (sym (length-map (own (ModelBody c)) here_at))

    pub one_more : (total : ℕ) → total ≡ min most (slice_index counts.modules.items n + sum (map (part_in counts sizes) (row_in (types_of s) n)))
        → (c : ℕ) × HasUnder s own (ModuleBody n) c × (total ≡ min most c)
    one_more total e =
        let xs = under_module s own n lists m.insts in
        let sums = min_sums most (λ (i : Inst). type_of s i.kind) (part_in counts sizes) lists m.insts (λ i one. same_part i one (type_of s i.kind) refl)
        (slice_index counts.modules.items n) (length (own (ModuleBody n))) (counted.count (ModuleBody n) (module_there s n m is)) in
        let parts : length xs ≡ length (own (ModuleBody n)) + length (flat_map (λ (i : Inst). map (inside_at i.name) (lists (type_of s i.kind))) m.insts) =
        length-append (map here_at (own (ModuleBody n))) _
        ∙ ap (λ (k : ℕ). k + length (flat_map (λ (i : Inst). map (inside_at i.name) (lists (type_of s i.kind))) m.insts)) (length-map (own (ModuleBody n)) here_at) in (
          length xs,
          record { xs = xs; are = all_under s own counted.different apart n m is lists are_lists; length = refl },
          e ∙ ap (λ r. min most (slice_index counts.modules.items n + sum (map (part_in counts sizes) r))) (row_of_module s n m is) ∙ sums ∙ ap (min most) (sym parts),
        )

pub leads_within : (s : Sources) (top n : ℕ) → module_named s s.top ≡ Some top → Leads (types_of s) top n → (m : Module) × (module_at s n ≡ Some m)
leads_within s top _ named (Leads.here _) = there_within s.modules top (place_of-within (λ (x : Module). same_name s.top x.name) s.modules top named)
leads_within s top n named (Leads.further _ m _ leads holds) =
    let line = line_of_row s m holds.row (Some (ModuleBody n)) holds.is_row holds.one in
    module_of_body s n (type_there s line.i.kind (ModuleBody n) line.is_type)

-- the sizes stay those of what is done, with one more
pub sized_more : (s : Sources) (own : Own) (most : ℕ) (sizes done : List ℕ) (n total : ℕ) → AreSized s own most sizes done → n < length sizes
    → (c : ℕ) × HasUnder s own (ModuleBody n) c × (total ≡ min most c) → AreSized s own most (set sizes n total) (done ++ n ∷ [])
sized_more s own most sizes done n total sized within new k there =
    elim (same_or_not k n) [
      | inl same ↦ subst (IsSized s own most (set sizes n total)) (sym same) (record { count = new.0; has = new.1; size = get_or-set_same sizes n total 0 within ∙ new.2 })
      | inr other ↦ older other (IsIn-append_cases k done (n ∷ []) there)
    ]
  where
    older : k ≢ n → IsIn k done ⊎ ((k ≡ n) ⊎ ⊥) → IsSized s own most (set sizes n total) k
    older other (inl old) =
        let is = sized k old in
        record { count = is.count; has = is.has; size = get_or-set_other sizes n k total 0 other ∙ is.size }
    older other (inr (inl same)) = absurd (other same)
    older other (inr (inr never)) = absurd never
