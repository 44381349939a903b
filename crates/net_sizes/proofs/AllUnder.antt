-- All things below a module are its own and those of its instances.
use Rattle.std.proofs.Common.{◌≡◌, ℕ, true, not, ◌⊎◌, List, [], ◌∷◌, ◌++◌, Option, None, Some, option_and_then, map, inl, inr, refl, sym, ap, ◌∙◌, subst}
use Rattle.std.specs.List.{flat_map, list_any}
use Rattle.std.proofs.lemmas.Bool.{false≢true, and_parts}
use Rattle.std.proofs.lemmas.Option.{same_Some}
use Rattle.list_defs.specs.Members.{IsIn, all_differ, same_name}
use Rattle.list_defs.proofs.Members.{IsIn-append_cases, IsIn-append_left, IsIn-append_right, IsIn-flat_map, IsIn-flat_map_from, IsIn-map, IsIn-map_from}
use Rattle.list_defs.proofs.NameLemmas.{list_any-IsIn}
use Rattle.pw_defs.specs.declared.design.Body.{Body}
use Rattle.pw_defs.specs.declared.design.Body.TheVariants.{Module as ModuleBody}
use Rattle.pw_defs.specs.declared.netlist.Inst.{Inst}
use Rattle.pw_defs.specs.declared.netlist.Module.{Module}
use Rattle.design_defs.specs.Bits.{Spot}
use Rattle.design_defs.specs.Hierarchy.{Sources, Way, body_inside, module_at, type_of}
use Rattle.design_defs.proofs.Lookups.{inside_by}
use Rattle.net_hierarchy.specs.Graph.{AreInstsApart}
use Rattle.net_sizes.specs.Under.{AllDiffer, AreUnder, IsUnder, Own}
use Rattle.net_hierarchy.specs.Below.{body_below}
use Rattle.net_hierarchy.proofs.Below.{below_first, snoc_view}
use Rattle.net_hierarchy.proofs.Ways.{inside_of_line}

-- LISTS in which nothing comes twice.
pub AllDiffer-append : {X : Type 0} (xs ys : List X) → AllDiffer xs → AllDiffer ys → ((x : X) → IsIn x xs → IsIn x ys → ⊥) → AllDiffer (xs ++ ys)
AllDiffer-append [] ys p q apart = q
AllDiffer-append (x ∷ xs) ys p q apart = (
  λ there. elim (IsIn-append_cases x xs ys there) [ inl old ↦ p.0 old | inr new ↦ apart x (inl refl) new ],
  AllDiffer-append xs ys p.1 q (λ y in_xs in_ys. apart y (inr in_xs) in_ys),
)

pub AllDiffer-map : {X Y : Type 0} (f : X → Y) → ((x y : X) → f x ≡ f y → x ≡ y) → (xs : List X) → AllDiffer xs → AllDiffer (map f xs)
AllDiffer-map f one [] p = tt
AllDiffer-map f one (x ∷ xs) p = (new, AllDiffer-map f one xs p.1)
  where
    new : IsIn (f x) (map f xs) → ⊥
    new there = let found = IsIn-map_from f (f x) xs there in p.0 (subst (λ z. IsIn z xs) (sym (one x found.0 found.2)) found.1)

-- lists of which nothing is in two, one for each of a list
pub AllDiffer-flat_map : {X Y : Type 0} (f : X → List Y) (xs : List X) → ((x : X) → IsIn x xs → AllDiffer (f x))
    → AllDiffer xs → ((x y : X) (z : Y) → IsIn x xs → IsIn y xs → IsIn z (f x) → IsIn z (f y) → x ≡ y) → AllDiffer (flat_map f xs)
AllDiffer-flat_map f [] each p one = tt
AllDiffer-flat_map f (x ∷ xs) each p one =
    AllDiffer-append (f x) (flat_map f xs) (each x (inl refl)) (AllDiffer-flat_map f xs (λ y there. each y (inr there)) p.1 (λ y z w a b. one y z w (inr a) (inr b))) apart
  where
    apart : (z : _) → IsIn z (f x) → IsIn z (flat_map f xs) → ⊥
    apart z here later =
        let found = IsIn-flat_map_from f xs z later in
        p.0 (subst (λ y. IsIn y xs) (sym (one x found.0 z (inl refl) (inr found.1) here found.2)) found.1)

-- instances of which no two have one name are apart
insts_differ : (insts : List Inst) → all_differ same_name (map (λ (i : Inst). i.name) insts) ≡ true → AllDiffer insts
insts_differ [] e = tt
insts_differ (i ∷ insts) e =
    let both = and_parts (not (list_any (same_name i.name) (map (λ (x : Inst). x.name) insts))) (all_differ same_name (map (λ (x : Inst). x.name) insts)) e in (
      λ there. let again = list_any-IsIn i.name (map (λ (x : Inst). x.name) insts) (IsIn-map (λ (x : Inst). x.name) i insts there) in
          false≢true (sym (ap not again) ∙ both.0),
      insts_differ insts both.1,
    )

one_of_name : (insts : List Inst) → all_differ same_name (map (λ (i : Inst). i.name) insts) ≡ true → (i j : Inst) → IsIn i insts → IsIn j insts → i.name ≡ j.name → i ≡ j
one_of_name [] e i j a b same = absurd a
one_of_name (x ∷ insts) e i j a b same = by a b (one_of_name insts both.1 i j)
  where
    both : (not (list_any (same_name x.name) (map (λ (y : Inst). y.name) insts)) ≡ true) × (all_differ same_name (map (λ (y : Inst). y.name) insts) ≡ true)
    both = and_parts (not (list_any (same_name x.name) (map (λ (y : Inst). y.name) insts))) (all_differ same_name (map (λ (y : Inst). y.name) insts)) e

    never : (k l : Inst) → k ≡ x → IsIn l insts → k.name ≡ l.name → ⊥
    never k l same_inst there name =
        let named : IsIn x.name (map (λ (y : Inst). y.name) insts) =
        subst (λ n. IsIn n (map (λ (y : Inst). y.name) insts)) (sym name ∙ ap (λ (y : Inst). y.name) same_inst) (IsIn-map (λ (y : Inst). y.name) l insts there) in
        false≢true (sym (ap not (list_any-IsIn x.name (map (λ (y : Inst). y.name) insts) named)) ∙ both.0)

    by : (i ≡ x) ⊎ IsIn i insts → (j ≡ x) ⊎ IsIn j insts → (IsIn i insts → IsIn j insts → i.name ≡ j.name → i ≡ j) → i ≡ j
    by (inl p) (inl q) rest = p ∙ sym q
    by (inl p) (inr q) rest = absurd (never i j p q same)
    by (inr p) (inl q) rest = absurd (never j i q p (sym same))
    by (inr p) (inr q) rest = rest p q same

-- WAYS by the instance that they go through first.
snoc_parts : {X : Type 0} (xs ys : List X) (x y : X) → xs ++ x ∷ [] ≡ ys ++ y ∷ [] → (xs ≡ ys) × (x ≡ y)
snoc_parts [] [] x y e = (refl, cc)
snoc_parts [] (z ∷ []) x y e = cc
snoc_parts [] (z ∷ (w ∷ ys)) x y e = cc
snoc_parts (z ∷ []) [] x y e = cc
snoc_parts (z ∷ (w ∷ xs)) [] x y e = cc
snoc_parts (z ∷ xs) (w ∷ ys) x y e =
    let heads : z ≡ w = cc in
    let tails : xs ++ x ∷ [] ≡ ys ++ y ∷ [] = cc in
    let rest = snoc_parts xs ys x y tails in
    (λ i. heads i ∷ rest.0 i, rest.1)

-- the thing at the body itself, and a thing one instance further down
abbrev pub here_at : List ℕ × ℕ → Spot
here_at o = record { way = []; net = o.0; place = o.1 }

abbrev pub inside_at : List ℕ → Spot → Spot
inside_at name x = record { way = x.way ++ name ∷ []; net = x.net; place = x.place }

pub spot_of_parts : (x y : Spot) → x.way ≡ y.way → x.net ≡ y.net → x.place ≡ y.place → x ≡ y
spot_of_parts x y p q r = λ i. record { way = p i; net = q i; place = r i }

pub one_here : (x y : List ℕ × ℕ) → here_at x ≡ here_at y → x ≡ y
one_here x y e = λ i. ((e i).net, (e i).place)

-- the things of a module, from those of the types of its instances
abbrev pub under_module : Sources → Own → ℕ → (Option Body → List Spot) → List Inst → List Spot
under_module s own n lists insts = map here_at (own (ModuleBody n)) ++ flat_map (λ (i : Inst). map (inside_at i.name) (lists (type_of s i.kind))) insts

-- the lists are those of the types of the instances
pub record AreLists (s : Sources) (own : Own) (lists : Option Body → List Spot) (insts : List Inst) : Type 0 where
  pub none : lists None ≡ []
  pub some : (i : Inst) (b : Body) → IsIn i insts → type_of s i.kind ≡ Some b → AreUnder s own b (lists (Some b))

module _ (s : Sources) (own : Own) (differ : (b : Body) → AllDiffer (own b)) (insts_apart : AreInstsApart s)
    (n : ℕ) (m : Module) (is : module_at s n ≡ Some m) (lists : Option Body → List Spot) (are : AreLists s own lists m.insts) where
  -- a thing of an instance comes from the type of that
  from_inst : (i : Inst) (x : Spot) → IsIn i m.insts → IsIn x (lists (type_of s i.kind)) → (b : Body) × (type_of s i.kind ≡ Some b) × IsIn x (lists (Some b)) × IsUnder s own b x
  from_inst i x one there = by (type_of s i.kind) refl
    where
      by : (o : Option Body) → type_of s i.kind ≡ o → (b : Body) × (type_of s i.kind ≡ Some b) × IsIn x (lists (Some b)) × IsUnder s own b x
      by None e = absurd (subst (IsIn x) (ap lists e ∙ are.none) there)
      by (Some b) e =
          let here : IsIn x (lists (Some b)) = subst (λ o. IsIn x (lists o)) e there in
          (b, e, here, (are.some i b one e).each x here)

  inside_inst : (i : Inst) (b : Body) → IsIn i m.insts → type_of s i.kind ≡ Some b → body_inside s i.name (ModuleBody n) ≡ Some b
  inside_inst i b one type = inside_of_line s insts_apart n (Some b) (record { m = m; i = i; is_module = is; one = one; is_type = type })

  each : (x : Spot) → IsIn x (under_module s own n lists m.insts) → IsUnder s own (ModuleBody n) x
  each x there =
      elim (IsIn-append_cases x (map here_at (own (ModuleBody n))) _ there) [
        | inl here ↦
            (let found = IsIn-map_from here_at x (own (ModuleBody n)) here in
            subst (IsUnder s own (ModuleBody n)) (sym found.2) (record { b = ModuleBody n; there = refl; one = found.1 }))
        | inr later ↦
            (let inst = IsIn-flat_map_from (λ (i : Inst). map (inside_at i.name) (lists (type_of s i.kind))) m.insts x later in
            let found = IsIn-map_from (inside_at inst.0.name) x (lists (type_of s inst.0.kind)) inst.2 in
            let from = from_inst inst.0 found.0 inst.1 found.1 in
            subst (IsUnder s own (ModuleBody n)) (sym found.2) (record {
              b = from.3.b;
              there = below_first s (ModuleBody n) found.0.way inst.0.name ∙ ap (option_and_then (λ b. body_below s b found.0.way)) (inside_inst inst.0 from.0 inst.1 from.1) ∙ from.3.there;
              one = from.3.one;
            }))
      ]

  all : (x : Spot) → IsUnder s own (ModuleBody n) x → IsIn x (under_module s own n lists m.insts)
  all x under =
      elim (snoc_view x.way) [
        | inl none ↦
            (let same : ModuleBody n ≡ under.b = same_Some (ModuleBody n) under.b (ap (body_below s (ModuleBody n)) (sym none) ∙ under.there) in
            let one : IsIn (x.net, x.place) (own (ModuleBody n)) = subst (λ b. IsIn (x.net, x.place) (own b)) (sym same) under.one in
            let here : x ≡ here_at (x.net, x.place) = spot_of_parts x (here_at (x.net, x.place)) none refl refl in
            subst (λ y. IsIn y (under_module s own n lists m.insts)) (sym here)
            (IsIn-append_left (here_at (x.net, x.place)) (map here_at (own (ModuleBody n))) _ (IsIn-map here_at (x.net, x.place) (own (ModuleBody n)) one)))
        | inr more ↦ further more.0 more.1 more.2 (body_inside s more.1 (ModuleBody n)) refl
      ]
    where
      further : (front : Way) (name : List ℕ) → x.way ≡ front ++ name ∷ [] → (o : Option Body) → body_inside s name (ModuleBody n) ≡ o → IsIn x (under_module s own n lists m.insts)
      further front name way None e =
          let none : body_below s (ModuleBody n) x.way ≡ None = ap (body_below s (ModuleBody n)) way ∙ below_first s (ModuleBody n) front name ∙ ap (option_and_then (λ b. body_below s b front)) e in
          let some : body_below s (ModuleBody n) x.way ≡ Some under.b = under.there in
          cc
      further front name way (Some b) e =
          let by = inside_by s name (ModuleBody n) b e in
          let number : n ≡ by.number = let h = by.is_outer in cc in
          let module_same : by.of_module ≡ m = same_Some by.of_module m (sym by.is_module ∙ ap (module_at s) (sym number) ∙ is) in
          let one : IsIn by.inst m.insts = subst (λ (y : Module). IsIn by.inst y.insts) module_same by.is_line in
          let y : Spot = record { way = front; net = x.net; place = x.place } in
          let there : body_below s b front ≡ Some under.b = sym (ap (body_below s (ModuleBody n)) way ∙ below_first s (ModuleBody n) front name ∙ ap (option_and_then (λ c. body_below s c front)) e) ∙ under.there in
          let in_list : IsIn y (lists (Some b)) = (are.some by.inst b one by.is_type).all y (record { b = under.b; there = there; one = under.one }) in
          let in_type : IsIn y (lists (type_of s by.inst.kind)) = subst (λ o. IsIn y (lists o)) (sym by.is_type) in_list in
          let same : x ≡ inside_at by.inst.name y = spot_of_parts x (inside_at by.inst.name y) (way ∙ ap (λ k. front ++ k ∷ []) by.is_name) refl refl in
          subst (λ z. IsIn z (under_module s own n lists m.insts)) (sym same)
          (IsIn-append_right (inside_at by.inst.name y) (map here_at (own (ModuleBody n))) _
          (IsIn-flat_map (λ (i : Inst). map (inside_at i.name) (lists (type_of s i.kind))) by.inst m.insts (inside_at by.inst.name y) one
          (IsIn-map (inside_at by.inst.name) y (lists (type_of s by.inst.kind)) in_type)))

  one_inside : (name : List ℕ) (x y : Spot) → inside_at name x ≡ inside_at name y → x ≡ y
  one_inside name x y e =
      spot_of_parts x y (snoc_parts x.way y.way name name (ap (λ (z : Spot). z.way) e)).0 (ap (λ (z : Spot). z.net) e) (ap (λ (z : Spot). z.place) e)

  different : AllDiffer (under_module s own n lists m.insts)
  different =
      AllDiffer-append (map here_at (own (ModuleBody n))) _ (AllDiffer-map here_at one_here (own (ModuleBody n)) (differ (ModuleBody n)))
      (AllDiffer-flat_map (λ (i : Inst). map (inside_at i.name) (lists (type_of s i.kind))) m.insts
      (λ i one. AllDiffer-map (inside_at i.name) (one_inside i.name) (lists (type_of s i.kind)) (list_differs i one (type_of s i.kind) refl))
      (insts_differ m.insts (insts_apart n m is)) one_inst)
      apart
    where
      list_differs : (i : Inst) → IsIn i m.insts → (o : Option Body) → type_of s i.kind ≡ o → AllDiffer (lists o)
      list_differs i one None e = subst AllDiffer (sym are.none) tt
      list_differs i one (Some b) e = (are.some i b one e).different

      one_inst : (i j : Inst) (x : Spot) → IsIn i m.insts → IsIn j m.insts → IsIn x (map (inside_at i.name) (lists (type_of s i.kind)))
          → IsIn x (map (inside_at j.name) (lists (type_of s j.kind))) → i ≡ j
      one_inst i j x in_i in_j a b =
          let first = IsIn-map_from (inside_at i.name) x (lists (type_of s i.kind)) a in
          let second = IsIn-map_from (inside_at j.name) x (lists (type_of s j.kind)) b in
          let names = snoc_parts first.0.way second.0.way i.name j.name (ap (λ (z : Spot). z.way) (sym first.2 ∙ second.2)) in
          one_of_name m.insts (insts_apart n m is) i j in_i in_j names.1

      apart : (x : Spot) → IsIn x (map here_at (own (ModuleBody n))) → IsIn x (flat_map (λ (i : Inst). map (inside_at i.name) (lists (type_of s i.kind))) m.insts) → ⊥
      apart x here later =
          let found = IsIn-map_from here_at x (own (ModuleBody n)) here in
          let inst = IsIn-flat_map_from (λ (i : Inst). map (inside_at i.name) (lists (type_of s i.kind))) m.insts x later in
          let lower = IsIn-map_from (inside_at inst.0.name) x (lists (type_of s inst.0.kind)) inst.2 in
          let ways : [] ≡ lower.0.way ++ inst.0.name ∷ [] = ap (λ (z : Spot). z.way) (sym found.2 ∙ lower.2) in
          not_empty lower.0.way inst.0.name ways
        where
          not_empty : (way : Way) (name : List ℕ) → [] ≡ way ++ name ∷ [] → ⊥
          not_empty [] name e = cc
          not_empty (w ∷ way) name e = cc

  pub all_under : AreUnder s own (ModuleBody n) (under_module s own n lists m.insts)
  all_under = record { each = each; all = all; different = different }
