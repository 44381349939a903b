-- The least way below a module, from those below its instances.
use Rattle.std.proofs.Common.{◌≡◌, ◌≢◌, ℕ, ◌⊎◌, List, [], ◌∷◌, ◌++◌, Option, None, Some, option_and_then, inl, inr, refl, sym, ap, ◌∙◌, subst}
use Rattle.std.specs.declared.cmp.Ordering.{Ordering}
use Rattle.std.specs.declared.cmp.Ordering.TheVariants.{Less, Equal, Greater}
use Rattle.std.proofs.lemmas.Option.{same_Some}
use Rattle.list_defs.specs.Members.{IsIn}
use Rattle.list_defs.proofs.Members.{IsIn-append_cases, IsIn-append_left, IsIn-append_right}
use Rattle.pw_defs.specs.declared.design.Body.{Body}
use Rattle.pw_defs.specs.declared.design.Body.TheVariants.{Module as ModuleBody}
use Rattle.pw_defs.specs.declared.netlist.Inst.{Inst}
use Rattle.pw_defs.specs.declared.netlist.Module.{Module}
use Rattle.design_defs.specs.Hierarchy.{Sources, Way, body_inside, module_at, type_of, way_cmp, AreNamedInsts}
use Rattle.std.specs.Cmp.{IsTotalOrder}
use Rattle.std.specs.Ordering.{ordering_reverse}
use Rattle.design_defs.proofs.BitOrders.{way_total}
use Rattle.design_defs.proofs.Lookups.{IsInsideBy, inside_by}
use Rattle.net_hierarchy.specs.Graph.{AreInstsApart}
use Rattle.net_hierarchy.specs.Below.{body_below}
use Rattle.net_hierarchy.proofs.Below.{below_first, snoc_view}
use Rattle.net_hierarchy.proofs.Ways.{inside_of_line}
use Rattle.net_least.proofs.Fronts.{same_first}
use Rattle.net_least.specs.Links.{AreNamed}
use Rattle.net_least.specs.Nearest.{AreNone, HasMark, IsLeastWay, IsWayBy, IsWayTo}
use Rattle.net_least.specs.declared.own.OwnFault.{OwnFault}

module _ (s : Sources) (own : List (Option OwnFault)) (apart : AreInstsApart s) (n : ℕ) (m : Module) (is : module_at s n ≡ Some m) where
  -- A way below a module leads through one of its instances, or ends at it.
  pub at_of_by : (way : Way) (number : ℕ) → IsWayBy s own m.insts way number → IsWayTo s own n way number
  at_of_by way number by = record { there = there; mark = by.at.mark }
    where
      inside : body_inside s by.i.name (ModuleBody n) ≡ Some (ModuleBody by.k)
      inside = inside_of_line s apart n (Some (ModuleBody by.k)) (record { m = m; i = by.i; is_module = is; one = by.one; is_type = by.is_type })

      there : body_below s (ModuleBody n) way ≡ Some (ModuleBody number)
      there =
          ap (body_below s (ModuleBody n)) by.is_way ∙ below_first s (ModuleBody n) by.inner by.i.name ∙ ap (option_and_then (λ b. body_below s b by.inner)) inside ∙ by.at.there

  -- what holds nothing isn't a module
  leaf : (b : Body) (way : Way) (number : ℕ) → body_below s b way ≡ Some (ModuleBody number) → ((k : ℕ) → b ≢ ModuleBody k) → ⊥
  leaf b way number there other =
      elim (snoc_view way) [
        | inl none ↦ other number (same_Some b (ModuleBody number) (ap (body_below s b) (sym none) ∙ there))
        | inr more ↦ further more.0 more.1 more.2 (body_inside s more.1 b) refl
      ]
    where
      further : (front : Way) (name : List ℕ) → way ≡ front ++ name ∷ [] → (o : Option Body) → body_inside s name b ≡ o → ⊥
      further front name is_way None e =
          let none : body_below s b way ≡ None = ap (body_below s b) is_way ∙ below_first s b front name ∙ ap (option_and_then (λ c. body_below s c front)) e in
          let some : body_below s b way ≡ Some (ModuleBody number) = there in
          cc
      further front name is_way (Some c) e = let by = inside_by s name b c e in other by.number by.is_outer

  pub by_of_at : (way : Way) (number : ℕ) → IsWayTo s own n way number → (HasMark own n → ⊥) → IsWayBy s own m.insts way number
  by_of_at way number at none =
      elim (snoc_view way) [
        | inl empty ↦
            (let same : Some (ModuleBody n) ≡ Some (ModuleBody number) = ap (body_below s (ModuleBody n)) (sym empty) ∙ at.there in
            let number_same : n ≡ number = cc in
            absurd (none (subst (HasMark own) (sym number_same) at.mark)))
        | inr more ↦ further more.0 more.1 more.2 (body_inside s more.1 (ModuleBody n)) refl
      ]
    where
      further : (front : Way) (name : List ℕ) → way ≡ front ++ name ∷ [] → (o : Option Body) → body_inside s name (ModuleBody n) ≡ o → IsWayBy s own m.insts way number
      further front name is_way None e =
          let nothing : body_below s (ModuleBody n) way ≡ None = ap (body_below s (ModuleBody n)) is_way ∙ below_first s (ModuleBody n) front name ∙ ap (option_and_then (λ b. body_below s b front)) e in
          let something : body_below s (ModuleBody n) way ≡ Some (ModuleBody number) = at.there in
          cc
      further front name is_way (Some b) e = of_body b refl
        where
          there : body_below s b front ≡ Some (ModuleBody number)
          there = sym (ap (body_below s (ModuleBody n)) is_way ∙ below_first s (ModuleBody n) front name ∙ ap (option_and_then (λ c. body_below s c front)) e) ∙ at.there

          by : IsInsideBy s name (ModuleBody n) b
          by = inside_by s name (ModuleBody n) b e

          one : IsIn by.inst m.insts
          one =
              let number_is : n ≡ by.number = let h = by.is_outer in cc in
              let module_same : by.of_module ≡ m = same_Some by.of_module m (sym by.is_module ∙ ap (module_at s) (sym number_is) ∙ is) in
              subst (λ (y : Module). IsIn by.inst y.insts) module_same by.is_line

          of_body : (c : Body) → b ≡ c → IsWayBy s own m.insts way number
          of_body (ModuleBody k) e =
              record {
                i = by.inst;
                k = k;
                inner = front;
                one = one;
                is_type = by.is_type ∙ ap Some e;
                is_way = is_way ∙ ap (λ x. front ++ x ∷ []) by.is_name;
                at = record { there = subst (λ c. body_below s c front ≡ Some (ModuleBody number)) e there; mark = at.mark };
              }
          of_body other e = absurd (leaf b front number there (λ k same. (let h : other ≡ ModuleBody k = sym e ∙ same in cc)))

-- THE NEAREST of two. An instance more of a module.
pub same_name_at : (s : Sources) (i : Inst) (k j : ℕ) → type_of s i.kind ≡ Some (ModuleBody k) → type_of s i.kind ≡ Some (ModuleBody j) → k ≡ j
same_name_at s i k j e f = let same : Some (ModuleBody k) ≡ Some (ModuleBody j) = sym e ∙ f in cc

module _ (s : Sources) (own : List (Option OwnFault)) (insts : List Inst) (i : Inst) where
  pub by_more : (way : Way) (number : ℕ) → IsWayBy s own insts way number → IsWayBy s own (insts ++ i ∷ []) way number
  by_more way number by =
      record { i = by.i; k = by.k; inner = by.inner; one = IsIn-append_left by.i insts (i ∷ []) by.one; is_type = by.is_type; is_way = by.is_way; at = by.at }

  pub by_last : (k : ℕ) (inner : Way) (number : ℕ) → type_of s i.kind ≡ Some (ModuleBody k) → IsWayTo s own k inner number
      → IsWayBy s own (insts ++ i ∷ []) (inner ++ i.name ∷ []) number
  by_last k inner number type at =
      record { i = i; k = k; inner = inner; one = IsIn-append_right i insts (i ∷ []) (inl refl); is_type = type; is_way = refl; at = at }

  -- a way through one of the instances is one of those before, or through the last
  pub by_cases : (way : Way) (number : ℕ) → IsWayBy s own (insts ++ i ∷ []) way number
      → IsWayBy s own insts way number ⊎ ((k : ℕ) × (inner : Way) × (type_of s i.kind ≡ Some (ModuleBody k)) × (way ≡ inner ++ i.name ∷ []) × IsWayTo s own k inner number)
  by_cases way number by =
      elim (IsIn-append_cases by.i insts (i ∷ []) by.one) [
        | inl old ↦ inl (record { i = by.i; k = by.k; inner = by.inner; one = old; is_type = by.is_type; is_way = by.is_way; at = by.at })
        | inr new ↦
            elim new [
              | inl same ↦
                  inr (
                    by.k,
                    by.inner,
                    ap (λ (x : Inst). type_of s x.kind) (sym same) ∙ by.is_type,
                    by.is_way ∙ ap (λ (x : Inst). by.inner ++ x.name ∷ []) same,
                    by.at,
                  )
              | inr never ↦ absurd never
            ]
      ]

  -- where nothing is below the last, no way more
  pub none_more : ((k : ℕ) → type_of s i.kind ≡ Some (ModuleBody k) → AreNone (IsWayTo s own k)) → AreNone (IsWayBy s own insts) → AreNone (IsWayBy s own (insts ++ i ∷ []))
  none_more none old way number by =
      elim (by_cases way number by) [ inl before ↦ old way number before | inr last ↦ none last.0 last.2 last.1 number last.4 ]

  pub least_more : ((k : ℕ) → type_of s i.kind ≡ Some (ModuleBody k) → AreNone (IsWayTo s own k)) → (way : Way) (number : ℕ)
      → IsLeastWay (IsWayBy s own insts) way number → IsLeastWay (IsWayBy s own (insts ++ i ∷ [])) way number
  least_more none way number is = record { holds = by_more way number is.holds; least = least }
    where
      least : (other : Way) (k : ℕ) → IsWayBy s own (insts ++ i ∷ []) other k → way_cmp other way ≢ Less
      least other k by =
          elim (by_cases other k by) [ inl before ↦ is.least other k before | inr last ↦ absurd (none last.0 last.2 last.1 k last.4) ]

-- what doesn't come before something that doesn't come before a third, doesn't come before this
pub not_before : {X : Type 0} (cmp : X → X → Ordering) → IsTotalOrder cmp → (x y z : X) → cmp x y ≢ Less → cmp y z ≢ Less → cmp x z ≢ Less
not_before cmp total x y z p q less = by (cmp y z) refl
  where
    by : (o : Ordering) → cmp y z ≡ o → ⊥
    by Less e = q e
    by Equal e = p (total.antisymm x y ∙ ap ordering_reverse (total.congr y z x e ∙ total.antisymm z x ∙ ap ordering_reverse less))
    by Greater e = p (total.trans x z y less (total.antisymm z y ∙ ap ordering_reverse e))

-- the names of a way that leads somewhere aren't empty
pub named_below : (s : Sources) → AreNamedInsts s → (b : Body) (way : Way) (e : Body) → body_below s b way ≡ Some e → AreNamed way
named_below s named b [] e there = tt
named_below s named b (name ∷ outer) e there = by (body_below s b outer) refl (named_below s named b outer)
  where
    by : (o : Option Body) → body_below s b outer ≡ o → ((c : Body) → body_below s b outer ≡ Some c → AreNamed outer) → AreNamed (name ∷ outer)
    by None is rest = let never : None ≡ Some e = sym (ap (option_and_then (body_inside s name)) is) ∙ there in cc
    by (Some c) is rest =
        let inside = inside_by s name c e (sym (ap (option_and_then (body_inside s name)) is) ∙ there) in (
          (λ empty. named inside.number inside.of_module inside.inst inside.is_module inside.is_line (sym inside.is_name ∙ empty)),
          rest c is,
        )

module _ (s : Sources) (own : List (Option OwnFault)) (names : AreNamedInsts s) (insts : List Inst) (i : Inst) (k : ℕ) (some : i.name ≢ []) (type : type_of s i.kind ≡ Some (ModuleBody k))
    (inner : Way) (number : ℕ) (is : IsLeastWay (IsWayTo s own k) inner number) where
  -- of the ways through the last instance, the least goes on by the least below its type
  last_least : (j : ℕ) (other : Way) (n : ℕ) → type_of s i.kind ≡ Some (ModuleBody j) → IsWayTo s own j other n → way_cmp (other ++ i.name ∷ []) (inner ++ i.name ∷ []) ≢ Less
  last_least j other n type_j at less =
      let here : IsWayTo s own k other n = subst (λ x. IsWayTo s own x other n) (same_name_at s i j k type_j type) at in
      let named_inner = named_below s names (ModuleBody k) inner (ModuleBody number) is.holds.there in
      let named_other = named_below s names (ModuleBody k) other (ModuleBody n) here.there in
      is.least other n here (sym (same_first other inner i.name some named_other named_inner) ∙ less)

  holds_last : IsWayBy s own (insts ++ i ∷ []) (inner ++ i.name ∷ []) number
  holds_last = by_last s own insts i k inner number type is.holds

  pub first_found : AreNone (IsWayBy s own insts) → IsLeastWay (IsWayBy s own (insts ++ i ∷ [])) (inner ++ i.name ∷ []) number
  first_found none = record { holds = holds_last; least = least }
    where
      least : (other : Way) (n : ℕ) → IsWayBy s own (insts ++ i ∷ []) other n → way_cmp other (inner ++ i.name ∷ []) ≢ Less
      least other n by =
          elim (by_cases s own insts i other n by) [
            | inl before ↦ absurd (none other n before)
            | inr last ↦ subst (λ w. way_cmp w (inner ++ i.name ∷ []) ≢ Less) (sym last.3) (last_least last.0 last.1 n last.2 last.4)
          ]

  pub nearer_found : (way : Way) (end : ℕ) → IsLeastWay (IsWayBy s own insts) way end → way_cmp (inner ++ i.name ∷ []) way ≡ Less
      → IsLeastWay (IsWayBy s own (insts ++ i ∷ [])) (inner ++ i.name ∷ []) number
  nearer_found way end old less = record { holds = holds_last; least = least }
    where
      least : (other : Way) (n : ℕ) → IsWayBy s own (insts ++ i ∷ []) other n → way_cmp other (inner ++ i.name ∷ []) ≢ Less
      least other n by =
          elim (by_cases s own insts i other n by) [
            | inl before ↦ (λ earlier. old.least other n before (way_total.trans other (inner ++ i.name ∷ []) way earlier less))
            | inr last ↦ subst (λ w. way_cmp w (inner ++ i.name ∷ []) ≢ Less) (sym last.3) (last_least last.0 last.1 n last.2 last.4)
          ]

  pub still_found : (way : Way) (end : ℕ) → IsLeastWay (IsWayBy s own insts) way end → way_cmp (inner ++ i.name ∷ []) way ≢ Less
      → IsLeastWay (IsWayBy s own (insts ++ i ∷ [])) way end
  still_found way end old later = record { holds = by_more s own insts i way end old.holds; least = least }
    where
      least : (other : Way) (n : ℕ) → IsWayBy s own (insts ++ i ∷ []) other n → way_cmp other way ≢ Less
      least other n by =
          elim (by_cases s own insts i other n by) [
            | inl before ↦ old.least other n before
            | inr last ↦
                not_before way_cmp way_total other (inner ++ i.name ∷ []) way
                (subst (λ w. way_cmp w (inner ++ i.name ∷ []) ≢ Less) (sym last.3) (last_least last.0 last.1 n last.2 last.4)) later
          ]
