-- Recursion is a cycle of the graph of modules below the top, and an order of the modules excludes it.
use Rattle.std.proofs.Common.{◌≡◌, ℕ, zero, suc, ◌<◌, ◌≤◌, eqb, List, [], ◌∷◌, Option, None, Some, slice_get, take, refl, sym, ap, ◌∙◌, subst, arith}
use Rattle.std.proofs.lemmas.Bool.{eqb-true, eq-eqb}
use Rattle.std.proofs.lemmas.Option.{same_Some}
use Rattle.list_defs.specs.Members.{IsIn, place_of}
use Rattle.pw_defs.specs.declared.design.Body.{Body}
use Rattle.pw_defs.specs.declared.design.Body.TheVariants.{Module as ModuleBody}
use Rattle.design_defs.specs.DesignFaults.{Fault, FaultKind, IsAtOrAbove, IsFault, kind_number}
use Rattle.design_defs.specs.DesignFaults.IsAtOrAbove.{here, above}
use Rattle.design_defs.specs.Hierarchy.{Sources, Way, body_at, module_named}
use Rattle.list_defs.proofs.Few.{place_of_member}
use Rattle.design_defs.proofs.Lookups.{IsInsideBy, at_outer}
use Rattle.list_defs.proofs.Members.{IsIn-slice_get}
use Rattle.net_hierarchy.specs.Graph.{AreInstsApart, HasCycle, HasUnknown, Holds, IsOrder, types_of}
use Rattle.net_hierarchy.specs.Ordered.{HasFaultOf}
use Rattle.net_hierarchy.proofs.NamesApart.{place_at, place_upto}
use Rattle.net_hierarchy.proofs.Ways.{holds_by, line_of_row, row_of_line, top_at, way_down}

pub recursion_of_cycle : (s : Sources) → AreInstsApart s → (top : ℕ) → module_named s s.top ≡ Some top → HasCycle (types_of s) top → HasFaultOf s FaultKind.recursion
recursion_of_cycle s apart top named cycle =
    let upper = way_down s apart top cycle.upper cycle.reached [] (top_at s top named) in
    let lower = way_down s apart cycle.upper cycle.lower cycle.downward upper.lower upper.body in
    let line = line_of_row s cycle.lower cycle.back.row (Some (ModuleBody cycle.upper)) cycle.back.is_row cycle.back.one in
    record {
      f = _;
      is = IsFault.recursion lower.lower cycle.lower cycle.upper line.m line.i (record { body = lower.body; is_module = line.is_module }) line.one line.is_type
          (lower.inside cycle.upper (here upper.lower upper.body));
      same = refl;
    }

pub unknown_of_order : (s : Sources) → AreInstsApart s → (top : ℕ) → module_named s s.top ≡ Some top → (order : List ℕ) → IsOrder (types_of s) top order
    → HasUnknown (types_of s) order → HasFaultOf s FaultKind.unknown_type
unknown_of_order s apart top named order is has =
    let there = way_down s apart top has.n (is.reached has.n has.in_order) [] (top_at s top named) in
    let line = line_of_row s has.n has.row None has.is_row has.unknown in
    record {
      f = _;
      is = IsFault.unknown_type there.lower has.n line.m line.i (record { body = there.body; is_module = line.is_module }) line.one line.is_type;
      same = refl;
    }

pub get_take : {X : Type 0} (xs : List X) (n q : ℕ) (x : X) → slice_get (take n xs) q ≡ Some x → (slice_get xs q ≡ Some x) × (q < n)
get_take [] zero q x e = cc
get_take [] (suc n) q x e = cc
get_take (y ∷ ys) zero q x e = cc
get_take (y ∷ ys) (suc n) zero x e = (e, omega arith)
get_take (y ∷ ys) (suc n) (suc q) x e = let rest = get_take ys n q x e in (rest.0, omega (arith, rest.1))

-- where a number stands first
abbrev rank : List ℕ → ℕ → Option ℕ
rank order n = place_of (eqb n) order

rank_there : (order : List ℕ) (n : ℕ) → IsIn n order → (p : ℕ) × (rank order n ≡ Some p)
rank_there order n there =
    let at = place_of_member n order there in
    let found = place_upto (eqb n) order at.0 n at.1 (eq-eqb n n refl) in
    (found.0, found.1)

module _ (s : Sources) (top : ℕ) (named : module_named s s.top ≡ Some top) (order : List ℕ) (is : IsOrder (types_of s) top order) where
  rank_below : (n k p : ℕ) → rank order n ≡ Some p → Holds (types_of s) n k → (q : ℕ) × (rank order k ≡ Some q) × (q < p)
  rank_below n k p ranked holds =
      let at = place_at (eqb n) order p ranked in
      let there : slice_get order p ≡ Some n = at.1 ∙ ap Some (sym (eqb-true n at.0 at.2)) in
      let before = place_of_member k (take p order) (is.behind p n k there holds) in
      let place = get_take order p before.0 k before.1 in
      let found = place_upto (eqb k) order before.0 k place.0 (eq-eqb k k refl) in
      (found.0, found.1, omega (arith, place.1, found.2))

  -- where the module at a way stands first: before those that it is inside
  record IsRanked (way : Way) (n : ℕ) : Type 0 where
    pub place : ℕ
    pub ranked : rank order n ≡ Some place
    pub before : (j : ℕ) → IsAtOrAbove s j way → (q : ℕ) × (rank order j ≡ Some q) × (place ≤ q)

  same_module : (n k : ℕ) → Some (ModuleBody n) ≡ Some (ModuleBody k) → n ≡ k
  same_module n k e = cc

  ranked_inside : (name : List ℕ) (outer : Way) (number n : ℕ) → body_at s (name ∷ outer) ≡ Some (ModuleBody n) → Holds (types_of s) number n → IsRanked outer number
      → IsRanked (name ∷ outer) n
  ranked_inside name outer number n body holds up = record { place = at.0; ranked = at.1; before = before }
    where
      at : (q : ℕ) × (rank order n ≡ Some q) × (q < up.place)
      at = rank_below number n up.place up.ranked holds

      before : (j : ℕ) → IsAtOrAbove s j (name ∷ outer) → (q : ℕ) × (rank order j ≡ Some q) × (at.0 ≤ q)
      before j (here _ e) = (at.0, subst (λ k. rank order k ≡ Some at.0) (same_module n j (sym body ∙ e)) at.1, omega arith)
      before j (above _ _ higher) = let q = up.before j higher in (q.0, q.1, omega (arith, at.2, q.2))

  ranked_at : (way : Way) (n : ℕ) → body_at s way ≡ Some (ModuleBody n) → IsRanked way n
  ranked_at [] n body = record { place = at.0; ranked = at.1; before = before }
    where
      same : top ≡ n
      same = same_module top n (sym (top_at s top named) ∙ body)

      at : (p : ℕ) × (rank order n ≡ Some p)
      at = rank_there order n (subst (λ k. IsIn k order) same is.with_top)

      before : (j : ℕ) → IsAtOrAbove s j [] → (q : ℕ) × (rank order j ≡ Some q) × (at.0 ≤ q)
      before j (here _ e) = (at.0, subst (λ k. rank order k ≡ Some at.0) (same_module n j (sym body ∙ e)) at.1, omega arith)
  ranked_at (name ∷ outer) n body = of_outer (at_outer s name outer (ModuleBody n) body) (ranked_at outer)
    where
      of_outer : (b : Body) × (body_at s outer ≡ Some b) × IsInsideBy s name b (ModuleBody n) → ((k : ℕ) → body_at s outer ≡ Some (ModuleBody k) → IsRanked outer k)
          → IsRanked (name ∷ outer) n
      of_outer found rest =
          let inside = found.2 in
          let holds = holds_by s inside.number n inside.of_module inside.inst inside.is_module inside.is_line inside.is_type in
          ranked_inside name outer inside.number n body holds (rest inside.number (found.1 ∙ ap Some inside.is_outer))

  -- a recursion would stand before itself
  pub no_recursion : (f : Fault) → IsFault s f → kind_number f.kind ≡ 2 → ⊥
  no_recursion _ (IsFault.recursion way n of_inst m i of_module one type at_or_above) e =
      let ranked = ranked_at way n of_module.body in
      let lower = rank_below n of_inst ranked.place ranked.ranked (holds_by s n of_inst m i of_module.is_module one type) in
      let upper = ranked.before of_inst at_or_above in
      let same : lower.0 ≡ upper.0 = same_Some lower.0 upper.0 (sym lower.1 ∙ upper.1) in
      let below : lower.0 < ranked.place = lower.2 in
      let le : ranked.place ≤ upper.0 = upper.2 in
      omega arith
  no_recursion f other e = cc

  -- an unknown type would stand in the row of a module in the order
  pub no_unknown : (HasUnknown (types_of s) order → ⊥) → (f : Fault) → IsFault s f → kind_number f.kind ≡ 3 → ⊥
  no_unknown none _ (IsFault.no_top missing) e = cc
  no_unknown none _ (IsFault.unknown_type way n m i of_module one type) e =
      let ranked = ranked_at way n of_module.body in
      let at = place_at (eqb n) order ranked.place ranked.ranked in
      let row = row_of_line s n m i of_module.is_module one in
      let there : IsIn at.0 order = IsIn-slice_get order ranked.place at.0 at.1 in
      none (record {
        n = n;
        row = row.0;
        in_order = subst (λ k. IsIn k order) (sym (eqb-true n at.0 at.2)) there;
        is_row = row.1;
        unknown = subst (λ t. IsIn t row.0) type row.2;
      })
  no_unknown none f other e = cc
