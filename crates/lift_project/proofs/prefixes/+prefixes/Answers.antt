use Rattle.std.proofs.Common.{◌≡◌, ◌<◌, ◌+◌, ℕ, Bool, List, ◌∷◌, length, get_or, subst, sym, ap, ◌∙◌, refl, arith}
use Rattle.std.proofs.lemmas.Bool.{iff_false}
use Rattle.diagram_defs.specs.Diagrams.{IsSet, IsNumberFor, AreKids}
use Rattle.diagram_defs.specs.Diagrams.IsKid.{empty}
use Rattle.diagram_defs.specs.Parts.{GrowsBy, IsPartOf}
use Rattle.diagram_defs.specs.Sets.{case_set}
use Rattle.diagram_defs.proofs.Meaning.{member-empty, IsKid-kid, level_of_one}
use Rattle.diagram_defs.proofs.PartLemmas.{GrowsBy_none, GrowsBy_step}
use Rattle.diagram_defs.proofs.Yielding.{Yields_passed, Yields_memory}
use Rattle.diagram_defs.proofs.Growth.{IsNumberFor_same, Grows_trans}
use Rattle.diagram_defs.proofs.Steps.{AreKids_for, AreKidsSo, AreKidsSo_none, AreKidsSo_more, AreKidsSo_all, kids_number, kids_parts, value_parts}
use Rattle.lift_project.specs.Prefixes.{starts_set}
use Rattle.lift_project.proofs.PrefixLemmas.{AreRests_starts, starts_none, starts_behind, starts_last, found_at, AreFound_grows, AreFound_more, AreFound_same, AreFirst_grows}
use Rattle.lift_project.proofs.prefixes.+prefixes.Goals as goal
use Rattle.lift_project.proofs.prefixes.+prefixes.Goals.{prefixes-After-case, prefixes-In_ok-kids, prefixes-In_ok-found, prefix_kids-After-prefixes}

pub prefixes-returns-then-is_empty-clause-makes : goal.prefixes-returns-then-is_empty-clause-makes
prefixes-returns-then-is_empty-clause-makes t c = (
  GrowsBy_none _ c.args.into.now c.nodes-count.ensures.pool,
  record {
    in_level = empty refl;
    same = λ rest. member-empty c.args.into.now.nodes rest ∙ sym (starts_none c.args.into.now.arities c.args.from.now.nodes c.args.level c.args.n rest (c.is_empty.ensures.0 c.if-is_empty.true));
  },
)

pub prefixes-returns-then-level-levels-clause-makes : goal.prefixes-returns-then-level-levels-clause-makes
prefixes-returns-then-level-levels-clause-makes t c =
    let ne = iff_false c.is_empty.ensures c.if-is_empty.false in let e = c.if-level-levels.true in let f = c.level-levels.ensures in
    (GrowsBy_none _ c.args.into.now c.nodes-count.ensures.pool, starts_last c.args.into.now c.args.from.now.nodes c.args.level c.args.n (e ∙ level_of_one c.args.into.now c.level-levels.result f) ne)

pub prefixes-returns-in-Some-clause-makes : goal.prefixes-returns-in-Some-clause-makes
prefixes-returns-in-Some-clause-makes t c =
    let ne = iff_false c.is_empty.ensures c.if-is_empty.false in
    (GrowsBy_none _ c.args.into.now c.nodes-count.ensures.pool, found_at c.args.from.now c.args.into.now c.args.level c.args.n c.in-Some.found.now c.requires.number ne (c.requires.done.each c.args.n c.in-Some.found.now (sym c.in-Some.ensures.value)))

inside : (t : ℕ) (c : prefixes-In_ok-kids t) → c.args.level < length c.args.into.now.arities
inside t c = let last = level_of_one c.args.into.now c.level-levels.result c.level-levels.ensures in let fits = c.requires.level_in in omega arith

pub prefixes-case-requires-clause-below : goal.prefixes-case-requires-clause-below
prefixes-case-requires-clause-below t c =
    let d = c.prefix_kids.new.into in
    subst (AreKids d.arities d.nodes (length d.nodes) (c.args.level + 1)) (sym c.as_slice.ensures.value) (AreKids_for d c.args.level (starts_set c.args.into.now.arities c.args.from.now.nodes c.args.level c.args.n) c.in_ok-kids.kids.items c.in_ok-kids.ensures.makes.1)

-- the children that were found make the prefixes
parts : (t : ℕ) (c : prefixes-After-case t) (l : ℕ) (part : List ℕ → Bool) → IsPartOf (length c.prefix_kids.new.into.arities) c.args.level (case_set c.prefix_kids.new.into.nodes c.as_slice.result.now) l part → IsPartOf (length c.args.into.now.arities) c.args.level (starts_set c.args.into.now.arities c.args.from.now.nodes c.args.level c.args.n) l part
parts t c l part p =
    let set = starts_set c.args.into.now.arities c.args.from.now.nodes c.args.level c.args.n in
    let d = c.prefix_kids.new.into in
    kids_parts c.args.into.now d c.args.level set c.in_ok-kids.kids.items c.prefix_kids.ensures.makes.0.grows (inside t (goal.at-prefixes-After-case t c).In_ok-kids) (AreRests_starts c.args.into.now c.args.from.now.nodes c.args.level c.args.n) c.in_ok-kids.ensures.makes.1 l part (subst (λ (ks : List ℕ). IsPartOf (length d.arities) c.args.level (case_set d.nodes ks) l part) c.as_slice.ensures.value p)

grown : (t : ℕ) (c : prefixes-After-case t) → GrowsBy (IsPartOf (length c.args.into.now.arities) c.args.level (starts_set c.args.into.now.arities c.args.from.now.nodes c.args.level c.args.n)) c.args.into.now c.case.new.self
grown t c = GrowsBy_step _ _ c.args.into.now c.prefix_kids.new.into c.case.new.self c.prefix_kids.ensures.makes.0 (parts t c) c.case.ensures.0

found : (t : ℕ) (c : prefixes-In_ok-found t) → IsNumberFor c.case.new.self c.args.level (starts_set c.args.into.now.arities c.args.from.now.nodes c.args.level c.args.n) c.in_ok-found.found
found t c =
    let set = starts_set c.args.into.now.arities c.args.from.now.nodes c.args.level c.args.n in
    let d = c.prefix_kids.new.into in
    kids_number c.args.into.now d c.args.level set c.in_ok-kids.kids.items c.prefix_kids.ensures.makes.0.grows (inside t (goal.at-prefixes-In_ok-found t c).In_ok-kids) (AreRests_starts c.args.into.now c.args.from.now.nodes c.args.level c.args.n) c.in_ok-kids.ensures.makes.1 c.case.new.self c.in_ok-found.found (subst (λ (ks : List ℕ). IsNumberFor c.case.new.self c.args.level (case_set d.nodes ks) c.in_ok-found.found) c.as_slice.ensures.value c.in_ok-found.ensures.1)

pub prefixes-returns-in_err-found-clause-makes : goal.prefixes-returns-in_err-found-clause-makes
prefixes-returns-in_err-found-clause-makes t c =
    Yields_passed _ c.from_residual-in_err-found.result c.in_err-found.field-0.0 c.from_residual-in_err-found.ensures.1 c.prefix_kids.ensures.makes.0 (parts t (goal.at.prefixes-returns-in_err-found-clause-makes t c).After-case) c.in_err-found.ensures

pub prefixes-returns-in_err-found-clause-done : goal.prefixes-returns-in_err-found-clause-done
prefixes-returns-in_err-found-clause-done t c =
    AreFound_grows c.args.from.now c.prefix_kids.new.into c.case.new.self c.prefix_kids.new.done c.case.ensures.0.grows c.in_ok-kids.ensures.done

pub prefixes-returns-in_err-insert-clause-makes : goal.prefixes-returns-in_err-insert-clause-makes
prefixes-returns-in_err-insert-clause-makes t c =
    Yields_memory _ c.from_residual-in_err-insert.result c.from_residual-in_err-insert.ensures.1 (grown t (goal.at.prefixes-returns-in_err-insert-clause-makes t c).After-case)

pub prefixes-returns-in_err-insert-clause-done : goal.prefixes-returns-in_err-insert-clause-done
prefixes-returns-in_err-insert-clause-done t c =
    AreFound_same c.args.from.now c.case.new.self c.prefix_kids.new.done c.insert.new.self c.in_err-insert.ensures.err (AreFound_grows c.args.from.now c.prefix_kids.new.into c.case.new.self c.prefix_kids.new.done c.case.ensures.0.grows c.in_ok-kids.ensures.done)

pub prefixes-returns-clause-makes : goal.prefixes-returns-clause-makes
prefixes-returns-clause-makes t c =
    let at = goal.at.prefixes-returns-clause-makes t c in
    (grown t at.After-case, found t at.In_ok-found)

pub prefixes-returns-clause-done : goal.prefixes-returns-clause-done
prefixes-returns-clause-done t c =
    let g = c.case.ensures.0.grows in
    let one = found t (goal.at.prefixes-returns-clause-done t c).In_ok-found in
    let all = ap (λ (arities : List ℕ). arities) (Grows_trans _ _ _ c.prefix_kids.ensures.makes.0.grows g).arities in
    AreFound_more c.args.from.now c.case.new.self c.prefix_kids.new.done c.insert.new.self c.args.level c.args.n c.in_ok-found.found c.in_ok-insert.ensures.updates.0 c.requires.number (subst (λ (arities : List ℕ). IsNumberFor c.case.new.self c.args.level (starts_set arities c.args.from.now.nodes c.args.level c.args.n) c.in_ok-found.found) (sym all) one) (AreFound_grows c.args.from.now c.prefix_kids.new.into c.case.new.self c.prefix_kids.new.done g c.in_ok-kids.ensures.done)

pub prefix_kids-loop-v-init : goal.prefix_kids-loop-v-init
prefix_kids-loop-v-init t c = record {
  grows = GrowsBy_none _ c.args.into.now c.allocator.ensures;
  end = c.arity-arity.ensures;
  kids = subst (AreKidsSo c.args.into.now c.args.level (starts_set c.args.into.now.arities c.args.from.now.nodes c.args.level c.args.n) 0) (sym c.new-kids.ensures.items) (AreKidsSo_none c.args.level (starts_set c.args.into.now.arities c.args.from.now.nodes c.args.level c.args.n) c.args.into.now);
  done = c.requires.done;
}

pub prefix_kids-prefixes-requires : goal.prefix_kids-prefixes-requires
prefix_kids-prefixes-requires t c =
    let from = c.args.from.now in
    let g = c.loop-v.invariant.grows.grows in
    let count = ap (λ (arities : List ℕ). length arities) g.arities in
    let kid_is = subst (IsSet from (c.args.level + 1)) (sym c.child.ensures) (IsKid-kid from.arities from.nodes c.requires.table.nodes (length from.nodes) c.args.level c.args.n c.requires.number c.loop-v.v) in
    (omega arith, (AreFirst_grows from c.args.into.now c.loop-v.into g c.requires.levels, (omega arith, (kid_is, (c.requires.table, c.loop-v.invariant.done)))))

-- what stands behind a value
behind_value : (t : ℕ) (c : prefix_kids-After-prefixes t) (front : List ℕ) → starts_set c.loop-v.into.arities c.args.from.now.nodes (c.args.level + 1) c.child.result front ≡ starts_set c.args.into.now.arities c.args.from.now.nodes c.args.level c.args.n (c.loop-v.v ∷ front)
behind_value t c front =
    let nodes = c.args.from.now.nodes in
    let old = c.args.into.now in
    let low : c.loop-v.v < get_or old.arities c.args.level 0 = let e = c.loop-v.invariant.end in omega arith in
    ap (λ (arities : List ℕ). starts_set arities nodes (c.args.level + 1) c.child.result front) c.loop-v.invariant.grows.grows.arities
    ∙ ap (λ (k : ℕ). starts_set old.arities nodes (c.args.level + 1) k front) c.child.ensures
    ∙ starts_behind old.arities nodes c.args.level c.args.n c.loop-v.v front c.requires.level_in low

parts_behind : (t : ℕ) (c : prefix_kids-After-prefixes t) (l : ℕ) (part : List ℕ → Bool) → IsPartOf (length c.loop-v.into.arities) (c.args.level + 1) (starts_set c.loop-v.into.arities c.args.from.now.nodes (c.args.level + 1) c.child.result) l part → IsPartOf (length c.args.into.now.arities) c.args.level (starts_set c.args.into.now.arities c.args.from.now.nodes c.args.level c.args.n) l part
parts_behind t c =
    value_parts c.args.level (starts_set c.args.into.now.arities c.args.from.now.nodes c.args.level c.args.n) (length c.args.into.now.arities) (length c.loop-v.into.arities) c.loop-v.v (starts_set c.loop-v.into.arities c.args.from.now.nodes (c.args.level + 1) c.child.result) (ap (λ (arities : List ℕ). length arities) c.loop-v.invariant.grows.grows.arities) (behind_value t c)

grown_behind : (t : ℕ) (c : prefix_kids-After-prefixes t) → GrowsBy (IsPartOf (length c.args.into.now.arities) c.args.level (starts_set c.args.into.now.arities c.args.from.now.nodes c.args.level c.args.n)) c.args.into.now c.prefixes.new.into
grown_behind t c = GrowsBy_step _ _ c.args.into.now c.loop-v.into c.prefixes.new.into c.loop-v.invariant.grows (parts_behind t c) c.prefixes.ensures.makes.0

pub prefix_kids-returns-in_err-kid-clause-makes : goal.prefix_kids-returns-in_err-kid-clause-makes
prefix_kids-returns-in_err-kid-clause-makes t c =
    Yields_passed _ c.from_residual.result c.in_err-kid.field-0.0 c.from_residual.ensures.1 c.loop-v.invariant.grows (parts_behind t (goal.at.prefix_kids-returns-in_err-kid-clause-makes t c).After-prefixes) c.in_err-kid.ensures.makes

pub prefix_kids-returns-in_err-push-clause-makes : goal.prefix_kids-returns-in_err-push-clause-makes
prefix_kids-returns-in_err-push-clause-makes t c =
    Yields_memory _ c.from_residual-in_err-push.result c.from_residual-in_err-push.ensures.1 (grown_behind t (goal.at.prefix_kids-returns-in_err-push-clause-makes t c).After-prefixes)

pub prefix_kids-returns-clause-makes : goal.prefix_kids-returns-clause-makes
prefix_kids-returns-clause-makes t c =
    let last : c.loop-v.v ≡ c.arity-arity.result = omega arith in
    let set = starts_set c.args.into.now.arities c.args.from.now.nodes c.args.level c.args.n in
    let all = last ∙ c.loop-v.invariant.end ∙ ap (λ (arities : List ℕ). get_or arities c.args.level 0) (sym c.loop-v.invariant.grows.grows.arities) in
    (c.loop-v.invariant.grows, AreKidsSo_all c.args.level set c.loop-v.into c.loop-v.v c.loop-v.kids.items all c.loop-v.invariant.kids)

pub prefix_kids-loop-v-preserved : goal.prefix_kids-loop-v-preserved
prefix_kids-loop-v-preserved t c = record {
  grows = grown_behind t (goal.at.prefix_kids-loop-v-preserved t c).After-prefixes;
  end = c.loop-v.invariant.end;
  kids =
      let set = starts_set c.args.into.now.arities c.args.from.now.nodes c.args.level c.args.n in
      let one = IsNumberFor_same c.prefixes.new.into (c.args.level + 1) _ _ c.in_ok-kid.kid (behind_value t (goal.at.prefix_kids-loop-v-preserved t c).After-prefixes) c.in_ok-kid.ensures.makes.1 in
      subst (AreKidsSo c.prefixes.new.into c.args.level set (c.loop-v.v + 1)) (sym c.in_ok-push.ensures.items) (AreKidsSo_more c.args.level set c.loop-v.into c.prefixes.new.into c.loop-v.v c.in_ok-kid.kid c.loop-v.kids.items c.prefixes.ensures.makes.0.grows c.loop-v.invariant.kids one);
  done = c.in_ok-kid.ensures.done;
}
