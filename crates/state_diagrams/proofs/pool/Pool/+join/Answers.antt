use Rattle.std.proofs.Common.{◌≡◌, ◌<◌, ◌+◌, ℕ, Bool, List, ◌∷◌, length, get_or, subst, sym, ap, ◌∙◌, arith, IsErrAnd}
use Rattle.plain_lists.specs.declared.faults.DiagFault.{DiagFault}
use Rattle.diagram_defs.specs.Diagrams.{Diagram, IsSet, IsNumberFor, kid}
use Rattle.diagram_defs.specs.Parts.{GrowsBy, IsPartOf}
use Rattle.diagram_defs.specs.Sets.{case_set}
use Rattle.diagram_defs.proofs.PartLemmas.{GrowsBy_none, GrowsBy_step, GrowsBy_same}
use Rattle.diagram_defs.proofs.Yielding.{Yields_passed, Yields_memory}
use Rattle.diagram_defs.proofs.Growth.{IsSet_grows, IsNumberFor_same}
use Rattle.diagram_defs.proofs.Steps.{AreKids_for, AreKidsSo, AreKidsSo_none, AreKidsSo_more, AreKidsSo_all, kids_number, kids_parts, value_parts}
use Rattle.state_diagrams.specs.Joins.{joined_set}
use Rattle.state_diagrams.proofs.JoinLemmas.{AreRests_join, join_kid, join_behind}
use Rattle.state_diagrams.proofs.Memo.{joined_set_grows}
use Rattle.state_diagrams.proofs.pool.Pool.+join.Goals as goal
use Rattle.state_diagrams.proofs.pool.Pool.+join.Goals.{join-After-case_of, join-In_ok-n, join_kids-After-join}

pub join-returns-in-Some : goal.join-returns-in-Some
join-returns-in-Some t c = (GrowsBy_none _ c.args.self.now c.plain_join.ensures.pool, c.in-Some.ensures.number)

pub join-returns-in-Some-recall : goal.join-returns-in-Some-recall
join-returns-in-Some-recall t c = (GrowsBy_none _ c.args.self.now c.plain_join.ensures.pool, c.in-Some-recall.ensures.joined)

pub join-case_of-requires-clause-below : goal.join-case_of-requires-clause-below
join-case_of-requires-clause-below t c =
    AreKids_for c.join_kids.new.self c.args.level (joined_set c.args.self.now c.args.join c.args.level c.args.a c.args.b) c.in_ok-kids.kids.items c.in_ok-kids.ensures.1

-- the children that were found make the join
parts : (t : ℕ) (c : join-After-case_of t) (l : ℕ) (part : List ℕ → Bool) → IsPartOf (length c.join_kids.new.self.arities) c.args.level (case_set c.join_kids.new.self.nodes c.in_ok-kids.kids.items) l part → IsPartOf (length c.args.self.now.arities) c.args.level (joined_set c.args.self.now c.args.join c.args.level c.args.a c.args.b) l part
parts t c =
    kids_parts c.args.self.now c.join_kids.new.self c.args.level (joined_set c.args.self.now c.args.join c.args.level c.args.a c.args.b) c.in_ok-kids.kids.items c.join_kids.ensures.0.grows c.in_default.ensures.open (AreRests_join c.args.self.now c.args.join c.args.level c.args.a c.args.b) c.in_ok-kids.ensures.1

grown : (t : ℕ) (c : join-After-case_of t) → GrowsBy (IsPartOf (length c.args.self.now.arities) c.args.level (joined_set c.args.self.now c.args.join c.args.level c.args.a c.args.b)) c.args.self.now c.case_of.new.self
grown t c = GrowsBy_step _ _ c.args.self.now c.join_kids.new.self c.case_of.new.self c.join_kids.ensures.0 (parts t c) c.case_of.ensures.0

found : (t : ℕ) (c : join-In_ok-n t) → IsNumberFor c.case_of.new.self c.args.level (joined_set c.args.self.now c.args.join c.args.level c.args.a c.args.b) c.in_ok-n.n
found t c =
    kids_number c.args.self.now c.join_kids.new.self c.args.level (joined_set c.args.self.now c.args.join c.args.level c.args.a c.args.b) c.in_ok-kids.kids.items c.join_kids.ensures.0.grows c.in_default.ensures.open (AreRests_join c.args.self.now c.args.join c.args.level c.args.a c.args.b) c.in_ok-kids.ensures.1 c.case_of.new.self c.in_ok-n.n c.in_ok-n.ensures.1

pub join-returns-in_err-kids : goal.join-returns-in_err-kids
join-returns-in_err-kids t c =
    Yields_passed _ c.from_residual.result c.in_err-kids.field-0.0 c.from_residual.ensures.1 (GrowsBy_none _ c.args.self.now c.plain_join.ensures.pool) (λ l part p. p) c.in_err-kids.ensures

pub join-returns-in_err-n : goal.join-returns-in_err-n
join-returns-in_err-n t c =
    Yields_passed _ c.from_residual-in_err-n.result c.in_err-n.field-0.0 c.from_residual-in_err-n.ensures.1 c.join_kids.ensures.0 (parts t (goal.at.join-returns-in_err-n t c).After-case_of) c.in_err-n.ensures

pub join-remember-requires : goal.join-remember-requires
join-remember-requires t c =
    let g = (grown t (goal.at.join-remember-requires t c).After-case_of).grows in
    record {
      first = IsSet_grows c.args.self.now c.case_of.new.self c.args.level c.args.a g c.requires.first;
      second = IsSet_grows c.args.self.now c.case_of.new.self c.args.level c.args.b g c.requires.second;
      joined = IsNumberFor_same c.case_of.new.self c.args.level _ _ c.in_ok-n.n (λ rest. sym (joined_set_grows c.args.self.now c.case_of.new.self c.args.join c.args.level c.args.a c.args.b rest g c.requires.first c.requires.second)) (found t (goal.at.join-remember-requires t c).In_ok-n);
    }

pub join-returns-in_err-remember : goal.join-returns-in_err-remember
join-returns-in_err-remember t c =
    let g = GrowsBy_same _ c.args.self.now c.case_of.new.self c.remember.new.self c.in_err-remember.ensures.same (grown t (goal.at.join-returns-in_err-remember t c).After-case_of) in
    let out = subst (λ (e : DiagFault). IsErrAnd c.from_residual-in_err-remember.result (λ f. f ≡ e)) c.in_err-remember.ensures.cause c.from_residual-in_err-remember.ensures.1 in
    Yields_memory _ c.from_residual-in_err-remember.result out g

pub join-returns : goal.join-returns
join-returns t c =
    let at = goal.at.join-returns t c in
    let set = joined_set c.args.self.now c.args.join c.args.level c.args.a c.args.b in (
      GrowsBy_same _ c.args.self.now c.case_of.new.self c.remember.new.self c.in_ok-remember.ensures.same (grown t at.After-case_of),
      subst (λ (d : Diagram). IsNumberFor d c.args.level set c.in_ok-n.n) (sym c.in_ok-remember.ensures.same) (found t at.In_ok-n),
    )

pub join_kids-loop-v-init : goal.join_kids-loop-v-init
join_kids-loop-v-init t c = record {
  grows = GrowsBy_none _ c.args.self.now c.allocator.ensures;
  end = c.arity-arity.ensures;
  kids = subst (AreKidsSo c.args.self.now c.args.level (joined_set c.args.self.now c.args.join c.args.level c.args.a c.args.b) 0) (sym c.new-kids.ensures.items) (AreKidsSo_none c.args.level (joined_set c.args.self.now c.args.join c.args.level c.args.a c.args.b) c.args.self.now);
}

pub join_kids-join-requires : goal.join_kids-join-requires
join_kids-join-requires t c =
    let old = c.args.self.now in
    let mid = c.loop-v.self in
    let g = c.loop-v.invariant.grows.grows in
    let count = ap (λ (arities : List ℕ). length arities) g.arities in
    let kid_is = join_kid old mid g c.args.join c.args.level c.args.a c.args.b c.requires.level_in c.requires.first c.requires.second in
    (omega arith, (omega arith, (subst (IsSet mid (c.args.level + 1)) (sym c.child-x.ensures) (kid_is c.args.a c.requires.first c.loop-v.v), subst (IsSet mid (c.args.level + 1)) (sym c.child-y.ensures) (kid_is c.args.b c.requires.second c.loop-v.v))))

-- what stands behind a value
behind_value : (t : ℕ) (c : join_kids-After-join t) (rest : List ℕ) → joined_set c.loop-v.self c.args.join (c.args.level + 1) c.child-x.result c.child-y.result rest ≡ joined_set c.args.self.now c.args.join c.args.level c.args.a c.args.b (c.loop-v.v ∷ rest)
behind_value t c rest =
    let old = c.args.self.now in
    let mid = c.loop-v.self in
    let low : c.loop-v.v < get_or old.arities c.args.level 0 = let e = c.loop-v.invariant.end in omega arith in
    ap (λ (x : ℕ). joined_set mid c.args.join (c.args.level + 1) x c.child-y.result rest) c.child-x.ensures
    ∙ ap (λ (y : ℕ). joined_set mid c.args.join (c.args.level + 1) (kid mid.nodes c.args.a c.loop-v.v) y rest) c.child-y.ensures
    ∙ join_behind old mid c.loop-v.invariant.grows.grows c.args.join c.args.level c.args.a c.args.b c.requires.level_in c.requires.first c.requires.second c.loop-v.v low rest

parts_behind : (t : ℕ) (c : join_kids-After-join t) (l : ℕ) (part : List ℕ → Bool) → IsPartOf (length c.loop-v.self.arities) (c.args.level + 1) (joined_set c.loop-v.self c.args.join (c.args.level + 1) c.child-x.result c.child-y.result) l part → IsPartOf (length c.args.self.now.arities) c.args.level (joined_set c.args.self.now c.args.join c.args.level c.args.a c.args.b) l part
parts_behind t c =
    value_parts c.args.level (joined_set c.args.self.now c.args.join c.args.level c.args.a c.args.b) (length c.args.self.now.arities) (length c.loop-v.self.arities) c.loop-v.v (joined_set c.loop-v.self c.args.join (c.args.level + 1) c.child-x.result c.child-y.result) (ap (λ (arities : List ℕ). length arities) c.loop-v.invariant.grows.grows.arities) (behind_value t c)

grown_behind : (t : ℕ) (c : join_kids-After-join t) → GrowsBy (IsPartOf (length c.args.self.now.arities) c.args.level (joined_set c.args.self.now c.args.join c.args.level c.args.a c.args.b)) c.args.self.now c.join.new.self
grown_behind t c =
    GrowsBy_step _ _ c.args.self.now c.loop-v.self c.join.new.self c.loop-v.invariant.grows (parts_behind t c) c.join.ensures.0

pub join_kids-returns-in_err-n : goal.join_kids-returns-in_err-n
join_kids-returns-in_err-n t c =
    Yields_passed _ c.from_residual.result c.in_err-n.field-0.0 c.from_residual.ensures.1 c.loop-v.invariant.grows (parts_behind t (goal.at.join_kids-returns-in_err-n t c).After-join) c.in_err-n.ensures

pub join_kids-returns-in_err-push : goal.join_kids-returns-in_err-push
join_kids-returns-in_err-push t c =
    Yields_memory _ c.from_residual-in_err-push.result c.from_residual-in_err-push.ensures.1 (grown_behind t (goal.at.join_kids-returns-in_err-push t c).After-join)

pub join_kids-returns : goal.join_kids-returns
join_kids-returns t c =
    let last : c.loop-v.v ≡ c.arity-arity.result = omega arith in
    let all = last ∙ c.loop-v.invariant.end ∙ ap (λ (arities : List ℕ). get_or arities c.args.level 0) (sym c.loop-v.invariant.grows.grows.arities) in
    (c.loop-v.invariant.grows, AreKidsSo_all c.args.level (joined_set c.args.self.now c.args.join c.args.level c.args.a c.args.b) c.loop-v.self c.loop-v.v c.loop-v.kids.items all c.loop-v.invariant.kids)

pub join_kids-loop-v-preserved : goal.join_kids-loop-v-preserved
join_kids-loop-v-preserved t c = record {
  grows = grown_behind t (goal.at.join_kids-loop-v-preserved t c).After-join;
  end = c.loop-v.invariant.end;
  kids =
      let set = joined_set c.args.self.now c.args.join c.args.level c.args.a c.args.b in
      let one = IsNumberFor_same c.join.new.self (c.args.level + 1) _ _ c.in_ok-n.n (behind_value t (goal.at.join_kids-loop-v-preserved t c).After-join) c.in_ok-n.ensures.1 in
      subst (AreKidsSo c.join.new.self c.args.level set (c.loop-v.v + 1)) (sym c.in_ok-push.ensures.ok) (AreKidsSo_more c.args.level set c.loop-v.self c.join.new.self c.loop-v.v c.in_ok-n.n c.loop-v.kids.items c.join.ensures.0.grows c.loop-v.invariant.kids one);
}
