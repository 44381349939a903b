use Rattle.std.proofs.Common.{◌≡◌, ◌<◌, ◌+◌, ℕ, Bool, List, [], ◌∷◌, length, get_or, subst, sym, ap, ◌∙◌, arith}
use Rattle.pw_defs.specs.declared.values.Value.TheVariants.{Off}
use Rattle.diagram_defs.specs.Parts.{GrowsBy, IsPartOf}
use Rattle.diagram_defs.proofs.PartLemmas.{GrowsBy_none, GrowsBy_step, passed_cause}
use Rattle.diagram_defs.proofs.Growth.{IsNumberFor_same}
use Rattle.diagram_defs.proofs.Steps.{AreKidsSo, AreKidsSo_none, AreKidsSo_more, AreKidsSo_all, value_parts}
use Rattle.state_build.specs.declared.levels.ValueTest.TheVariants.{Far}
use Rattle.state_build.specs.ValueTests.{passing_set, pair_set}
use Rattle.state_build.proofs.Singles.{list_read}
use Rattle.state_build.proofs.Pairing.{arity_at, level_in, pair_behind}
use Rattle.state_build.proofs.pairs.pair_kids.Goals as goal
use Rattle.state_build.proofs.pairs.pair_kids.Goals.{After-new-kids, After-passing}

first_in : (c : After-new-kids) → c.args.first < length c.args.lists.now
first_in c = let o = c.requires.order in let b = c.requires.level_in in omega arith

froms_are : (c : After-new-kids) → c.as_slice-froms.result.now ≡ get_or c.args.lists.now c.args.first []
froms_are c = list_read c.args.lists.now c.args.first c.as_slice-froms.result.now c.index-lists-first.result (first_in c) c.index-lists-first.is c.as_slice-froms.ensures.items

values_are : (c : After-new-kids) → c.as_slice-values.result.now ≡ get_or c.args.lists.now c.args.second []
values_are c = list_read c.args.lists.now c.args.second c.as_slice-values.result.now c.index-lists-second.result c.requires.level_in c.index-lists-second.is c.as_slice-values.ensures.items

pub loop-from-init : goal.loop-from-init
loop-from-init c = record {
  grows = GrowsBy_none _ c.args.pool.now c.allocator.ensures;
  kids = let set = pair_set c.args.pool.now.arities c.args.lists.now c.args.first c.args.second c.args.side c.args.by in
      subst (AreKidsSo c.args.pool.now c.args.first set 0) (sym c.new-kids.ensures.items) (AreKidsSo_none c.args.first set c.args.pool.now);
}

pub passing-requires-clause-level_in : goal.passing-requires-clause-level_in
passing-requires-clause-level_in c =
    subst (λ (arities : List ℕ). c.args.second < length arities) (sym c.loop-from.invariant.grows.grows.arities) (level_in c.args.lists.now c.args.pool.now.arities c.args.second c.requires.lists c.requires.level_in)

pub passing-requires-clause-arity : goal.passing-requires-clause-arity
passing-requires-clause-arity c =
    ap length (values_are (goal.at.passing-requires-clause-arity c).After-new-kids)
    ∙ arity_at c.args.lists.now c.args.pool.now.arities c.args.second c.requires.lists c.requires.level_in
    ∙ ap (λ (arities : List ℕ). get_or arities c.args.second 0) (sym c.loop-from.invariant.grows.grows.arities)

-- what stands behind a value of the first level
under : (c : After-passing) (rest : List ℕ) → passing_set c.loop-from.pool.arities (c.args.first + 1) c.args.second c.as_slice-values.result.now (Far c.args.side (get_or c.as_slice-froms.result.now c.loop-from.from-index Off) c.args.by) rest ≡ pair_set c.args.pool.now.arities c.args.lists.now c.args.first c.args.second c.args.side c.args.by (c.loop-from.from-index ∷ rest)
under c rest =
    let old = c.args.pool.now in
    let before = (goal.at-After-passing c).After-new-kids in
    let i = c.loop-from.from-index in
    let from = get_or c.as_slice-froms.result.now i Off in
    let inside = level_in c.args.lists.now old.arities c.args.first c.requires.lists (first_in before) in
    let many = ap length (froms_are before) ∙ arity_at c.args.lists.now old.arities c.args.first c.requires.lists (first_in before) in
    let low : i < get_or old.arities c.args.first 0 = let t = c.loop-from-test.true in omega arith in
    ap (λ (arities : List ℕ). passing_set arities (c.args.first + 1) c.args.second c.as_slice-values.result.now (Far c.args.side from c.args.by) rest) c.loop-from.invariant.grows.grows.arities
    ∙ pair_behind old.arities c.args.lists.now c.args.first c.args.second c.args.side c.args.by i from c.as_slice-values.result.now rest c.requires.order inside low (ap (λ vs. get_or vs i Off) (froms_are before)) (values_are before)

parts : (c : After-passing) (l : ℕ) (part : List ℕ → Bool) → IsPartOf (length c.loop-from.pool.arities) (c.args.first + 1) (passing_set c.loop-from.pool.arities (c.args.first + 1) c.args.second c.as_slice-values.result.now (Far c.args.side (get_or c.as_slice-froms.result.now c.loop-from.from-index Off) c.args.by)) l part → IsPartOf (length c.args.pool.now.arities) c.args.first (pair_set c.args.pool.now.arities c.args.lists.now c.args.first c.args.second c.args.side c.args.by) l part
parts c =
    value_parts c.args.first (pair_set c.args.pool.now.arities c.args.lists.now c.args.first c.args.second c.args.side c.args.by) (length c.args.pool.now.arities) (length c.loop-from.pool.arities) c.loop-from.from-index _ (ap (λ (arities : List ℕ). length arities) c.loop-from.invariant.grows.grows.arities) (under c)

grown : (c : After-passing) → GrowsBy (IsPartOf (length c.args.pool.now.arities) c.args.first (pair_set c.args.pool.now.arities c.args.lists.now c.args.first c.args.second c.args.side c.args.by)) c.args.pool.now c.passing.new.pool
grown c = GrowsBy_step _ _ c.args.pool.now c.loop-from.pool c.passing.new.pool c.loop-from.invariant.grows (parts c) c.passing.ensures.grows

pub returns-in_err-kid-clause-grows : goal.returns-in_err-kid-clause-grows
returns-in_err-kid-clause-grows c = grown (goal.at.returns-in_err-kid-clause-grows c).After-passing

pub returns-in_err-kid-clause-cause : goal.returns-in_err-kid-clause-cause
returns-in_err-kid-clause-cause c =
    passed_cause _ _ c.passing.new.pool c.from_residual.result c.in_err-kid.field-0.0 c.from_residual.ensures.1 (parts (goal.at.returns-in_err-kid-clause-cause c).After-passing) c.in_err-kid.ensures.cause

pub returns-in_err-push-clause-grows : goal.returns-in_err-push-clause-grows
returns-in_err-push-clause-grows c = grown (goal.at.returns-in_err-push-clause-grows c).After-passing

pub loop-from-preserved : goal.loop-from-preserved
loop-from-preserved c = record {
  grows = grown (goal.at.loop-from-preserved c).After-passing;
  kids =
      let set = pair_set c.args.pool.now.arities c.args.lists.now c.args.first c.args.second c.args.side c.args.by in
      let one = IsNumberFor_same c.passing.new.pool (c.args.first + 1) _ _ c.in_ok-kid.kid (under (goal.at.loop-from-preserved c).After-passing) c.in_ok-kid.ensures.number in
      subst (AreKidsSo c.passing.new.pool c.args.first set (c.loop-from.from-index + 1)) (sym c.in_ok-push.ensures.items) (AreKidsSo_more c.args.first set c.loop-from.pool c.passing.new.pool c.loop-from.from-index c.in_ok-kid.kid c.loop-from.kids.items c.passing.ensures.grows.grows c.loop-from.invariant.kids one);
}

pub returns-clause-kids : goal.returns-clause-kids
returns-clause-kids c =
    let set = pair_set c.args.pool.now.arities c.args.lists.now c.args.first c.args.second c.args.side c.args.by in
    let before = (goal.at.returns-clause-kids c).After-new-kids in
    let mid = c.loop-from.pool in
    let many = ap length (froms_are before) ∙ arity_at c.args.lists.now c.args.pool.now.arities c.args.first c.requires.lists (first_in before) in
    let wide : get_or mid.arities c.args.first 0 ≡ get_or c.args.pool.now.arities c.args.first 0 = ap (λ (arities : List ℕ). get_or arities c.args.first 0) c.loop-from.invariant.grows.grows.arities in
    let end : c.loop-from.from-index ≡ get_or mid.arities c.args.first 0 = let t = c.loop-from-test.false in let u = c.loop-from.auto.from-index-end in omega arith in
    AreKidsSo_all c.args.first set mid c.loop-from.from-index c.loop-from.kids.items end c.loop-from.invariant.kids
