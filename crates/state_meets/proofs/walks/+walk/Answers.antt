use Rattle.std.proofs.Common.{◌≡◌, ◌<◌, ◌+◌, ℕ, Bool, List, ◌∷◌, length, get_or, subst, sym, ap, ◌∙◌, arith}
use Rattle.diagram_defs.specs.Diagrams.{IsNumberFor}
use Rattle.diagram_defs.specs.Parts.{GrowsBy, IsPartOf}
use Rattle.diagram_defs.specs.Sets.{case_set}
use Rattle.diagram_defs.proofs.PartLemmas.{GrowsBy_none, GrowsBy_step}
use Rattle.diagram_defs.proofs.Growth.{IsNumberFor_same}
use Rattle.diagram_defs.proofs.Steps.{AreKids_for, AreKidsSo, AreKidsSo_none, AreKidsSo_more, AreKidsSo_all, kids_number, kids_parts, value_parts}
use Rattle.state_meets.specs.declared.faults.GatherFault.TheVariants.{Table}
use Rattle.state_meets.specs.Walks.{walk_set, AreSets}
use Rattle.state_meets.specs.Gathered.{begun_of}
use Rattle.state_meets.specs.Memos.{IsMemo, IsRemembered}
use Rattle.state_meets.proofs.Meets.{AreRests_walk, AreSets_grow, walk_grows, walk_behind}
use Rattle.state_meets.proofs.Reasons.{walk_passed, walk_memory}
use Rattle.state_meets.proofs.Remembering.{IsPlan_grows, IsMemo_grows}
use Rattle.state_meets.proofs.walks.+walk.Goals as goal
use Rattle.state_meets.proofs.walks.+walk.Goals.{walk-After-case_of, walk-In_ok-n, walk_kids-After-walk}

pub walk-returns-in-Some-clause-makes : goal.walk-returns-in-Some-clause-makes
walk-returns-in-Some-clause-makes t c = (GrowsBy_none _ c.args.pool.now c.known.ensures.pool, c.in-Some.ensures.number)

pub walk-returns-then-len-plan-clause-makes : goal.walk-returns-then-len-plan-clause-makes
walk-returns-then-len-plan-clause-makes t c = (GrowsBy_none _ c.args.pool.now c.known.ensures.pool, tt)

pub walk-case_of-requires-clause-below : goal.walk-case_of-requires-clause-below
walk-case_of-requires-clause-below t c =
    AreKids_for c.walk_kids.new.pool c.args.tuple.level (walk_set c.args.pool.now c.args.plan.now.which (begun_of c.args.plan.now) c.args.tuple.level c.args.tuple.numbers.items) c.in_ok-kids.kids.items c.in_ok-kids.ensures.makes.1

-- the children that were found make the set
parts : (t : ℕ) (c : walk-After-case_of t) (l : ℕ) (part : List ℕ → Bool) → IsPartOf (length c.walk_kids.new.pool.arities) c.args.tuple.level (case_set c.walk_kids.new.pool.nodes c.in_ok-kids.kids.items) l part
    → IsPartOf (length c.args.pool.now.arities) c.args.tuple.level (walk_set c.args.pool.now c.args.plan.now.which (begun_of c.args.plan.now) c.args.tuple.level c.args.tuple.numbers.items) l part
parts t c =
    kids_parts c.args.pool.now c.walk_kids.new.pool c.args.tuple.level _ c.in_ok-kids.kids.items c.walk_kids.ensures.makes.0.grows c.in_default.ensures.open (AreRests_walk c.args.pool.now c.args.plan.now.which (begun_of c.args.plan.now) c.args.tuple.level c.args.tuple.numbers.items) c.in_ok-kids.ensures.makes.1

grown : (t : ℕ) (c : walk-After-case_of t) → GrowsBy (IsPartOf (length c.args.pool.now.arities) c.args.tuple.level (walk_set c.args.pool.now c.args.plan.now.which (begun_of c.args.plan.now) c.args.tuple.level c.args.tuple.numbers.items)) c.args.pool.now c.case_of.new.self
grown t c = GrowsBy_step _ _ c.args.pool.now c.walk_kids.new.pool c.case_of.new.self c.walk_kids.ensures.makes.0 (parts t c) c.case_of.ensures.0

found : (t : ℕ) (c : walk-In_ok-n t) → IsNumberFor c.case_of.new.self c.args.tuple.level (walk_set c.args.pool.now c.args.plan.now.which (begun_of c.args.plan.now) c.args.tuple.level c.args.tuple.numbers.items) c.in_ok-n.n
found t c =
    kids_number c.args.pool.now c.walk_kids.new.pool c.args.tuple.level _ c.in_ok-kids.kids.items c.walk_kids.ensures.makes.0.grows c.in_default.ensures.open (AreRests_walk c.args.pool.now c.args.plan.now.which (begun_of c.args.plan.now) c.args.tuple.level c.args.tuple.numbers.items) c.in_ok-kids.ensures.makes.1 c.case_of.new.self c.in_ok-n.n c.in_ok-n.ensures.1

pub walk-returns-in_err-n-clause-makes : goal.walk-returns-in_err-n-clause-makes
walk-returns-in_err-n-clause-makes t c =
    walk_passed _ c.from_residual-in_err-n.result (Table c.in_err-n.field-0.0) c.from_residual-in_err-n.ensures.1 c.walk_kids.ensures.makes.0 (parts t (goal.at.walk-returns-in_err-n-clause-makes t c).After-case_of) c.in_err-n.ensures

pub walk-returns-in_err-kids-clause-makes : goal.walk-returns-in_err-kids-clause-makes
walk-returns-in_err-kids-clause-makes t c =
    walk_passed _ c.from_residual.result c.in_err-kids.field-0.0 c.from_residual.ensures.1 (GrowsBy_none _ c.args.pool.now c.known.ensures.pool) (λ l part p. p) c.in_err-kids.ensures.makes

-- what was remembered holds in the table with the new node
kept : (t : ℕ) (c : walk-After-case_of t) → IsMemo c.walk_kids.new.pool c.args.plan.now.which (begun_of c.args.plan.now) c.walk_kids.new.memo → IsMemo c.case_of.new.self c.args.plan.now.which (begun_of c.args.plan.now) c.walk_kids.new.memo
kept t c memo =
    let plan = IsPlan_grows c.args.pool.now c.walk_kids.new.pool c.args.plan.now c.walk_kids.ensures.makes.0.grows c.requires.plan in
    IsMemo_grows c.args.plan.now.which (begun_of c.args.plan.now) c.walk_kids.new.pool c.case_of.new.self c.walk_kids.new.memo c.case_of.ensures.0.grows plan.begun memo

-- the new result, in that table
right : (t : ℕ) (c : walk-In_ok-n t) → IsRemembered c.case_of.new.self c.args.plan.now.which (begun_of c.args.plan.now) c.args.tuple.level c.args.tuple.numbers.items c.in_ok-n.n
right t c =
    let old = c.args.pool.now in
    let which = c.args.plan.now.which in
    let begun = begun_of c.args.plan.now in
    let level = c.args.tuple.level in
    let numbers = c.args.tuple.numbers.items in
    let g = (grown t (goal.at-walk-In_ok-n t c).After-case_of).grows in
    record {
      sets = AreSets_grow old c.case_of.new.self level numbers g c.requires.sets;
      number = IsNumberFor_same c.case_of.new.self level _ _ c.in_ok-n.n (λ rest. sym (walk_grows old c.case_of.new.self which begun level numbers rest g c.requires.sets c.requires.plan.begun)) (found t c);
    }

pub walk-returns-in_err-n-clause-memo : goal.walk-returns-in_err-n-clause-memo
walk-returns-in_err-n-clause-memo t c = kept t (goal.at.walk-returns-in_err-n-clause-memo t c).After-case_of c.in_ok-kids.ensures.memo

pub walk-returns-in_err-remember-clause-makes : goal.walk-returns-in_err-remember-clause-makes
walk-returns-in_err-remember-clause-makes t c =
    walk_memory _ c.from_residual-in_err-remember.result c.from_residual-in_err-remember.ensures.1 (grown t (goal.at.walk-returns-in_err-remember-clause-makes t c).After-case_of)

pub walk-returns-in_err-remember-clause-memo : goal.walk-returns-in_err-remember-clause-memo
walk-returns-in_err-remember-clause-memo t c =
    let at = goal.at.walk-returns-in_err-remember-clause-memo t c in
    c.in_err-remember.ensures c.case_of.new.self c.args.plan.now.which (begun_of c.args.plan.now) (kept t at.After-case_of c.in_ok-kids.ensures.memo) (right t at.In_ok-n)

pub walk-returns-clause-makes : goal.walk-returns-clause-makes
walk-returns-clause-makes t c =
    let at = goal.at.walk-returns-clause-makes t c in
    (grown t at.After-case_of, found t at.In_ok-n)

pub walk-returns-clause-memo : goal.walk-returns-clause-memo
walk-returns-clause-memo t c =
    let at = goal.at.walk-returns-clause-memo t c in
    c.in_ok-remember.ensures c.case_of.new.self c.args.plan.now.which (begun_of c.args.plan.now) (kept t at.After-case_of c.in_ok-kids.ensures.memo) (right t at.In_ok-n)

pub walk_kids-loop-v-init : goal.walk_kids-loop-v-init
walk_kids-loop-v-init t c =
    let old = c.args.pool.now in
    let level = c.args.tuple.now.level in
    let set = walk_set old c.args.plan.now.which (begun_of c.args.plan.now) level c.args.tuple.now.numbers.items in
    record {
      grows = GrowsBy_none _ old c.allocator.ensures;
      end = c.arity-arity.ensures;
      kids = subst (AreKidsSo old level set 0) (sym c.new-kids.ensures.items) (AreKidsSo_none level set old);
      memo = c.requires.memo;
    }

pub walk_kids-tuple_behind-requires-clause-sets : goal.walk_kids-tuple_behind-requires-clause-sets
walk_kids-tuple_behind-requires-clause-sets t c =
    AreSets_grow c.args.pool.now c.loop-v.pool c.args.tuple.now.level c.args.tuple.now.numbers.items c.loop-v.invariant.grows.grows c.requires.sets

pub walk_kids-tuple_behind-requires-clause-plan : goal.walk_kids-tuple_behind-requires-clause-plan
walk_kids-tuple_behind-requires-clause-plan t c =
    IsPlan_grows c.args.pool.now c.loop-v.pool c.args.plan.now c.loop-v.invariant.grows.grows c.requires.plan

pub walk_kids-walk-requires : goal.walk_kids-walk-requires
walk_kids-walk-requires t c =
    let g = c.loop-v.invariant.grows.grows in
    let count = ap (λ (arities : List ℕ). length arities) g.arities in
    let down = c.in_ok-next.ensures.level_is in
    let sets = subst (λ (l : ℕ). AreSets c.loop-v.pool l c.in_ok-next.next.numbers.items) (sym down) c.in_ok-next.ensures.stands.sets in
    (omega arith, (omega arith, (sets, (IsPlan_grows c.args.pool.now c.loop-v.pool c.args.plan.now g c.requires.plan, c.loop-v.invariant.memo))))

-- what stands behind a value
behind_value : (t : ℕ) (c : walk_kids-After-walk t) (rest : List ℕ) → walk_set c.loop-v.pool c.args.plan.now.which (begun_of c.args.plan.now) c.in_ok-next.next.level c.in_ok-next.next.numbers.items rest
    ≡ walk_set c.args.pool.now c.args.plan.now.which (begun_of c.args.plan.now) c.args.tuple.now.level c.args.tuple.now.numbers.items (c.loop-v.v ∷ rest)
behind_value t c rest =
    let old = c.args.pool.now in
    let mid = c.loop-v.pool in
    let g = c.loop-v.invariant.grows.grows in
    let which = c.args.plan.now.which in
    let begun = begun_of c.args.plan.now in
    let level = c.args.tuple.now.level in
    let numbers = c.args.tuple.now.numbers.items in
    let next = c.in_ok-next.next.numbers.items in
    let inside : level < length mid.arities = subst (λ (arities : List ℕ). level < length arities) (sym g.arities) c.requires.level_in in
    let below : c.loop-v.v < get_or old.arities level 0 = let e = c.loop-v.invariant.end in omega arith in
    let low : c.loop-v.v < get_or mid.arities level 0 = subst (λ (arities : List ℕ). c.loop-v.v < get_or arities level 0) (sym g.arities) below in
    let room : level + 1 < length begun = let e = c.requires.plan.count in let f = c.requires.level_in in omega arith in
    let down = walk_behind mid which begun level numbers c.loop-v.v next rest inside low room c.in_ok-next.ensures.stands in
    let same = down ∙ walk_grows old mid which begun level numbers (c.loop-v.v ∷ rest) g c.requires.sets c.requires.plan.begun in
    subst (λ (l : ℕ). walk_set mid which begun l next rest ≡ walk_set old which begun level numbers (c.loop-v.v ∷ rest)) (sym c.in_ok-next.ensures.level_is) same

parts_behind : (t : ℕ) (c : walk_kids-After-walk t) (l : ℕ) (part : List ℕ → Bool) → IsPartOf (length c.loop-v.pool.arities) c.in_ok-next.next.level (walk_set c.loop-v.pool c.args.plan.now.which (begun_of c.args.plan.now) c.in_ok-next.next.level c.in_ok-next.next.numbers.items) l part
    → IsPartOf (length c.args.pool.now.arities) c.args.tuple.now.level (walk_set c.args.pool.now c.args.plan.now.which (begun_of c.args.plan.now) c.args.tuple.now.level c.args.tuple.now.numbers.items) l part
parts_behind t c l part p =
    let old = c.args.pool.now in
    let mid = c.loop-v.pool in
    let level = c.args.tuple.now.level in
    let set = walk_set old c.args.plan.now.which (begun_of c.args.plan.now) level c.args.tuple.now.numbers.items in
    let under = walk_set mid c.args.plan.now.which (begun_of c.args.plan.now) c.in_ok-next.next.level c.in_ok-next.next.numbers.items in
    let count = ap (λ (arities : List ℕ). length arities) c.loop-v.invariant.grows.grows.arities in
    value_parts level set (length old.arities) (length mid.arities) c.loop-v.v under count (behind_value t c) l part (subst (λ (k : ℕ). IsPartOf (length mid.arities) k under l part) c.in_ok-next.ensures.level_is p)

grown_behind : (t : ℕ) (c : walk_kids-After-walk t) → GrowsBy (IsPartOf (length c.args.pool.now.arities) c.args.tuple.now.level (walk_set c.args.pool.now c.args.plan.now.which (begun_of c.args.plan.now) c.args.tuple.now.level c.args.tuple.now.numbers.items)) c.args.pool.now c.walk.new.pool
grown_behind t c =
    GrowsBy_step _ _ c.args.pool.now c.loop-v.pool c.walk.new.pool c.loop-v.invariant.grows (parts_behind t c) c.walk.ensures.makes.0

pub walk_kids-returns-in_err-next-clause-makes : goal.walk_kids-returns-in_err-next-clause-makes
walk_kids-returns-in_err-next-clause-makes t c =
    walk_memory _ c.from_residual.result c.from_residual.ensures.1 c.loop-v.invariant.grows

pub walk_kids-returns-in_err-n-clause-makes : goal.walk_kids-returns-in_err-n-clause-makes
walk_kids-returns-in_err-n-clause-makes t c =
    walk_passed _ c.from_residual-in_err-n.result c.in_err-n.field-0.0 c.from_residual-in_err-n.ensures.1 c.loop-v.invariant.grows (parts_behind t (goal.at.walk_kids-returns-in_err-n-clause-makes t c).After-walk) c.in_err-n.ensures.makes

pub walk_kids-returns-in_err-push-clause-makes : goal.walk_kids-returns-in_err-push-clause-makes
walk_kids-returns-in_err-push-clause-makes t c =
    walk_memory _ c.from_residual-in_err-push.result c.from_residual-in_err-push.ensures.1 (grown_behind t (goal.at.walk_kids-returns-in_err-push-clause-makes t c).After-walk)

pub walk_kids-returns-clause-makes : goal.walk_kids-returns-clause-makes
walk_kids-returns-clause-makes t c =
    let level = c.args.tuple.now.level in
    let set = walk_set c.args.pool.now c.args.plan.now.which (begun_of c.args.plan.now) level c.args.tuple.now.numbers.items in
    let last : c.loop-v.v ≡ c.arity-arity.result = let e = c.loop-v.auto.v-end in let f = c.loop-v-test.false in omega arith in
    let all = last ∙ c.loop-v.invariant.end ∙ ap (λ (arities : List ℕ). get_or arities level 0) (sym c.loop-v.invariant.grows.grows.arities) in
    (c.loop-v.invariant.grows, AreKidsSo_all level set c.loop-v.pool c.loop-v.v c.loop-v.kids.items all c.loop-v.invariant.kids)

pub walk_kids-loop-v-preserved : goal.walk_kids-loop-v-preserved
walk_kids-loop-v-preserved t c =
    let level = c.args.tuple.now.level in
    let set = walk_set c.args.pool.now c.args.plan.now.which (begun_of c.args.plan.now) level c.args.tuple.now.numbers.items in
    let under = walk_set c.loop-v.pool c.args.plan.now.which (begun_of c.args.plan.now) c.in_ok-next.next.level c.in_ok-next.next.numbers.items in
    let at = (goal.at.walk_kids-loop-v-preserved t c).After-walk in
    let down = subst (λ (l : ℕ). IsNumberFor c.walk.new.pool l under c.in_ok-n.n) c.in_ok-next.ensures.level_is c.in_ok-n.ensures.makes.1 in
    let one = IsNumberFor_same c.walk.new.pool (level + 1) under (λ rest. set (c.loop-v.v ∷ rest)) c.in_ok-n.n (behind_value t at) down in
    record {
      grows = grown_behind t at;
      end = c.loop-v.invariant.end;
      kids = subst (AreKidsSo c.walk.new.pool level set (c.loop-v.v + 1)) (sym c.in_ok-push.ensures.ok) (AreKidsSo_more level set c.loop-v.pool c.walk.new.pool c.loop-v.v c.in_ok-n.n c.loop-v.kids.items c.walk.ensures.makes.0.grows c.loop-v.invariant.kids one);
      memo = c.in_ok-n.ensures.memo;
    }
