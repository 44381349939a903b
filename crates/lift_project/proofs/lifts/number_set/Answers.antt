use Rattle.std.proofs.Common.{◌≡◌, ◌≢◌, ◌≤◌, ◌<◌, ◌+◌, ◌-◌, ℕ, Bool, List, length, get_or, drop, refl, sym, ap, ◌∙◌, subst, arith}
use Rattle.plain_lists.specs.declared.kept.KeptNode.{KeptNode}
use Rattle.plain_lists.specs.declared.kept.Place.{Place}
use Rattle.diagram_defs.specs.Diagrams.{member, kid, kids_of, IsNumberFor}
use Rattle.diagram_defs.specs.Diagrams.IsKid.{empty}
use Rattle.diagram_defs.specs.Parts.{IsPartOfSome, GrowsBy, IsPartOf}
use Rattle.diagram_defs.specs.Sets.{or_set}
use Rattle.diagram_defs.proofs.Meaning.{member-empty}
use Rattle.diagram_defs.proofs.Growth.{IsSet_grows, IsNumberFor_grows, IsNumberFor_same}
use Rattle.diagram_defs.proofs.PartLemmas.{GrowsBy_none, GrowsBy_step}
use Rattle.lift_project.specs.Lifts.{shapes_of, lifted_set}
use Rattle.lift_project.specs.Entries.{IsStep, IsAllowed, first_alternatives, alternative_set}
use Rattle.lift_project.proofs.LiftLemmas.{Stands, stands, node_within, held_parts, held_same, or_parts, or_same, lifted_any}
use Rattle.diagram_defs.proofs.Yielding.{Yields_passed, Makes_wider}
use Rattle.lift_project.specs.Entries.IsEntry.{whole}
use Rattle.lift_project.proofs.EntryLemmas.{listed_part}
use Rattle.lift_project.proofs.LiftedLemmas.{lifted_whole}
use Rattle.lift_project.proofs.lifts.number_set.Goals as goal
use Rattle.lift_project.proofs.lifts.number_set.Goals.{After-index-places-level, After-as_slice-in-loop-v, After-held, In_ok-alternative, After-or}

pub returns-then-n-eq1 : goal.returns-then-n-eq1
returns-then-n-eq1 c =
    let old = c.args.into.now in
    let all = lifted_whole old c.args.kept.now c.args.places.now c.args.level c.args.n c.requires.places c.if-n-eq1.true c.requires.number in
    Makes_wider 0 _ _ c.full.result (listed_part _ _ _ (whole (drop c.args.level c.args.places.now) c.args.n) all (length old.arities)) all c.full.ensures

-- a node's number
above_one : (n : ℕ) → 1 ≤ n → n ≢ 1 → 2 ≤ n
above_one n low other = omega arith

pub bounds-places-level : goal.bounds-places-level
bounds-places-level c =
    let within = node_within c.args.kept.now c.args.level c.args.n c.requires.nodes (above_one c.args.n c.requires.low c.if-n-eq1.false) c.requires.number in let count = c.requires.places.count in omega arith

-- the node, its children and its place
here : (c : After-index-places-level) → Stands c.args.kept.now c.args.into.now.arities c.args.places.now c.args.level c.args.n c.as_slice-kids.result.now c.index-places-level.result
here c =
    let kept = c.args.kept.now in
    stands kept c.args.into.now.arities c.args.places.now c.args.level c.args.n c.as_slice-kids.result.now c.index-places-level.result c.index-as_slice-n.result c.requires.places c.requires.nodes (above_one c.args.n c.requires.low c.if-n-eq1.false) c.requires.number (c.as_slice-kids.ensures.items ∙ ap (λ (nodes : List KeptNode). (get_or nodes (c.args.n - 2) c.index-as_slice-n.result).kids) c.as_slice.ensures.items) c.index-places-level.is

pub loop-v-init : goal.loop-v-init
loop-v-init c = record {
  grows = GrowsBy_none _ c.args.into.now c.nodes-count.ensures.pool;
  found = record { in_level = empty refl; same = λ state. member-empty c.args.into.now.nodes state };
}

-- the value's child, its set and its index
low : (c : After-as_slice-in-loop-v) → c.loop-v.v < length (kids_of (shapes_of c.args.kept.now) c.args.n)
low c =
    let at = here (goal.at-After-as_slice-in-loop-v c).After-index-places-level in
    subst (λ (kids : List ℕ). c.loop-v.v < length kids) (sym at.kids_are) c.loop-v-test.true

the_kid : (c : After-as_slice-in-loop-v) → kid (shapes_of c.args.kept.now) c.args.n c.loop-v.v ≡ get_or c.as_slice-kids.result.now c.loop-v.v 0
the_kid c =
    let at = here (goal.at-After-as_slice-in-loop-v c).After-index-places-level in
    ap (λ (kids : List ℕ). get_or kids c.loop-v.v 0) at.kids_are

child : (c : After-as_slice-in-loop-v) → IsNumberFor c.args.into.now 0 (lifted_set c.args.into.now.arities (shapes_of c.args.kept.now) (drop (c.args.level + 1) c.args.places.now) (kid (shapes_of c.args.kept.now) c.args.n c.loop-v.v)) (get_or c.args.sets.now (get_or c.as_slice-kids.result.now c.loop-v.v 0) 0)
child c =
    subst (λ (k : ℕ). IsNumberFor c.args.into.now 0 (lifted_set c.args.into.now.arities (shapes_of c.args.kept.now) (drop (c.args.level + 1) c.args.places.now) (kid (shapes_of c.args.kept.now) c.args.n c.loop-v.v)) (get_or c.args.sets.now k 0)) (the_kid c) (c.requires.sets.each c.loop-v.v (low c))

the_index : (c : After-as_slice-in-loop-v) → get_or c.as_slice-in-loop-v.result.now c.loop-v.v 0 ≡ get_or c.index-places-level.result.values c.loop-v.v 0
the_index c = ap (λ (values : List ℕ). get_or values c.loop-v.v 0) c.as_slice-in-loop-v.ensures.items

pub bounds-as_slice-v : goal.bounds-as_slice-v
bounds-as_slice-v c =
    let at = here (goal.at.bounds-as_slice-v c).After-index-places-level in
    let wide = at.wide in
    let count = at.placed.count in
    let values = ap (λ (ys : List ℕ). length ys) c.as_slice-in-loop-v.ensures.items in
    omega arith

pub bounds-sets-kids : goal.bounds-sets-kids
bounds-sets-kids c =
    let at = (goal.at.bounds-sets-kids c).After-as_slice-in-loop-v in
    subst (λ (k : ℕ). k < length c.args.sets.now) (the_kid at) (c.requires.sets.inside c.loop-v.v (low at))

pub held-requires-clause-level_in : goal.held-requires-clause-level_in
held-requires-clause-level_in c =
    let at = here (goal.at.held-requires-clause-level_in c).After-index-places-level in
    subst (λ (arities : List ℕ). c.index-places-level.result.level < length arities) (sym c.loop-v.invariant.grows.grows.arities) at.placed.level_in

pub held-requires-clause-index : goal.held-requires-clause-index
held-requires-clause-index c =
    let stage = goal.at.held-requires-clause-index c in
    let at = here stage.After-index-places-level in
    let wide = at.wide in
    let place = c.index-places-level.result in
    let within = at.placed.indices c.loop-v.v (let l = c.loop-v-test.true in omega arith) in
    subst (λ (arities : List ℕ). get_or c.as_slice-in-loop-v.result.now c.loop-v.v 0 < get_or arities place.level 0) (sym c.loop-v.invariant.grows.grows.arities) (subst (λ (i : ℕ). i < get_or c.args.into.now.arities place.level 0) (sym (the_index stage.After-as_slice-in-loop-v)) within)

pub held-requires-clause-number : goal.held-requires-clause-number
held-requires-clause-number c =
    IsSet_grows c.args.into.now c.loop-v.into 0 _ c.loop-v.invariant.grows.grows (child (goal.at.held-requires-clause-number c).After-as_slice-in-loop-v).in_level

-- the alternative, and what it adds
parts : (c : After-held) (l : ℕ) (part : List ℕ → Bool) → IsPartOfSome (length c.loop-v.into.arities) (IsStep c.loop-v.into.arities c.index-places-level.result.level (get_or c.as_slice-in-loop-v.result.now c.loop-v.v 0) (member c.loop-v.into.nodes (get_or c.args.sets.now (get_or c.as_slice-kids.result.now c.loop-v.v 0) 0))) l part → IsAllowed c.args.into.now.arities (shapes_of c.args.kept.now) (drop c.args.level c.args.places.now) c.args.n l part
parts c l part p =
    let stage = goal.at-After-held c in
    let at = here stage.After-index-places-level in
    let at_value = stage.After-as_slice-in-loop-v in
    let old = c.args.into.now in
    subst (λ (places : List Place). IsAllowed old.arities (shapes_of c.args.kept.now) places c.args.n l part) (sym at.behind) (held_parts old (shapes_of c.args.kept.now) c.index-places-level.result (drop (c.args.level + 1) c.args.places.now) c.args.n c.loop-v.v (low at_value) c.loop-v.into c.loop-v.invariant.grows.grows (get_or c.as_slice-in-loop-v.result.now c.loop-v.v 0) _ (the_index at_value) (child at_value) l part p)

grown : (c : After-held) → GrowsBy (IsAllowed c.args.into.now.arities (shapes_of c.args.kept.now) (drop c.args.level c.args.places.now) c.args.n) c.args.into.now c.held.new.into
grown c =
    GrowsBy_step _ _ c.args.into.now c.loop-v.into c.held.new.into c.loop-v.invariant.grows (parts c) c.held.ensures.0

pub returns-in_err-alternative : goal.returns-in_err-alternative
returns-in_err-alternative c =
    Yields_passed _ c.from_residual.result c.in_err-alternative.field-0.0 c.from_residual.ensures.1 c.loop-v.invariant.grows (parts (goal.at.returns-in_err-alternative c).After-held) c.in_err-alternative.ensures

one : (c : In_ok-alternative) → IsNumberFor c.held.new.into 0 (alternative_set c.args.into.now.arities (shapes_of c.args.kept.now) c.index-places-level.result (drop (c.args.level + 1) c.args.places.now) c.args.n c.loop-v.v) c.in_ok-alternative.alternative
one c =
    let at_value = (goal.at-In_ok-alternative c).After-as_slice-in-loop-v in
    IsNumberFor_same c.held.new.into 0 _ _ c.in_ok-alternative.alternative (held_same c.args.into.now (shapes_of c.args.kept.now) c.index-places-level.result (drop (c.args.level + 1) c.args.places.now) c.args.n c.loop-v.v (low at_value) c.loop-v.into c.loop-v.invariant.grows.grows (get_or c.as_slice-in-loop-v.result.now c.loop-v.v 0) _ (the_index at_value) (child at_value)) c.in_ok-alternative.ensures.1

before : (c : In_ok-alternative) → IsNumberFor c.held.new.into 0 (first_alternatives c.args.into.now.arities (shapes_of c.args.kept.now) c.index-places-level.result (drop (c.args.level + 1) c.args.places.now) c.args.n c.loop-v.v) c.loop-v.found
before c = IsNumberFor_grows c.loop-v.into c.held.new.into 0 _ c.loop-v.found c.held.ensures.0.grows c.loop-v.invariant.found

pub or-requires : goal.or-requires
or-requires c =
    let at = (goal.at.or-requires c).In_ok-alternative in
    record { level = 0; first = (before at).in_level; second = (one at).in_level }

further : (c : In_ok-alternative) (l : ℕ) (part : List ℕ → Bool) → IsPartOf (length c.held.new.into.arities) 0 (or_set c.held.new.into.nodes c.loop-v.found c.in_ok-alternative.alternative) l part → IsAllowed c.args.into.now.arities (shapes_of c.args.kept.now) (drop c.args.level c.args.places.now) c.args.n l part
further c l part p =
    let stage = goal.at-In_ok-alternative c in
    let at = here stage.After-index-places-level in
    let old = c.args.into.now in
    subst (λ (places : List Place). IsAllowed old.arities (shapes_of c.args.kept.now) places c.args.n l part) (sym at.behind) (or_parts old (shapes_of c.args.kept.now) c.index-places-level.result (drop (c.args.level + 1) c.args.places.now) c.args.n c.loop-v.v (low stage.After-as_slice-in-loop-v) c.held.new.into (grown stage.After-held).grows c.loop-v.found c.in_ok-alternative.alternative (before c) (one c) l part p)

united : (c : After-or) → GrowsBy (IsAllowed c.args.into.now.arities (shapes_of c.args.kept.now) (drop c.args.level c.args.places.now) c.args.n) c.args.into.now c.or.new.self
united c =
    let stage = goal.at-After-or c in
    let at = stage.In_ok-alternative in
    GrowsBy_step _ _ c.args.into.now c.held.new.into c.or.new.self (grown stage.After-held) (further at) (c.or.ensures 0 (before at).in_level (one at).in_level).0

pub returns-in_err-found : goal.returns-in_err-found
returns-in_err-found c =
    let stage = goal.at.returns-in_err-found c in
    let at = stage.In_ok-alternative in
    Yields_passed _ c.from_residual-in_err-found.result c.in_err-found.field-0.0 c.from_residual-in_err-found.ensures.1 (grown stage.After-held) (further at) (c.in_err-found.ensures 0 (before at).in_level (one at).in_level)

pub loop-v-preserved : goal.loop-v-preserved
loop-v-preserved c =
    let stage = goal.at.loop-v-preserved c in
    let at = stage.In_ok-alternative in
    record {
      grows = united stage.After-or;
      found = IsNumberFor_same c.or.new.self 0 _ _ c.in_ok-found.found (or_same c.args.into.now (shapes_of c.args.kept.now) c.index-places-level.result (drop (c.args.level + 1) c.args.places.now) c.args.n c.loop-v.v (low stage.After-as_slice-in-loop-v) c.held.new.into (grown stage.After-held).grows c.loop-v.found c.in_ok-alternative.alternative (before at) (one at)) (c.in_ok-found.ensures 0 (before at).in_level (one at).in_level).1;
    }

pub returns : goal.returns
returns c =
    let at = here (goal.at.returns c).After-index-places-level in
    let old = c.args.into.now in
    let nodes = shapes_of c.args.kept.now in
    let end : c.loop-v.v ≡ get_or c.args.kept.now.arities c.args.level 0 = let wide = at.wide in let last = c.loop-v-test.false in omega arith in
    let all = lifted_any old.arities nodes c.index-places-level.result (drop (c.args.level + 1) c.args.places.now) c.args.n (get_or c.args.kept.now.arities c.args.level 0) (ap length at.kids_are ∙ at.wide) at.placed in
    let found = subst (λ (k : ℕ). IsNumberFor c.loop-v.into 0 (first_alternatives old.arities nodes c.index-places-level.result (drop (c.args.level + 1) c.args.places.now) c.args.n k) c.loop-v.found) end c.loop-v.invariant.found in
    (c.loop-v.invariant.grows, subst (λ (places : List Place). IsNumberFor c.loop-v.into 0 (lifted_set old.arities nodes places c.args.n) c.loop-v.found) (sym at.behind) (IsNumberFor_same c.loop-v.into 0 _ _ c.loop-v.found all found))
