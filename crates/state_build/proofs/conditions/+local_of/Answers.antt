use Rattle.std.proofs.Common.{rules, ◌≡◌, ◌+◌, ◌≤◌, ℕ, Bool, not, ◌&&◌, List, [], take, length, sym, ap, ◌∙◌, subst, refl, Some, Result, Ok, Err, IfOk, arith}
use Rattle.std.specs.List.{slice_get}
use Rattle.std.proofs.lemmas.Bool.{and_parts, ltb-true}
use Rattle.std.proofs.lemmas.Option.{slice_get_read}
use Rattle.pw_defs.specs.declared.values.Value.{Value}
use Rattle.pw_defs.specs.declared.conditions.Cond.{Cond, the_lemmas}
use Rattle.pw_defs.specs.declared.conditions.Cond.TheVariants.{Not}
use Rattle.supply_defs.specs.Conditions.{speaks_below}
use Rattle.supply_defs.proofs.Meaning.{speaks_is, speaks_on, speaks_apart, speaks_not, speaks_all, speaks_any}
use Rattle.plain_lists.specs.declared.faults.DiagFault.{DiagFault}
use Rattle.diagram_defs.specs.declared.locals.Local.{Local}
use Rattle.state_build.specs.declared.levels.ValueTest.TheVariants as tests
use Rattle.diagram_defs.specs.Rests.{is_rest}
use Rattle.diagram_defs.specs.Diagrams.{Diagram}
use Rattle.diagram_defs.specs.Sets.{complement_set, widened_set}
use Rattle.diagram_defs.specs.Parts.{GrowsBy, IsPartOf}
use Rattle.diagram_defs.proofs.PartLemmas.{GrowsBy_none, GrowsBy_step, GrowsBy_wider, IsPartOf_grown, IsPartOf_same, passed_cause, refused_wider}
use Rattle.state_build.specs.Built.{built_set, joined_cond}
use Rattle.state_build.specs.Joined.{AreBuilt}
use Rattle.state_build.proofs.Joining.{AreBuilt_more, built_locals, gathered_built}
use Rattle.state_build.proofs.Singles.{value_is, value_on}
use Rattle.state_meets.specs.Gathered.{gathered_set}
use Rattle.diagram_defs.specs.Answers.{IsCause, Yields}
use Rattle.diagram_defs.proofs.Yielding.{Yields_last, value_of, reason_of}
use Rattle.std.proofs.lemmas.List.{take_all}
use Rattle.state_build.specs.Entries.{IsPartOfEntry}
use Rattle.diagram_defs.specs.Locals.{IsLocalFor}
use Rattle.state_build.specs.Held.{all_states}
use Rattle.state_build.proofs.Entering.{own_parts, not_parts, joined_parts, grown_parts, front_parts}
use Rattle.diagram_defs.proofs.LocalSets.{local_same, local_made, whole_parts}
use Rattle.state_build.proofs.Lowering.{complement_states, complement_rests}
use Rattle.state_build.proofs.Wholes.{built_true, built_not}
use Rattle.state_build.proofs.conditions.+local_of.Goals as goal
use Rattle.state_build.proofs.conditions.+local_of.Goals.{negated-After-local_of, negated-After-complement, joined_of-After-local_of, joined_of-After-as_slice, joined_of-After-joined}

-- what each form of a condition asks of its callee
pub local_of-value_states-requires-clause-level : goal.local_of-value_states-requires-clause-level
local_of-value_states-requires-clause-level t c =
    let n = length c.args.lists.now in
    ltb-true c.in-Is.supply n (sym (speaks_is n c.in-Is.supply c.in-Is.value) ∙ ap (speaks_below n) (sym c.in-Is.is) ∙ c.requires.levels)

pub local_of-value_states-requires-in-On-clause-level : goal.local_of-value_states-requires-in-On-clause-level
local_of-value_states-requires-in-On-clause-level t c =
    let n = length c.args.lists.now in
    ltb-true c.in-On.supply n (sym (speaks_on n c.in-On.supply) ∙ ap (speaks_below n) (sym c.in-On.is) ∙ c.requires.levels)

pub local_of-apart-requires-clause-low : goal.local_of-apart-requires-clause-low
local_of-apart-requires-clause-low t c =
    let n = length c.args.lists.now in
    ltb-true c.in-Apart.low n (and_parts _ _ (sym (speaks_apart n c.in-Apart.low c.in-Apart.high c.in-Apart.above) ∙ ap (speaks_below n) (sym c.in-Apart.is) ∙ c.requires.levels)).0

pub local_of-apart-requires-clause-high : goal.local_of-apart-requires-clause-high
local_of-apart-requires-clause-high t c =
    let n = length c.args.lists.now in
    ltb-true c.in-Apart.high n (and_parts _ _ (sym (speaks_apart n c.in-Apart.low c.in-Apart.high c.in-Apart.above) ∙ ap (speaks_below n) (sym c.in-Apart.is) ∙ c.requires.levels)).1

pub local_of-negated-requires : goal.local_of-negated-requires
local_of-negated-requires t c =
    (search (rules, the_lemmas), (c.requires.lists, cc (speaks_not (length c.args.lists.now) c.in-Not.part)))

pub local_of-joined_of-requires : goal.local_of-joined_of-requires
local_of-joined_of-requires t c =
    (search (rules, the_lemmas), (c.requires.lists, cc (speaks_all (length c.args.lists.now) c.in-All.parts, c.as_slice.ensures.items)))

pub local_of-joined_of-requires-in-Any : goal.local_of-joined_of-requires-in-Any
local_of-joined_of-requires-in-Any t c =
    (search (rules, the_lemmas), (c.requires.lists, cc (speaks_any (length c.args.lists.now) c.in-Any.parts, c.as_slice-in-Any.ensures.items)))

-- what a set of the condition itself adds
own : (old : Diagram) (lists : List (List Value)) (cond form : Cond) → cond ≡ form → (l : ℕ) (part : List ℕ → Bool) → IsPartOf (length old.arities) 0 (built_set old.arities lists form) l part → IsPartOfEntry old.arities lists cond l part
own old lists cond form is l part p =
    subst (λ (f : Cond). IsPartOfEntry old.arities lists f l part) (sym is) (own_parts old.arities lists form l part p)

pub local_of-returns-in-True-clause-number : goal.local_of-returns-in-True-clause-number
local_of-returns-in-True-clause-number t c =
    local_same c.args.pool.now (all_states c.args.pool.now.arities) (built_set c.args.pool.now.arities c.args.lists.now c.args.cond.now) c.everything.result (λ state. built_true c.args.pool.now.arities c.args.lists.now state ∙ ap (λ (f : Cond). built_set c.args.pool.now.arities c.args.lists.now f state) (sym c.in-True.is)) c.everything.ensures.number

pub local_of-returns-in-True-clause-grows : goal.local_of-returns-in-True-clause-grows
local_of-returns-in-True-clause-grows t c = GrowsBy_none _ c.args.pool.now c.everything.ensures.pool

-- the set of a form by another test
value_set_is : (arities : List ℕ) (lists : List (List Value)) (cond form : Cond) {set : List ℕ → Bool} → cond ≡ form → ((state : List ℕ) → set state ≡ built_set arities lists form state) → (state : List ℕ) → set state ≡ built_set arities lists cond state
value_set_is arities lists cond form is agree state = agree state ∙ ap (λ (f : Cond). built_set arities lists f state) (sym is)

same_local : (d : Diagram) (set other : List ℕ → Bool) (r : Result Local DiagFault) → ((state : List ℕ) → set state ≡ other state) → IfOk r (IsLocalFor d set) → IfOk r (IsLocalFor d other)
same_local d set other (Ok local) agree is = local_same d set other local agree is
same_local d set other (Err e) agree is = tt

own_value : (old : Diagram) (lists : List (List Value)) (cond form : Cond) (set : List ℕ → Bool) → cond ≡ form → ((state : List ℕ) → set state ≡ built_set old.arities lists form state) → (l : ℕ) (part : List ℕ → Bool) → IsPartOf (length old.arities) 0 set l part → IsPartOfEntry old.arities lists cond l part
own_value old lists cond form set is agree l part p = own old lists cond form is l part (IsPartOf_same (length old.arities) 0 set (built_set old.arities lists form) l part agree p)

pub local_of-returns-in-Is-clause-number : goal.local_of-returns-in-Is-clause-number
local_of-returns-in-Is-clause-number t c = same_local c.value_states.new.pool _ _ c.value_states.result (value_set_is _ _ _ _ c.in-Is.is (value_is c.args.pool.now.arities c.args.lists.now c.in-Is.supply c.in-Is.value)) c.value_states.ensures.number

pub local_of-returns-in-Is-clause-grows : goal.local_of-returns-in-Is-clause-grows
local_of-returns-in-Is-clause-grows t c =
    GrowsBy_wider _ _ c.args.pool.now c.value_states.new.pool (own_value c.args.pool.now c.args.lists.now c.args.cond.now _ _ c.in-Is.is (value_is c.args.pool.now.arities c.args.lists.now c.in-Is.supply c.in-Is.value)) c.value_states.ensures.grows

pub local_of-returns-in-Is-clause-cause : goal.local_of-returns-in-Is-clause-cause
local_of-returns-in-Is-clause-cause t c =
    refused_wider _ _ c.value_states.new.pool c.value_states.result (own_value c.args.pool.now c.args.lists.now c.args.cond.now _ _ c.in-Is.is (value_is c.args.pool.now.arities c.args.lists.now c.in-Is.supply c.in-Is.value)) c.value_states.ensures.cause

pub local_of-returns-in-On-clause-number : goal.local_of-returns-in-On-clause-number
local_of-returns-in-On-clause-number t c = same_local c.value_states-in-On.new.pool _ _ c.value_states-in-On.result (value_set_is _ _ _ _ c.in-On.is (value_on c.args.pool.now.arities c.args.lists.now c.in-On.supply)) c.value_states-in-On.ensures.number

pub local_of-returns-in-On-clause-grows : goal.local_of-returns-in-On-clause-grows
local_of-returns-in-On-clause-grows t c =
    GrowsBy_wider _ _ c.args.pool.now c.value_states-in-On.new.pool (own_value c.args.pool.now c.args.lists.now c.args.cond.now _ _ c.in-On.is (value_on c.args.pool.now.arities c.args.lists.now c.in-On.supply)) c.value_states-in-On.ensures.grows

pub local_of-returns-in-On-clause-cause : goal.local_of-returns-in-On-clause-cause
local_of-returns-in-On-clause-cause t c =
    refused_wider _ _ c.value_states-in-On.new.pool c.value_states-in-On.result (own_value c.args.pool.now c.args.lists.now c.args.cond.now _ _ c.in-On.is (value_on c.args.pool.now.arities c.args.lists.now c.in-On.supply)) c.value_states-in-On.ensures.cause

pub local_of-returns-in-Apart-clause-grows : goal.local_of-returns-in-Apart-clause-grows
local_of-returns-in-Apart-clause-grows t c =
    GrowsBy_wider _ _ c.args.pool.now c.apart.new.pool (own c.args.pool.now c.args.lists.now c.args.cond.now _ c.in-Apart.is) c.apart.ensures.grows

pub local_of-returns-in-Apart-clause-cause : goal.local_of-returns-in-Apart-clause-cause
local_of-returns-in-Apart-clause-cause t c =
    refused_wider _ _ c.apart.new.pool c.apart.result (own c.args.pool.now c.args.lists.now c.args.cond.now _ c.in-Apart.is) c.apart.ensures.cause

-- the complement
negated_grown : (t : ℕ) (c : negated-After-local_of t) → GrowsBy (IsPartOfEntry c.args.pool.now.arities c.args.lists.now (Not c.args.part.now)) c.args.pool.now c.local_of.new.pool
negated_grown t c = GrowsBy_wider _ _ c.args.pool.now c.local_of.new.pool (not_parts c.args.pool.now.arities c.args.lists.now c.args.part.now) c.local_of.ensures.grows

pub negated-returns-in_err-local-clause-grows : goal.negated-returns-in_err-local-clause-grows
negated-returns-in_err-local-clause-grows t c = negated_grown t (goal.at.negated-returns-in_err-local-clause-grows t c).After-local_of

pub negated-returns-in_err-local-clause-cause : goal.negated-returns-in_err-local-clause-cause
negated-returns-in_err-local-clause-cause t c =
    passed_cause _ _ c.local_of.new.pool c.from_residual.result c.in_err-local.field-0.0 c.from_residual.ensures.1 (not_parts c.args.pool.now.arities c.args.lists.now c.args.part.now) c.in_err-local.ensures.cause

complement_is : (t : ℕ) (c : negated-After-complement t) (state : List ℕ) → widened_set c.local_of.new.pool 0 c.in_ok-local.local.level (complement_set c.local_of.new.pool c.in_ok-local.local.level c.in_ok-local.local.number) state ≡ built_set c.args.pool.now.arities c.args.lists.now (Not c.args.part.now) state
complement_is t c state =
    let g = c.local_of.ensures.grows.grows in
    complement_states c.local_of.new.pool g.is c.in_ok-local.local.level c.in_ok-local.local.number (built_set c.args.pool.now.arities c.args.lists.now c.args.part.now) c.in_ok-local.ensures.number state
    ∙ ap (λ (arities : List ℕ). is_rest arities state && not (built_set c.args.pool.now.arities c.args.lists.now c.args.part.now state)) g.arities
    ∙ built_not c.args.pool.now.arities c.args.lists.now state c.args.part.now

complement_parts : (t : ℕ) (c : negated-After-complement t) (l : ℕ) (part : List ℕ → Bool) → IsPartOf (length c.local_of.new.pool.arities) c.in_ok-local.local.level (complement_set c.local_of.new.pool c.in_ok-local.local.level c.in_ok-local.local.number) l part → IsPartOfEntry c.args.pool.now.arities c.args.lists.now (Not c.args.part.now) l part
complement_parts t c l part p =
    let g = c.local_of.ensures.grows.grows in
    own_parts c.args.pool.now.arities c.args.lists.now (Not c.args.part.now) l part (IsPartOf_grown c.args.pool.now c.local_of.new.pool 0 (built_set c.args.pool.now.arities c.args.lists.now (Not c.args.part.now)) (built_set c.args.pool.now.arities c.args.lists.now (Not c.args.part.now)) g (λ state. refl) l part (whole_parts c.local_of.new.pool c.in_ok-local.local.level c.in_ok-local.ensures.number.is.level_in (complement_set c.local_of.new.pool c.in_ok-local.local.level c.in_ok-local.local.number) (built_set c.args.pool.now.arities c.args.lists.now (Not c.args.part.now)) (complement_is t c) g.is (complement_rests c.local_of.new.pool g.is c.in_ok-local.local.level c.in_ok-local.local.number) l part p))

complement_grown : (t : ℕ) (c : negated-After-complement t) → GrowsBy (IsPartOfEntry c.args.pool.now.arities c.args.lists.now (Not c.args.part.now)) c.args.pool.now c.complement.new.self
complement_grown t c =
    GrowsBy_step _ _ c.args.pool.now c.local_of.new.pool c.complement.new.self (negated_grown t (goal.at-negated-After-complement t c).After-local_of) (complement_parts t c) c.complement.ensures.0

pub negated-returns-in_err-number-clause-grows : goal.negated-returns-in_err-number-clause-grows
negated-returns-in_err-number-clause-grows t c = complement_grown t (goal.at.negated-returns-in_err-number-clause-grows t c).After-complement

pub negated-returns-in_err-number-clause-cause : goal.negated-returns-in_err-number-clause-cause
negated-returns-in_err-number-clause-cause t c =
    passed_cause _ _ c.complement.new.self c.from_residual-in_err-number.result c.in_err-number.field-0.0 c.from_residual-in_err-number.ensures.1 (complement_parts t (goal.at.negated-returns-in_err-number-clause-cause t c).After-complement) c.in_err-number.ensures.1

pub negated-returns-clause-number : goal.negated-returns-clause-number
negated-returns-clause-number t c =
    local_made c.local_of.new.pool c.in_ok-local.local.level c.in_ok-local.ensures.number.is.level_in (complement_set c.local_of.new.pool c.in_ok-local.local.level c.in_ok-local.local.number) (built_set c.args.pool.now.arities c.args.lists.now (Not c.args.part.now)) (complement_is t (goal.at.negated-returns-clause-number t c).After-complement) c.complement.new.self c.in_ok-number.number c.in_ok-number.ensures.0.grows c.in_ok-number.ensures.1

pub negated-returns-clause-grows : goal.negated-returns-clause-grows
negated-returns-clause-grows t c = complement_grown t (goal.at.negated-returns-clause-grows t c).After-complement

-- several conditions: their sets are made one after the other
pub joined_of-loop-part-init : goal.joined_of-loop-part-init
joined_of-loop-part-init t c = record {
  grows = GrowsBy_none _ c.args.pool.now c.allocator.ensures;
  sets =
      let old = c.args.pool.now in
      subst (AreBuilt old old.arities c.args.lists.now []) (sym c.new-sets.ensures.items) tt;
}

part_there : (t : ℕ) (c : joined_of-After-local_of t) → slice_get c.args.parts.now c.loop-part.part-index ≡ Some c.part-item.result
part_there t c =
    slice_get_read c.args.parts.now (length c.args.parts.now) c.loop-part.part-index c.part-item.result refl c.loop-part-test.true c.part-item.is

part_built : (t : ℕ) (c : joined_of-After-local_of t) (l : ℕ) (part : List ℕ → Bool) → IsPartOfEntry c.loop-part.pool.arities c.args.lists.now c.part-item.result l part
    → IsPartOfEntry c.args.pool.now.arities c.args.lists.now (joined_cond c.args.which c.args.parts.now) l part
part_built t c l part p =
    let old = c.args.pool.now in
    let here = grown_parts old c.loop-part.pool c.args.lists.now c.part-item.result c.loop-part.invariant.grows.grows l part p in
    joined_parts old.arities c.args.lists.now c.args.which c.args.parts.now c.loop-part.part-index c.part-item.result (part_there t c) l part here

part_grown : (t : ℕ) (c : joined_of-After-local_of t)
    → GrowsBy (IsPartOfEntry c.args.pool.now.arities c.args.lists.now (joined_cond c.args.which c.args.parts.now)) c.args.pool.now c.local_of.new.pool
part_grown t c =
    GrowsBy_step _ _ c.args.pool.now c.loop-part.pool c.local_of.new.pool c.loop-part.invariant.grows (part_built t c) c.local_of.ensures.grows

pub joined_of-returns-in_err-set-clause-grows : goal.joined_of-returns-in_err-set-clause-grows
joined_of-returns-in_err-set-clause-grows t c = part_grown t (goal.at.joined_of-returns-in_err-set-clause-grows t c).After-local_of

pub joined_of-returns-in_err-set-clause-cause : goal.joined_of-returns-in_err-set-clause-cause
joined_of-returns-in_err-set-clause-cause t c =
    let built = part_built t (goal.at.joined_of-returns-in_err-set-clause-cause t c).After-local_of in
    passed_cause _ _ c.local_of.new.pool c.from_residual.result c.in_err-set.field-0.0 c.from_residual.ensures.1 built c.in_err-set.ensures.cause

pub joined_of-returns-in_err-push-clause-grows : goal.joined_of-returns-in_err-push-clause-grows
joined_of-returns-in_err-push-clause-grows t c = part_grown t (goal.at.joined_of-returns-in_err-push-clause-grows t c).After-local_of

pub joined_of-loop-part-preserved : goal.joined_of-loop-part-preserved
joined_of-loop-part-preserved t c =
    let old = c.args.pool.now in
    let mid = c.loop-part.pool in
    let new = c.local_of.new.pool in
    let lists = c.args.lists.now in
    let i = c.loop-part.part-index in
    let item = c.part-item.result in
    let here = subst (λ (arities : List ℕ). IsLocalFor new (built_set arities lists item) c.in_ok-set.set) c.loop-part.invariant.grows.grows.arities c.in_ok-set.ensures.number in
    let more = AreBuilt_more old.arities lists mid new c.args.parts.now i item c.loop-part.sets.items c.in_ok-set.set c.in_ok-set.ensures.grows.grows c.loop-part-test.true c.part-item.is c.loop-part.invariant.sets here in
    record {
      grows = part_grown t (goal.at.joined_of-loop-part-preserved t c).After-local_of;
      sets = subst (AreBuilt new old.arities lists (take (i + 1) c.args.parts.now)) (sym c.in_ok-push.ensures.items) more;
    }

-- and then gathered
all_built : (t : ℕ) (c : joined_of-After-as_slice t) → AreBuilt c.loop-part.pool c.args.pool.now.arities c.args.lists.now c.args.parts.now c.as_slice.result.now
all_built t c =
    let mid = c.loop-part.pool in
    let arities = c.args.pool.now.arities in
    let lists = c.args.lists.now in
    let parts = c.args.parts.now in
    let past : length parts ≤ c.loop-part.part-index = let e = c.loop-part-test.false in omega arith in
    let all = subst (λ (conds : List Cond). AreBuilt mid arities lists conds c.loop-part.sets.items) (take_all c.loop-part.part-index parts past) c.loop-part.invariant.sets in
    subst (AreBuilt mid arities lists parts) (sym c.as_slice.ensures.value) all

pub joined_of-joined-requires : goal.joined_of-joined-requires
joined_of-joined-requires t c =
    built_locals c.args.pool.now.arities c.args.lists.now c.loop-part.pool c.args.parts.now c.as_slice.result.now (all_built t (goal.at.joined_of-joined-requires t c).After-as_slice)

joined : (t : ℕ) (c : joined_of-After-joined t)
    → Yields (IsPartOfEntry c.args.pool.now.arities c.args.lists.now (joined_cond c.args.which c.args.parts.now)) c.args.pool.now c.joined.new.pool (IsLocalFor c.joined.new.pool (built_set c.args.pool.now.arities c.args.lists.now (joined_cond c.args.which c.args.parts.now))) (IsCause c.joined.new.pool (IsPartOfEntry c.args.pool.now.arities c.args.lists.now (joined_cond c.args.which c.args.parts.now))) c.joined.result
joined t c =
    let old = c.args.pool.now in
    let mid = c.loop-part.pool in
    let new = c.joined.new.pool in
    let lists = c.args.lists.now in
    let cond = joined_cond c.args.which c.args.parts.now in
    let sets = c.as_slice.result.now in
    let g = c.loop-part.invariant.grows.grows in
    let gathered = gathered_set mid c.args.which sets in
    let built = all_built t (goal.at-joined_of-After-joined t c).After-as_slice in
    let agree : (state : List ℕ) → gathered state ≡ built_set old.arities lists cond state = λ state. gathered_built old.arities lists mid c.args.which c.args.parts.now sets state g.arities built in
    Yields_last (IsLocalFor new gathered) (IsLocalFor new (built_set old.arities lists cond)) c.joined.result c.loop-part.invariant.grows (front_parts old mid lists c.args.which c.args.parts.now sets g built) (λ local is. local_same new gathered (built_set old.arities lists cond) local agree is) c.joined.ensures

pub joined_of-returns-clause-number : goal.joined_of-returns-clause-number
joined_of-returns-clause-number t c = value_of _ _ c.joined.result (joined t (goal.at.joined_of-returns-clause-number t c).After-joined)

pub joined_of-returns-clause-grows : goal.joined_of-returns-clause-grows
joined_of-returns-clause-grows t c = (joined t (goal.at.joined_of-returns-clause-grows t c).After-joined).0

pub joined_of-returns-clause-cause : goal.joined_of-returns-clause-cause
joined_of-returns-clause-cause t c = reason_of _ _ c.joined.result (joined t (goal.at.joined_of-returns-clause-cause t c).After-joined)
