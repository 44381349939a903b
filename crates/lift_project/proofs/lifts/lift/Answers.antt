use Rattle.std.proofs.Common.{◌≡◌, ◌<◌, ◌+◌, ℕ, Bool, List, Some, length, get_or, drop, replicate, sym, ap, ◌∙◌, subst, arith}
use Rattle.std.proofs.lemmas.Bool.{false≢true}
use Rattle.std.proofs.lemmas.Grind.{get_or_default_zero}
use Rattle.std.proofs.lemmas.Option.{slice_get-get_or, same_Some}
use Rattle.std.proofs.lemmas.List.{get_or-replicate, length-replicate, length-set}
use Rattle.diagram_defs.specs.Diagrams.{Diagram, IsNumberFor}
use Rattle.diagram_defs.specs.Parts.{GrowsBy}
use Rattle.diagram_defs.proofs.PartLemmas.{GrowsBy_none, GrowsBy_step}
use Rattle.lift_project.specs.Lifts.{shapes_of, lifted_set}
use Rattle.lift_project.specs.Entries.{IsAllowed}
use Rattle.lift_project.specs.Marks.{IsMarked}
use Rattle.lift_project.specs.Lifted.{AreKidsLifted}
use Rattle.lift_project.proofs.LiftedLemmas.{AreLifted, lifted_none, allowed_behind, kids_lifted, lifted_more, lifted_skipped}
use Rattle.diagram_defs.proofs.Yielding.{Yields_passed, Yields_memory}
use Rattle.lift_project.proofs.lifts.lift.Goals as goal
use Rattle.lift_project.proofs.lifts.lift.Goals.{After-as_slice, then-index+in_ok-set, else-index}

pub returns-in_err-marks : goal.returns-in_err-marks
returns-in_err-marks c = Yields_memory _ c.from_residual.result c.from_residual.ensures.1 (GrowsBy_none _ c.args.into.now c.allocator-alloc.ensures)

pub returns-in_err-sets : goal.returns-in_err-sets
returns-in_err-sets c = Yields_memory _ c.from_residual-in_err-sets.result c.from_residual-in_err-sets.ensures.1 (GrowsBy_none _ c.args.into.now c.allocator-alloc.ensures)

pub loop-n-init : goal.loop-n-init
loop-n-init c =
    let all = c.in_ok-sets.ensures.items_if_clones_equal (λ y e. e) in
    let size : length (replicate {A = ℕ} c.len.result 0) ≡ c.len.result = length-replicate c.len.result 0 in
    let wide = ap (λ (xs : List ℕ). length xs) all in
    let count = c.in_ok-marks.ensures.size in
    let same = c.len.ensures in
    record {
      grows = GrowsBy_none _ c.args.into.now c.allocator-alloc.ensures;
      size = wide ∙ size ∙ same ∙ c.in_ok-marks.marks.ok.0;
      lifted = record {
        each = λ m level below marked is.
            let zero : m ≡ 0 = omega arith in
            let none : get_or c.in_ok-sets.sets.items m 0 ≡ 0 = ap (λ (xs : List ℕ). get_or xs m 0) all ∙ get_or-replicate c.len.result m 0 0 (let e = c.in_ok-marks.marks.ok.0 in omega arith) in
            lifted_none c.args.into.now c.args.into.now.arities (shapes_of c.args.kept.now) (drop level c.args.places.now) m _ zero none;
      };
    }

-- the number has a mark, and there is room for its set
marked : (c : After-as_slice) → IsMarked c.in_ok-marks.marks.items c.loop-n.n
marked c =
    let room : c.loop-n.n < length c.in_ok-marks.marks.items = let e = c.len-n-end.ensures in let f = c.in_ok-marks.marks.ok.0 in omega arith in
    slice_get-get_or c.in_ok-marks.marks.items c.loop-n.n c.index.result.now room ∙ ap (λ (b : Bool). Some b) (sym c.index.ensures ∙ c.if-index.true)

pub number_set-requires-clause-sets : goal.number_set-requires-clause-sets
number_set-requires-clause-sets c =
    let kept = c.args.kept.now in
    let room : c.loop-n.n < length c.loop-n.sets.items = let e = c.len-n-end.ensures in let f = c.in_ok-marks.marks.ok.0 in let size = c.loop-n.invariant.size in omega arith in
    subst (AreKidsLifted c.loop-n.into (shapes_of kept) (drop (c.level_of-level.result + 1) c.args.places.now) c.loop-n.n) (sym c.as_slice.ensures.value) (kids_lifted kept c.requires.nodes c.args.places.now c.args.node c.in_ok-marks.marks.items c.in_ok-marks.ensures c.args.into.now c.loop-n.into c.level_of-level.result c.loop-n.n c.loop-n.sets.items c.loop-n.invariant.grows.grows (marked c) c.level_of-level.ensures room c.loop-n.invariant.lifted)

parts : (c : After-as_slice) (l : ℕ) (part : List ℕ → Bool) → IsAllowed c.loop-n.into.arities (shapes_of c.args.kept.now) (drop c.level_of-level.result c.args.places.now) c.loop-n.n l part → IsAllowed c.args.into.now.arities (shapes_of c.args.kept.now) c.args.places.now c.args.node l part
parts c =
    allowed_behind c.args.kept.now c.requires.nodes c.args.places.now c.args.node c.in_ok-marks.marks.items c.in_ok-marks.ensures c.args.into.now c.loop-n.into c.requires.places c.loop-n.invariant.grows.grows c.level_of-level.result c.loop-n.n c.requires.number (marked c) c.loop-n.auto.n c.level_of-level.ensures

pub returns-in_err-set : goal.returns-in_err-set
returns-in_err-set c =
    Yields_passed _ c.from_residual-in_err-set.result c.in_err-set.field-0.0 c.from_residual-in_err-set.ensures.1 c.loop-n.invariant.grows (parts (goal.at.returns-in_err-set c).After-as_slice) c.in_err-set.ensures

pub loop-n-preserved : goal.loop-n-preserved
loop-n-preserved c = elim c.if-index.branch [
  | then-index+in_ok-set w ↦
      let kept = c.args.kept.now in
      let old = c.args.into.now in
      let mid = c.loop-n.into in
      let n = c.loop-n.n in
      let marks = c.in_ok-marks.marks.items in
      let f = c.in_ok-marks.marks.ok.0 in
      let e = c.len-n-end.ensures in
      let room : n < length marks = omega arith in
      let wide : n < length c.loop-n.sets.items = let size = c.loop-n.invariant.size in omega arith in
      let mark : IsMarked marks n = slice_get-get_or marks n c.index.result.now room ∙ ap (λ (b : Bool). Some b) (sym c.index.ensures ∙ w.if-index.true) in
      let behind = allowed_behind kept c.requires.nodes c.args.places.now c.args.node marks c.in_ok-marks.ensures old mid c.requires.places c.loop-n.invariant.grows.grows w.level_of-level.result n c.requires.number mark c.loop-n.auto.n w.level_of-level.ensures in
      let grown = GrowsBy_step (IsAllowed old.arities (shapes_of kept) c.args.places.now c.args.node) _ old mid w.number_set.new.into c.loop-n.invariant.grows behind w.number_set.ensures.0 in
      let more = lifted_more kept c.args.places.now marks old mid w.number_set.new.into w.level_of-level.result n w.in_ok-set.set c.loop-n.sets.items c.loop-n.invariant.grows.grows w.number_set.ensures.0.grows c.loop-n.auto.n wide w.level_of-level.ensures c.loop-n.invariant.lifted w.in_ok-set.ensures.1 in
      record {
        grows = subst (GrowsBy (IsAllowed old.arities (shapes_of kept) c.args.places.now c.args.node) old) (sym w.into-is) grown;
        size = ap (λ v. length v.items) w.sets-is ∙ length-set c.loop-n.sets.items n w.in_ok-set.set ∙ c.loop-n.invariant.size;
        lifted = subst (λ (d : Diagram). AreLifted kept old.arities c.args.places.now d marks (n + 1) c.if-index.sets.items) (sym w.into-is) (subst (AreLifted kept old.arities c.args.places.now w.number_set.new.into marks (n + 1)) (sym (ap (λ v. v.items) w.sets-is)) more);
      }
  | else-index w ↦
      let kept = c.args.kept.now in
      let old = c.args.into.now in
      let n = c.loop-n.n in
      let marks = c.in_ok-marks.marks.items in
      let f = c.in_ok-marks.marks.ok.0 in
      let e = c.len-n-end.ensures in
      let room : n < length marks = omega arith in
      let none = λ (is : IsMarked marks n). false≢true (sym w.if-index.false ∙ c.index.ensures ∙ same_Some _ _ (sym (slice_get-get_or marks n c.index.result.now room) ∙ is)) in
      let more = lifted_skipped kept c.args.places.now marks c.loop-n.into old.arities n c.loop-n.sets.items none c.loop-n.invariant.lifted in
      record {
        grows = subst (GrowsBy (IsAllowed old.arities (shapes_of kept) c.args.places.now c.args.node) old) (sym w.into-is) c.loop-n.invariant.grows;
        size = ap (λ v. length v.items) w.sets-is ∙ c.loop-n.invariant.size;
        lifted = subst (λ (d : Diagram). AreLifted kept old.arities c.args.places.now d marks (n + 1) c.if-index.sets.items) (sym w.into-is) (subst (AreLifted kept old.arities c.args.places.now c.loop-n.into marks (n + 1)) (sym (ap (λ v. v.items) w.sets-is)) more);
      }
]

pub returns : goal.returns
returns c =
    let f = c.in_ok-marks.marks.ok.0 in
    let e = c.len-n-end.ensures in
    let count = c.in_ok-marks.ensures.size in
    let last = c.loop-n-test.false in
    let size = c.loop-n.invariant.size in
    let read = c.index-2.ensures ∙ get_or_default_zero c.loop-n.sets.items c.args.node c.index-2.result.now (omega arith) in
    (c.loop-n.invariant.grows, subst (IsNumberFor c.loop-n.into 0 (lifted_set c.args.into.now.arities (shapes_of c.args.kept.now) c.args.places.now c.args.node)) (sym read) (c.loop-n.invariant.lifted.each c.args.node 0 (omega arith) c.in_ok-marks.ensures.itself c.requires.number))
