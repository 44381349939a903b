use Rattle.std.proofs.Common.{◌≡◌, ◌≤◌, ◌<◌, ◌-◌, ℕ, List, Bool, Some, length, get_or, sym, ap, ◌∙◌, subst, arith}
use Rattle.std.proofs.lemmas.Bool.{false≢true}
use Rattle.std.proofs.lemmas.List.{with_items_is}
use Rattle.std.proofs.lemmas.Option.{slice_get-get_or, same_Some}
use Rattle.plain_lists.specs.declared.kept.KeptNode.{KeptNode}
use Rattle.lift_project.specs.Lifts.{shapes_of, shape_of}
use Rattle.lift_project.specs.Marks.{IsMarked, MarksKids}
use Rattle.lift_project.proofs.MarkLemmas.{number_below, kept_shape, kids_within, AreReachedDown, down_more, down_skipped}
use Rattle.lift_project.proofs.reached.reached.Goals as goal
use Rattle.lift_project.proofs.reached.reached.Goals.{then-index, else-index}

pub mark_kids-requires : goal.mark_kids-requires
mark_kids-requires c =
    let kept = c.args.kept.now in
    let n = c.loop-n.n in
    let below = number_below kept.arities (shapes_of kept) (length kept.nodes) 0 c.args.node c.requires.number in
    let inside : n - 2 < length kept.nodes = let low = c.loop-n.invariant.low in let high = c.loop-n-test.true in omega arith in
    let kids = c.as_slice-then-index.ensures.items ∙ ap (λ (nodes : List KeptNode). (get_or nodes (n - 2) c.index-as_slice-at.result).kids) c.as_slice.ensures.items in
    let room : n ≤ length c.deref_mut.result.now = let low = c.loop-n.invariant.low in let size = c.loop-n.invariant.size in let e = ap (λ (ms : List Bool). length ms) c.deref_mut.ensures.value in omega arith in
    λ k d low.
    kids_within kept.arities (shapes_of kept) c.requires.nodes (n - 2) _ (kept_shape kept.nodes (n - 2) c.index-as_slice-at.result inside) n (length c.deref_mut.result.now) (omega arith) room c.as_slice-then-index.result.now kids k d low

pub loop-n-preserved : goal.loop-n-preserved
loop-n-preserved c = elim c.if-index.branch [
  | then-index w ↦
      let kept = c.args.kept.now in
      let n = c.loop-n.n in
      let marks = c.loop-n.marks.items in
      let below = number_below kept.arities (shapes_of kept) (length kept.nodes) 0 c.args.node c.requires.number in
      let inside : n - 2 < length kept.nodes = let low = c.loop-n.invariant.low in let high = c.loop-n-test.true in omega arith in
      let shape = shape_of (get_or kept.nodes (n - 2) w.index-as_slice-at.result) in
      let kids : w.as_slice-then-index.result.now ≡ shape.kids = w.as_slice-then-index.ensures.items ∙ ap (λ (nodes : List KeptNode). (get_or nodes (n - 2) w.index-as_slice-at.result).kids) w.as_slice.ensures.items in
      let more = subst (λ (ks : List ℕ). MarksKids ks marks w.mark_kids.new.marks) kids (subst (λ (ms : List Bool). MarksKids w.as_slice-then-index.result.now ms w.mark_kids.new.marks) w.deref_mut.ensures.value w.mark_kids.ensures) in
      let room : n < length marks = let low = c.loop-n.invariant.low in let size = c.loop-n.invariant.size in omega arith in
      let here : IsMarked marks n = slice_get-get_or marks n c.index.result.now room ∙ ap (λ (b : Bool). Some b) (sym c.index.ensures ∙ w.if-index.true) in
      let down = down_more kept.arities (shapes_of kept) c.args.node n c.requires.nodes shape marks w.mark_kids.new.marks c.loop-n-test.true (kept_shape kept.nodes (n - 2) w.index-as_slice-at.result inside) more here c.loop-n.invariant in
      subst (AreReachedDown (shapes_of kept) c.args.node (n - 1)) (sym (ap (λ v. v.items) w.marks-is ∙ with_items_is c.loop-n.marks w.mark_kids.new.marks (w.mark_kids.ensures.size ∙ w.deref_mut.ensures.len))) down
  | else-index w ↦
      let kept = c.args.kept.now in
      let n = c.loop-n.n in
      let marks = c.loop-n.marks.items in
      let room : n < length marks = let low = c.loop-n.invariant.low in let size = c.loop-n.invariant.size in omega arith in
      let none = λ (is : IsMarked marks n). false≢true (sym w.if-index.false ∙ c.index.ensures ∙ same_Some _ _ (sym (slice_get-get_or marks n c.index.result.now room) ∙ is)) in
      let down = down_skipped kept.arities (shapes_of kept) c.args.node n marks none c.loop-n.invariant in
      subst (AreReachedDown (shapes_of kept) c.args.node (n - 1)) (sym (ap (λ v. v.items) w.marks-is)) down
]
