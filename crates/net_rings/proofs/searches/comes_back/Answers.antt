use Rattle.std.proofs.Common.{◌≡◌, ◌≤◌, ◌+◌, length, get_or, Some, [], ◌∷◌, sym, ◌∙◌, subst, ap, rules, arith}
use Rattle.std.specs.List.{slice_get}
use Rattle.std.proofs.lemmas.Option.{slice_get-get_or}
use Rattle.net_rings.specs.Search.{IsLooked, IsSearch}
use Rattle.net_rings.proofs.SearchLemmas.{search_begun, search_ended}
use Rattle.net_rings.proofs.searches.comes_back.Goals as goal

pub returns-then-done-len-clause-back : goal.returns-then-done-len-clause-back
returns-then-done-len-clause-back c =
    let all : length c.loop-done.row.items ≤ c.loop-done.done = search rules in (
      λ never. cc,
      λ ring. absurd (search_ended c.args.rows.now c.args.from c.args.mark c.loop-done.marks c.loop-done.row.items c.loop-done.done c.loop-done.invariant.search all ring),
    )

pub loop-done-init : goal.loop-done-init
loop-done-init c = record {
  below = λ n m is. let below = c.requires.below n m is in omega (arith, below);
  search = subst (λ row. IsSearch c.args.rows.now c.args.from c.args.mark c.args.marks.now row 0) (sym alone)
      (search_begun c.args.rows.now c.args.from c.args.mark c.args.marks.now (c.args.from ∷ []) (λ n is. let below = c.requires.below n c.args.mark is in absurd (omega (arith, below))));
}
  where
    alone : c.push.new.self.items ≡ c.args.from ∷ []
    alone = search rules

pub loop-done-preserved : goal.loop-done-preserved
loop-done-preserved c = record {
  below = c.look.ensures.below;
  search = subst (IsLooked c.args.rows.now c.args.from c.args.mark c.look.new.marks c.look.new.row.items (c.loop-done.done + 1)) c.if-branch.false
      (c.in_ok-look.ensures.looked c.loop-done.done c.loop-done.invariant.search here);
}
  where
    here : slice_get c.loop-done.row.items c.loop-done.done ≡ Some (get_or c.as_slice.result.now c.loop-done.done 0)
    here = ap (λ xs. slice_get xs c.loop-done.done) (sym c.as_slice.ensures.value) ∙ slice_get-get_or c.as_slice.result.now c.loop-done.done 0 (search rules)

pub returns-then-branch-clause-back : goal.returns-then-branch-clause-back
returns-then-branch-clause-back c =
    let ring = subst (IsLooked c.args.rows.now c.args.from c.args.mark c.look.new.marks c.look.new.row.items (c.loop-done.done + 1)) c.if-branch.true
    (c.in_ok-look.ensures.looked c.loop-done.done c.loop-done.invariant.search here) in
    (λ _. ring, λ _. search rules)
  where
    here : slice_get c.loop-done.row.items c.loop-done.done ≡ Some (get_or c.as_slice.result.now c.loop-done.done 0)
    here = ap (λ xs. slice_get xs c.loop-done.done) (sym c.as_slice.ensures.value) ∙ slice_get-get_or c.as_slice.result.now c.loop-done.done 0 (search rules)
