use Rattle.std.proofs.Common.{◌≡◌, ◌<◌, ℕ, length, List, take, get_or, ◌++◌, ◌∷◌, [], sym, ◌∙◌, subst}
use Rattle.std.proofs.lemmas.List.{take_all, take_more}
use Rattle.std.proofs.lemmas.Option.{slice_get-get_or}
use Rattle.list_defs.specs.Members.{IsIn}
use Rattle.list_defs.proofs.Members.{IsIn-slice_get}
use Rattle.net_rings.specs.Fed.{IsFedBy, sources_of}
use Rattle.net_rings.specs.Search.{IsLookedAt, IsLooking}
use Rattle.net_rings.proofs.SearchLemmas.{looking_ended}
use Rattle.net_rings.proofs.searches.look.Goals as goal

-- a source of a bit feeds it
feeding : (sources : List (List ℕ)) (bit i : ℕ) (row : List ℕ) → row ≡ get_or sources bit [] → (within : i < length row) → IsFedBy sources bit (get_or row i 0)
feeding sources bit i row is within = subst (IsIn (get_or row i 0)) is (IsIn-slice_get row i (get_or row i 0) (slice_get-get_or row i 0 within))

pub returns-then-branch-clause-looked : goal.returns-then-branch-clause-looked
returns-then-branch-clause-looked c done searched here =
    let items = c.sources_at-source-items.result.now in
    let i = c.loop-source.source-index in
    let at = c.in_ok-look_at.ensures.at c.args.bit done (take i items)
    (feeding (sources_of c.args.rows.now) c.args.bit i items c.sources_at-source-items.ensures c.loop-source-test.true)
    (c.loop-source.invariant.looking done searched here) in
    subst (IsLookedAt c.args.rows.now c.args.from c.args.mark c.args.bit c.look_at.new.marks c.look_at.new.row.items (take i items ++ get_or items i 0 ∷ []) done)
    c.if-branch.true at

pub loop-source-preserved : goal.loop-source-preserved
loop-source-preserved c = record {
  below = c.look_at.ensures.below;
  looking = λ done searched here.
      let at = c.in_ok-look_at.ensures.at c.args.bit done (take i items)
      (feeding (sources_of c.args.rows.now) c.args.bit i items c.sources_at-source-items.ensures c.loop-source-test.true)
      (c.loop-source.invariant.looking done searched here) in
      let looking : IsLooking c.args.rows.now c.args.from c.args.mark c.args.bit c.look_at.new.marks c.look_at.new.row.items (take i items ++ get_or items i 0 ∷ []) done =
      subst (IsLookedAt c.args.rows.now c.args.from c.args.mark c.args.bit c.look_at.new.marks c.look_at.new.row.items (take i items ++ get_or items i 0 ∷ []) done)
      c.if-branch.false at in
      subst (λ seen. IsLooking c.args.rows.now c.args.from c.args.mark c.args.bit c.look_at.new.marks c.look_at.new.row.items seen done)
      (sym (take_more items i 0 c.loop-source-test.true)) looking;
}
  where
    items : List ℕ
    items = c.sources_at-source-items.result.now

    i : ℕ
    i = c.loop-source.source-index

pub returns-clause-looked : goal.returns-clause-looked
returns-clause-looked c done searched here =
    let items = c.sources_at-source-items.result.now in
    looking_ended c.args.rows.now c.args.from c.args.mark c.loop-source.marks c.loop-source.row.items done c.args.bit (take c.loop-source.source-index items)
    (take_all c.loop-source.source-index items c.loop-source-test.false ∙ c.sources_at-source-items.ensures)
    (c.loop-source.invariant.looking done searched here)
