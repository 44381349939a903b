use Rattle.std.proofs.Common.{◌≡◌, ◌<◌, ◌+◌, ◌-◌, ℕ, List, [], ◌∷◌, ◌++◌, map, set, take, get_or, replicate, length, sym, ap, ◌∙◌, subst, arith}
use Rattle.std.specs.Vec.{with_items}
use Rattle.std.proofs.lemmas.List.{with_items_is, length-map, length-replicate, take_more, take_all}
use Rattle.diagram_defs.specs.declared.locals.Local.{Local}
use Rattle.state_meets.specs.Gathered.{padded}
use Rattle.state_meets.specs.Planned.{IsSpread}
use Rattle.state_meets.proofs.Padding.{padded_none, padded_put}
use Rattle.state_meets.proofs.Spreading.{IsSpread_none, IsSpread_more}
use Rattle.state_meets.proofs.plans.spread.Goals as goal

pub loop-local-init : goal.loop-local-init
loop-local-init c =
    let row = c.args.row in
    let all = c.in_ok-begun.ensures in
    let levels : row.before + (row.count + row.behind) ≡ length c.args.pool.now.arities + 1 = let s = c.requires.size in omega arith in
    record {
      size = sym (length-map c.in_ok-begun.begun.items (λ numbers. numbers.items)) ∙ ap length all ∙ length-replicate {A = List ℕ} row.count [];
      spread = IsSpread_none c.args.pool.now _ (ap (λ (ls : List (List ℕ)). padded row.before ls row.behind) all ∙ padded_none row.before row.count row.behind ∙ ap (λ (n : ℕ). replicate n []) levels);
    }

pub overflow_sub-local : goal.overflow_sub-local
overflow_sub-local c =
    let none : Local = record { level = 0; number = 0 } in
    (c.requires.within c.loop-local.local-index none c.loop-local-test.true).0

pub put_in-requires : goal.put_in-requires
put_in-requires c =
    let none : Local = record { level = 0; number = 0 } in
    let is = c.requires.within c.loop-local.local-index none c.loop-local-test.true in
    let low = is.0 in
    let high = is.1 in
    let size = c.loop-local.invariant.size in
    let same = ap length c.as_mut_slice.ensures.value in
    omega arith

pub loop-local-preserved : goal.loop-local-preserved
loop-local-preserved c =
    let d = c.args.pool.now in
    let row = c.args.row in
    let none : Local = record { level = 0; number = 0 } in
    let local = get_or c.args.sets.now c.loop-local.local-index none in
    let is = c.requires.locals c.loop-local.local-index none c.loop-local-test.true in
    let within = c.requires.within c.loop-local.local-index none c.loop-local-test.true in
    let begun = c.loop-local.begun in
    let size = c.loop-local.invariant.size in
    let kept : length c.put_in.new.begun ≡ begun.len = let e = c.in_ok-put_in.ensures.size in let f = ap length c.as_mut_slice.ensures.value in let o = begun.ok.0 in omega arith in
    let lists : List (List ℕ) = map (λ numbers. numbers.items) begun.items in
    let wide = length-map begun.items (λ numbers. numbers.items) in
    let at = local.level - row.before in
    let inside : local.level - row.before < length lists = let low = within.0 in let high = within.1 in omega arith in
    let read = ap (λ vs. map (λ numbers. numbers.items) vs) c.as_mut_slice.ensures.value in
    let put = ap (λ vs. map (λ numbers. numbers.items) vs) (with_items_is begun c.put_in.new.begun kept) ∙ c.in_ok-put_in.ensures.put
    ∙ ap (λ (ls : List (List ℕ)). set ls at (get_or ls at [] ++ local.number ∷ [])) read in
    let padded_is = ap (λ (ls : List (List ℕ)). padded row.before ls row.behind) put ∙ padded_put row.before lists row.behind local.level local.number within.0 inside in
    let more = IsSpread_more d (take c.loop-local.local-index c.args.sets.now) (padded row.before lists row.behind) _ local is padded_is c.loop-local.invariant.spread in
    record {
      size = ap length (with_items_is begun c.put_in.new.begun kept) ∙ c.in_ok-put_in.ensures.size ∙ ap length c.as_mut_slice.ensures.value ∙ size;
      spread = subst (λ (ls : List Local). IsSpread d ls (padded row.before (map (λ numbers. numbers.items) (with_items begun c.put_in.new.begun).items) row.behind)) (sym (take_more c.args.sets.now c.loop-local.local-index none c.loop-local-test.true)) more;
    }

pub returns : goal.returns
returns c =
    let last = c.loop-local-test.false in
    subst (λ (ls : List Local). IsSpread c.args.pool.now ls (padded c.args.row.before (map (λ numbers. numbers.items) c.loop-local.begun.items) c.args.row.behind)) (take_all c.loop-local.local-index c.args.sets.now (omega arith)) c.loop-local.invariant.spread
