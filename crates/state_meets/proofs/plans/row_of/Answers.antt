use Rattle.std.proofs.Common.{◌≤◌, ◌<◌, ◌+◌, ◌-◌, List, take, length, get_or, sym, subst, arith}
use Rattle.std.proofs.lemmas.List.{take_more, take_all}
use Rattle.std.proofs.lemmas.List.Elements.{All-push, All-weaker}
use Rattle.diagram_defs.specs.declared.locals.Local.{Local}
use Rattle.diagram_defs.proofs.Meaning.{level_of_one}
use Rattle.state_meets.specs.Planned.{AreWithin}
use Rattle.state_meets.proofs.plans.row_of.Goals as goal

pub loop-local-init : goal.loop-local-init
loop-local-init c =
    let levels = level_of_one c.args.pool.now c.level-levels.result c.level-levels.ensures in
    record { low = omega arith; high = omega arith; within = λ k d low. absurd (omega arith) }

pub loop-local-preserved : goal.loop-local-preserved
loop-local-preserved c =
    let none : Local = record { level = 0; number = 0 } in
    let local = get_or c.args.sets.now c.loop-local.local-index none in
    let fits = (c.requires c.loop-local.local-index none c.loop-local-test.true).level_in in
    let first = c.loop-local.first in
    let last = c.loop-local.last in
    let lower : c.min-first.result ≤ first = let e = c.min-first.ensures in omega arith in
    let under : c.min-first.result ≤ local.level = let e = c.min-first.ensures in omega arith in
    let low = c.loop-local.invariant.low in
    let above = c.greater-last.ensures.first in
    let over = c.greater-last.ensures.second in
    let Old : Local → Type 0 = λ s. (first ≤ s.level) × (s.level < last + 1) in
    let New : Local → Type 0 = λ s. (c.min-first.result ≤ s.level) × (s.level < c.greater-last.result + 1) in
    let before = All-weaker Old New (λ s is. let from = is.0 in let to = is.1 in (omega arith, omega arith)) (take c.loop-local.local-index c.args.sets.now) c.loop-local.invariant.within in
    let all = All-push New (take c.loop-local.local-index c.args.sets.now) local before (under, omega arith) in
    record {
      low = omega arith;
      high = c.greater-last.ensures.least (length c.args.pool.now.arities) c.loop-local.invariant.high fits;
      within = subst (λ (ls : List Local). AreWithin c.min-first.result (c.greater-last.result + 1) ls) (sym (take_more c.args.sets.now c.loop-local.local-index none c.loop-local-test.true)) all;
    }

pub overflow_add-past : goal.overflow_add-past
overflow_add-past c =
    let pool = c.allocator-alloc.ensures.arities.levels in
    let high = c.greater-past.ensures.least (length c.args.pool.now.arities) c.loop-local.invariant.high c.loop-local.invariant.low in
    omega arith

pub overflow_sub-result-2 : goal.overflow_sub-result-2
overflow_sub-result-2 c =
    let levels = level_of_one c.args.pool.now c.level-levels.result c.level-levels.ensures in
    let high = c.greater-past.ensures.least (length c.args.pool.now.arities) c.loop-local.invariant.high c.loop-local.invariant.low in
    omega arith

pub returns-clause-size : goal.returns-clause-size
returns-clause-size c =
    let levels = level_of_one c.args.pool.now c.level-levels.result c.level-levels.ensures in
    let high = c.greater-past.ensures.least (length c.args.pool.now.arities) c.loop-local.invariant.high c.loop-local.invariant.low in
    let over = c.greater-past.ensures.second in
    omega arith

pub returns-clause-low : goal.returns-clause-low
returns-clause-low c = c.loop-local.invariant.low

pub returns-clause-within : goal.returns-clause-within
returns-clause-within c =
    let first = c.loop-local.first in
    let last = c.loop-local.last in
    let over = c.greater-past.ensures.second in
    let above = c.greater-past.ensures.first in
    let end = c.loop-local-test.false in
    let all = subst (λ (ls : List Local). AreWithin first (last + 1) ls) (take_all c.loop-local.local-index c.args.sets.now (omega arith)) c.loop-local.invariant.within in
    let Old : Local → Type 0 = λ s. (first ≤ s.level) × (s.level < last + 1) in
    let New : Local → Type 0 = λ s. (first ≤ s.level) × (s.level < first + (c.greater-past.result + 1 - first)) in
    All-weaker Old New (λ s is. let from = is.0 in let to = is.1 in (from, omega arith)) c.args.sets.now all
