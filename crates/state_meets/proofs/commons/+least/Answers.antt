use Rattle.std.proofs.Common.{ℕ, reverse, subst, sym, arith}
use Rattle.std.proofs.lemmas.Option.{MatchOption-at_some}
use Rattle.diagram_defs.specs.Diagrams.{IsSet}
use Rattle.state_meets.specs.Common.{AreDisjoint, IsLeastRest}
use Rattle.state_meets.proofs.Meetings.{disjoint_behind, least_more}
use Rattle.state_meets.proofs.commons.+least.Goals as goal

pub least_behind-least-requires : goal.least_behind-least-requires
least_behind-least-requires t c =
    let down = c.behind-next.ensures.level_is in
    let number = subst (λ (l : ℕ). IsSet c.args.first.now l c.behind-next.result.first) (sym down) c.behind-next.ensures.number in
    (omega arith, (omega arith, (number, c.loop-v.invariant.dead)))

pub least_behind-returns-in-Some-clause-found : goal.least_behind-returns-in-Some-clause-found
least_behind-returns-in-Some-clause-found t c =
    let first = c.args.first.now in
    let second = c.args.second.now in
    let begins = c.args.begins in
    let next = c.behind-next.result in
    let further : IsLeastRest first second begins next (reverse c.in-Some.back.items) = MatchOption-at_some (AreDisjoint first second begins next) (λ back. IsLeastRest first second begins next (reverse back.items)) c.in-Some.back c.in-Some.is c.in_ok-found.ensures.found in
    let here = least_more first second begins c.args.at c.requires.level_in c.requires.number c.loop-v.v next (reverse c.in-Some.back.items) c.behind-next.ensures c.loop-v.invariant.none further in
    subst (IsLeastRest first second begins c.args.at) (sym c.in_ok-with_value.ensures) here

pub least_behind-returns-clause-found : goal.least_behind-returns-clause-found
least_behind-returns-clause-found t c =
    let end = c.loop-v.invariant.end in
    disjoint_behind c.args.first.now c.args.second.now c.args.begins c.args.at c.allocator-alloc.ensures c.requires.level_in c.requires.number (λ v low. c.loop-v.invariant.none v (let past = c.loop-v-test.false in omega arith))
