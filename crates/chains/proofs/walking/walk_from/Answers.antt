use Rattle.std.proofs.Common.{◌∷◌, [], arith, get_or, sym}
use Rattle.std.proofs.lemmas.List.{length_push}
use Rattle.design_defs.specs.Walks.{IsWalk}
use Rattle.design_defs.proofs.Walking.{next_is_bit}
use Rattle.chains.proofs.Steps.{feeder_read, leads_on, no_further}
use Rattle.chains.proofs.walking.walk_from.Goals as goal

pub returns-in-None-clause-walk : goal.returns-in-None-clause-walk
returns-in-None-clause-walk c =
    let bits = c.args.bits.now in
    let bit = c.index-bits-at.result in
    let at = c.loop.at in
    let read = feeder_read bits at bit c.loop.invariant.within in
    rw c.in_ok-push.ensures.ok (c.loop.invariant.walk (at ∷ []) (get_or bits at bit).feeder (IsWalk.ends at (get_or bits at bit).feeder read (sym c.in-None.ensures)))

pub loop-preserved : goal.loop-preserved
loop-preserved c =
    let bits = c.args.bits.now in
    let bit = c.index-bits-at.result in
    let at = c.loop.at in
    let next = c.in-Some.next in
    let read = feeder_read bits at bit c.loop.invariant.within in
    record {
      within = next_is_bit bits c.requires.ends at next (get_or bits at bit).feeder read (sym c.in-Some.ensures);
      count = rw c.in_ok-push.ensures.ok (omega (arith, length_push c.loop.passed at));
      walk = rw c.in_ok-push.ensures.ok (leads_on bits c.args.start c.loop.passed at next (get_or bits at bit).feeder read (sym c.in-Some.ensures) c.loop.invariant.walk);
    }

pub unreachable-requires : goal.unreachable-requires
unreachable-requires c =
    let inv = c.loop.invariant in
    no_further c.args.bits.now c.args.start c.loop.passed c.loop.at c.requires.ends inv.within inv.walk (omega arith)
