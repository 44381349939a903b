use Rattle.std.proofs.Common.{◌∙◌, arith, rules}
use Rattle.state_lists.proofs.Numbering.{splits_at, state_all, state_more}
use Rattle.state_lists.proofs.listing.state_at.Goals as goal

pub bounds-list-rest : goal.bounds-list-rest
bounds-list-rest c =
    let inv = c.loop-list.invariant in
    let s = splits_at c.args.lists.now c.loop-list.list-index c.as_slice-list.result.now c.loop-list.block c.loop-list.rest (omega arith) (cc) inv.block inv.within in
    rw s.left s.place

pub loop-list-preserved : goal.loop-list-preserved
loop-list-preserved c =
    let inv = c.loop-list.invariant in
    let i = c.loop-list.list-index in
    let lists = c.args.lists.now in
    let values = c.as_slice-list.result.now in
    let s = splits_at lists i values c.loop-list.block c.loop-list.rest (omega arith) (cc) inv.block inv.within in
    record {
      count = search rules;
      block = s.left;
      within = rw s.left s.within;
      value = rw c.in_ok-push.ensures.items (state_more lists i values c.loop-list.block c.loop-list.rest (omega arith) (cc) s c.loop-list.values.items ∙ inv.value);
    }

pub returns-clause-value : goal.returns-clause-value
returns-clause-value c =
    let inv = c.loop-list.invariant in
    let done = state_all c.args.lists.now c.loop-list.list-index c.loop-list.block c.loop-list.rest c.loop-list-test.false inv.block inv.within c.loop-list.values.items ∙ inv.value in
    search rules
