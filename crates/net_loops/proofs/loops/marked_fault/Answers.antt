use Rattle.std.proofs.Common.{subst}
use Rattle.net_loops.specs.Lines.{IsFirstOfAll}
use Rattle.net_loops.proofs.LoopFaults.{first_loop, no_loop}
use Rattle.net_loops.proofs.loops.marked_fault.Goals as goal

pub returns-in_ok-at-in-Some : goal.returns-in_ok-at-in-Some
returns-in_ok-at-in-Some c s spots feeds ready sources least =
    let p = c.args.placed.now in
    let first = subst (IsFirstOfAll p c.args.links.now c.args.inner.now c.args.marks.now) c.in-Some.is c.in_ok-inst.ensures in
    first_loop s p ready.placed ready.read ready.early spots ready.all c.args.inner.now sources c.args.links.now ready.local c.args.marks.now least c.in-Some.inst c.in-Some.first first
    c.in_ok-at-in-Some.at c.in_ok-at-in-Some.ensures

pub returns-in-None : goal.returns-in-None
returns-in-None c s spots feeds ready sources least =
    let p = c.args.placed.now in
    no_loop s p ready.placed ready.read ready.early spots ready.all c.args.inner.now sources c.args.links.now ready.local c.args.marks.now least
    (subst (IsFirstOfAll p c.args.links.now c.args.inner.now c.args.marks.now) c.in-None.is c.in_ok-inst.ensures)
