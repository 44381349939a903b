use Rattle.state_meets.proofs.Meetings.{disjoint_first, disjoint_second}
use Rattle.state_meets.proofs.commons.is_dead.Goals as goal

pub returns-then-at-eq0 : goal.returns-then-at-eq0
returns-then-at-eq0 c true_is = disjoint_first c.args.first.now c.args.second.now c.args.begins c.args.at c.if-at-eq0.true

pub returns-then-at-eq0-2 : goal.returns-then-at-eq0-2
returns-then-at-eq0-2 c true_is = disjoint_second c.args.first.now c.args.second.now c.args.begins c.args.at c.if-at-eq0-2.true
