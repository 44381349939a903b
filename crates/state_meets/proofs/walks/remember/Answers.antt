use Rattle.state_meets.proofs.Remembering.{IsMemo_after}
use Rattle.state_meets.proofs.walks.remember.Goals as goal

pub returns-in_err-insert : goal.returns-in_err-insert
returns-in_err-insert c d which begun was right =
    IsMemo_after which begun c.insert.result d c.args.memo.now c.insert.new.self c.args.tuple c.args.n c.insert.ensures.updates c.insert.ensures.err was right

pub returns : goal.returns
returns c d which begun was right =
    IsMemo_after which begun c.insert.result d c.args.memo.now c.insert.new.self c.args.tuple c.args.n c.insert.ensures.updates c.insert.ensures.err was right
