use Rattle.upf_sign.proofs.Sound.{lists_rise, conds_speak}
use Rattle.upf_sign.proofs.judging.judge.Goals as goal

pub check-requires-clause-rising : goal.check-requires-clause-rising
check-requires-clause-rising c = lists_rise c.args.intent.now c.requires.sound

pub check-requires-clause-speaks : goal.check-requires-clause-speaks
check-requires-clause-speaks c = conds_speak c.args.intent.now c.requires.sound
