use Rattle.std.proofs.Common.{map}
use Rattle.std.proofs.lemmas.Option.{MatchOption-at_some}
use Rattle.upf_sign.proofs.Meant.{answered}
use Rattle.upf_sign.proofs.answers.sign_off.Goals as goal

pub judge-requires-clause-sound : goal.judge-requires-clause-sound
judge-requires-clause-sound c =
    let loaded = MatchOption-at_some _ _ c.in-Some.loaded c.in-Some.is c.in_ok-loaded.ensures in
    c.intents_are_sound.ensures loaded.instances loaded.intent.commands (map (λ inst. inst.parent) c.in-Some.loaded.design.insts) c.in-Some.loaded.intent loaded.intent.fits loaded.intent.intent

pub returns-in-Some : goal.returns-in-Some
returns-in-Some c =
    answered c.args.library.now c.args.netlist.now c.args.script.now c.args.top.now c.in-Some.loaded.design c.in-Some.loaded.intent c.judge.result
    (MatchOption-at_some _ _ c.in-Some.loaded c.in-Some.is c.in_ok-loaded.ensures) c.judge.ensures
