use Rattle.std.proofs.lemmas.Option.{MatchOption-at_none}
use Rattle.upf_sign.proofs.Meant.{no_design, no_intent}
use Rattle.upf_sign.proofs.loading.load.Goals as goal

pub returns-in-None-2 : goal.returns-in-None-2
returns-in-None-2 c =
    no_intent c.args.library.now c.args.netlist.now c.args.script.now c.args.top.now c.in_ok-form.field-0 c.in-Some.form c.in_ok-form.ensures c.in-Some.is
    (MatchOption-at_none _ _ c.in-None-2.is c.in_ok-intent-in-Some.ensures)

pub returns-in-None : goal.returns-in-None
returns-in-None c = no_design c.args.library.now c.args.netlist.now c.args.script.now c.args.top.now c.in_ok-form.field-0 c.in_ok-form.ensures c.in-None.is
