use Rattle.form_design.proofs.OverLemmas.{over_is, value_at}
use Rattle.form_design.proofs.design.named_design.Goals as goal

pub returns-in_ok-design_with-in-Some : goal.returns-in_ok-design_with-in-Some
returns-in_ok-design_with-in-Some c =
    over_is c.args.lines.now c.args.modules.now c.args.top c.args.hierarchy.helds.items c.args.hierarchy.bits.items c.in_ok-design_with-in-Some.field-0 c.in-Some.instances
    c.requires.held c.in_ok-design_with-in-Some.ensures (value_at _ c.in-Some.instances c.in-Some.is c.in_ok-instances.ensures)
