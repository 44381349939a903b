use Rattle.upf_sign.proofs.Meant.{design_read}
use Rattle.upf_sign.proofs.loading.read_design.Goals as goal

pub returns-in-Some-2 : goal.returns-in-Some-2
returns-in-Some-2 c =
    design_read c.args.library.now c.args.netlist.now c.args.top.now c.in-Some.library c.in-Some-2.modules c.in_ok-library.field-0 c.in_ok-modules.field-0 c.design_of.result
    c.in_ok-library.ensures c.in-Some.is c.in_ok-modules.ensures c.in-Some-2.is c.design_of.ensures
