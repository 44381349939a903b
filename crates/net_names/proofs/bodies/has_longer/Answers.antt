use Rattle.net_names.proofs.bodies.has_longer.Goals as goal

pub returns-else-has_longer_inst-clause-insts : goal.returns-else-has_longer_inst-clause-insts
returns-else-has_longer_inst-clause-insts c none = c.has_longer_inst.ensures c.if-has_longer_inst.false

pub returns-else-has_longer_inst-clause-ports : goal.returns-else-has_longer_inst-clause-ports
returns-else-has_longer_inst-clause-ports c none = c.has_longer_port.ensures none
