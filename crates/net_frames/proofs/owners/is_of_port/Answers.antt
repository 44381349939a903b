use Rattle.std.proofs.Common.{ap}
use Rattle.std.proofs.lemmas.Bool.{eqb-true}
use Rattle.design_rows.specs.View.{port_in}
use Rattle.net_frames.proofs.owners.is_of_port.Goals as goal

pub returns-in-Port : goal.returns-in-Port
returns-in-Port c is owner =
    (record { inst = owner; port = c.in-Port.own; place = c.in-Port.place }, ap (port_in owner) c.in-Port.is, eqb-true c.in-Port.own c.args.port is)
