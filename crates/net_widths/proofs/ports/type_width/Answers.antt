use Rattle.std.proofs.Common.{sym, ap, ◌∙◌}
use Rattle.net_widths.specs.Ports.{width_of_port}
use Rattle.net_widths.proofs.ports.type_width.Goals as goal

pub returns-in-Some : goal.returns-in-Some
returns-in-Some c = λ s i conn seen kind named.
    c.port_width.ensures s i.kind conn.port seen (sym kind ∙ c.in-Some.is) named ∙ ap (λ t. width_of_port s t conn.port) (sym c.in-Some.is ∙ kind)

pub returns-in-None : goal.returns-in-None
returns-in-None c = λ s i conn seen kind named. ap (λ t. width_of_port s t conn.port) (sym c.in-None.is ∙ kind)
