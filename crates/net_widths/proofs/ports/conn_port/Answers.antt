use Rattle.std.proofs.Common.{◌≡◌, [], ◌∷◌, Some, None, sym, ap, ◌∙◌}
use Rattle.net_widths.specs.Refusals.{at_one_line, without_port}
use Rattle.design_defs.specs.Hierarchy.{type_of}
use Rattle.design_defs.specs.Links.{port_of_conn}
use Rattle.net_widths.proofs.Finding.{finds_none}
use Rattle.net_widths.proofs.PortLemmas.{without_port_by}
use Rattle.net_widths.proofs.ports.conn_port.Goals as goal

pub returns-in-Some : goal.returns-in-Some
returns-in-Some c = λ s i conn seen kind line named.
    let type : type_of s i.kind ≡ Some c.in-Some.body = sym kind ∙ c.in-Some.is in
    let width = c.port_width-width.ensures s i.kind conn.port seen type named in
    without_port_by s i conn c.args.spellings.now.modules.now.symbols c.args.line c.in-Some.body c.port_width-width.result c.args.best c.refuse_unless.result type width line
    (c.refuse_unless.ensures (conn.port ∷ []) named)

pub returns-in-None : goal.returns-in-None
returns-in-None c = λ s i conn seen kind line named.
    let type : type_of s i.kind ≡ None = sym kind ∙ c.in-None.is in
    finds_none c.args.spellings.now.modules.now.symbols c.args.best _ (ap (λ t. at_one_line i.line (without_port conn t (port_of_conn s i conn))) type)
