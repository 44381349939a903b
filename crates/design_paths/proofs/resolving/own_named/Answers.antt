use Rattle.std.proofs.Common.{sym, ◌∙◌}
use Rattle.design_paths.proofs.HereLemmas.{own_from, path_there, port_found, port_here}
use Rattle.design_paths.proofs.resolving.own_named.Goals as goal

pub returns-in-Some : goal.returns-in-Some
returns-in-Some c =
    let d = c.args.design.now in
    let inst = c.args.inst in
    let name = c.args.name.now in
    let port = c.in-Some.port in
    let found = port_found d inst name port (sym c.port_named.ensures ∙ c.in-Some.is) in
    let path = path_there d inst c.requires in
    port_here d inst path.0 path.1 name port found.0 found.1 found.2

pub returns-in-None : goal.returns-in-None
returns-in-None c = own_from c.args.design.now c.args.inst c.args.name.now (sym c.port_named.ensures ∙ c.in-None.is) c.own_bit.result c.own_bit.ensures
