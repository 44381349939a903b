use Rattle.std.proofs.Common.{◌≡◌, ◌++◌, map, drop}
use Rattle.net_text.specs.SecondDeclarations.{shaped_ports}
use Rattle.net_text.specs.ParserViews.{shape_view}
use Rattle.net_text.specs.HeaderViews.{port_view}
use Rattle.net_text.specs.DeclarationViews.{declaration_view}
use Rattle.net_text.proofs.declarations.add_ports.Given as goal

-- what was added and the ports that are left are all
abbrev pub invariant-loop-port : goal.invariant-loop-port
invariant-loop-port l = map declaration_view l.all ++ shaped_ports (shape_view l.shape) (map port_view (drop l.port-index l.ports))
    ≡ map declaration_view l.fn.all ++ shaped_ports (shape_view l.fn.shape) (map port_view l.ports)
