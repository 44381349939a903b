use Rattle.std.proofs.Common.{◌≡◌, map, take}
use Rattle.std.specs.List.{filter_map}
use Rattle.net_text.specs.DeclarationViews.{declaration_view}
use Rattle.net_modules.specs.Drafts.{with_ports}
use Rattle.net_modules.specs.SaidTables.{port_by}
use Rattle.net_modules.proofs.contents.add_ports.Given as goal

abbrev pub invariant-loop-declaration : goal.invariant-loop-declaration
invariant-loop-declaration l = l.builder ≡ with_ports l.initial.builder (filter_map (port_by l.ports) (map declaration_view (take l.declaration-index l.all)))
