use Rattle.std.proofs.Common.{filter, map, take}
use Rattle.net_text.specs.DeclarationViews.{declaration_view}
use Rattle.net_modules.specs.Sayings.{says_port}
use Rattle.net_modules.specs.SaidTables.{IsTableOf}
use Rattle.net_modules.proofs.tables.ports_of.Given as goal

abbrev pub invariant-loop-declaration : goal.invariant-loop-declaration
invariant-loop-declaration l = IsTableOf l.table (filter says_port (map declaration_view (take l.declaration-index l.all)))
