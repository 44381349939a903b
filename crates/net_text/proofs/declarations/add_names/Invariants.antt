use Rattle.std.proofs.Common.{◌≡◌, ◌++◌, map, drop}
use Rattle.net_text.specs.CommaLists.{named_view}
use Rattle.net_text.specs.DeclarationViews.{declaration_view, declared_as}
use Rattle.net_text.proofs.declarations.add_names.Given as goal

-- what was added and what the names that are left declare are all
abbrev pub invariant-loop-name : goal.invariant-loop-name
invariant-loop-name l = map declaration_view l.all ++ map (declared_as l.kind) (map named_view (drop l.name-index l.names))
    ≡ map declaration_view l.fn.all ++ map (declared_as l.kind) (map named_view l.names)
