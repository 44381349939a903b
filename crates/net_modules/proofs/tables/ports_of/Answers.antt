use Rattle.std.proofs.Common.{List, filter, get_or, map, take, refl, subst, sym}
use Rattle.std.proofs.lemmas.List.{take_all}
use Rattle.net_text.specs.DeclarationViews.{declaration_view}
use Rattle.net_text.specs.SecondDeclarations.{Declaration}
use Rattle.net_text.specs.declared.declarations.DeclarationAt.{DeclarationAt}
use Rattle.net_modules.specs.Sayings.{says_port}
use Rattle.net_modules.specs.SaidTables.{IsTableOf}
use Rattle.net_modules.proofs.PlaceLaws.{no_declaration, seen_push}
use Rattle.net_modules.proofs.tables.ports_of.Goals as goal

pub loop-declaration-preserved : goal.loop-declaration-preserved
loop-declaration-preserved c =
    let xs = c.args.all.now in
    let i = c.loop-declaration.declaration-index in
    subst (λ (l : List Declaration). IsTableOf c.add_port.new.self (filter says_port l))
    (sym (seen_push declaration_view xs i (get_or xs i no_declaration) no_declaration c.loop-declaration-test.true refl))
    (c.in_ok-add_port.ensures (map declaration_view (take i xs)) c.loop-declaration.invariant)

pub returns : goal.returns
returns c =
    subst (λ (l : List DeclarationAt). IsTableOf c.loop-declaration.table (filter says_port (map declaration_view l)))
    (take_all c.loop-declaration.declaration-index c.args.all.now c.loop-declaration-test.false) c.loop-declaration.invariant
