use Rattle.std.proofs.Common.{List, get_or, map, take, refl, ap, sym, ◌∙◌}
use Rattle.std.proofs.lemmas.List.{take_all}
use Rattle.std.specs.List.{filter_map}
use Rattle.module_rows.specs.declared.plain.Draft.{Draft}
use Rattle.net_text.specs.DeclarationViews.{declaration_view}
use Rattle.net_text.specs.SecondDeclarations.{Declaration}
use Rattle.net_text.specs.declared.declarations.DeclarationAt.{DeclarationAt}
use Rattle.net_modules.specs.Drafts.{with_port_option, with_ports}
use Rattle.net_modules.specs.SaidTables.{port_by}
use Rattle.net_modules.proofs.DraftLaws.{ports_meant, ports_none, ports_push}
use Rattle.net_modules.proofs.PlaceLaws.{no_declaration, seen_push}
use Rattle.net_modules.proofs.contents.add_ports.Goals as goal

pub loop-declaration-init : goal.loop-declaration-init
loop-declaration-init c = ports_none c.args.builder.now

pub loop-declaration-preserved : goal.loop-declaration-preserved
loop-declaration-preserved c =
    let xs = c.args.all.now in
    let i = c.loop-declaration.declaration-index in
    let x = get_or xs i no_declaration in
    let f = port_by c.args.ports.now in
    c.in_ok-add_port.ensures ∙ ap (λ (d : Draft). with_port_option d (f (declaration_view x))) c.loop-declaration.invariant
    ∙ ports_push c.args.builder.now f (map declaration_view (take i xs)) (declaration_view x)
    ∙ ap (λ (l : List Declaration). with_ports c.args.builder.now (filter_map f l))
    (sym (seen_push declaration_view xs i x no_declaration c.loop-declaration-test.true refl))

pub returns : goal.returns
returns c =
    let xs = c.args.all.now in
    c.loop-declaration.invariant
    ∙ ap (λ (l : List DeclarationAt). with_ports c.args.builder.now (filter_map (port_by c.args.ports.now) (map declaration_view l)))
    (take_all c.loop-declaration.declaration-index xs c.loop-declaration-test.false)
    ∙ ap (with_ports c.args.builder.now) (ports_meant c.args.ports.now (map declaration_view xs) c.requires (map declaration_view xs))
