use Rattle.std.proofs.Common.{List, get_or, map, take, refl, ap, sym, ◌∙◌}
use Rattle.std.proofs.lemmas.List.{take_all}
use Rattle.std.specs.List.{filter_map}
use Rattle.module_rows.specs.declared.plain.Draft.{Draft}
use Rattle.net_text.specs.DeclarationViews.{declaration_view}
use Rattle.net_text.specs.SecondDeclarations.{Declaration}
use Rattle.net_text.specs.declared.declarations.DeclarationAt.{DeclarationAt}
use Rattle.net_modules.specs.Drafts.{with_net_option, with_nets}
use Rattle.net_modules.specs.SaidTables.{net_by}
use Rattle.net_modules.proofs.DraftLaws.{nets_meant, nets_none, nets_push}
use Rattle.net_modules.proofs.PlaceLaws.{no_declaration, seen_push}
use Rattle.net_modules.proofs.contents.add_nets.Goals as goal

pub loop-declaration-init : goal.loop-declaration-init
loop-declaration-init c = nets_none c.args.builder.now

pub loop-declaration-preserved : goal.loop-declaration-preserved
loop-declaration-preserved c =
    let xs = c.args.all.now in
    let i = c.loop-declaration.declaration-index in
    let x = get_or xs i no_declaration in
    let f = net_by c.args.ports.now in
    c.in_ok-add_net.ensures ∙ ap (λ (d : Draft). with_net_option d (f (declaration_view x))) c.loop-declaration.invariant
    ∙ nets_push c.args.builder.now f (map declaration_view (take i xs)) (declaration_view x)
    ∙ ap (λ (l : List Declaration). with_nets c.args.builder.now (filter_map f l))
    (sym (seen_push declaration_view xs i x no_declaration c.loop-declaration-test.true refl))

pub returns : goal.returns
returns c =
    let xs = c.args.all.now in
    c.loop-declaration.invariant
    ∙ ap (λ (l : List DeclarationAt). with_nets c.args.builder.now (filter_map (net_by c.args.ports.now) (map declaration_view l)))
    (take_all c.loop-declaration.declaration-index xs c.loop-declaration-test.false)
    ∙ ap (with_nets c.args.builder.now) (nets_meant c.args.ports.now (map declaration_view xs) c.requires (map declaration_view xs))
