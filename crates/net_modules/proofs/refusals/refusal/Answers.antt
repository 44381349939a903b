use Rattle.std.proofs.Common.{◌+◌, ◌≤◌, List, get_or, length, map, take, drop, refl, ap, sym, ◌∙◌, subst, arith}
use Rattle.std.proofs.lemmas.List.{length-map}
use Rattle.net_text.specs.CommaLists.{named_view}
use Rattle.net_text.specs.DeclarationViews.{declaration_view}
use Rattle.net_text.specs.SecondDeclarations.{Declaration, IsRefused, named_in}
use Rattle.net_modules.specs.Sayings.{Saying}
use Rattle.net_modules.specs.SaidTables.{IsTableOf, said_at, said_view}
use Rattle.net_modules.proofs.PlaceLaws.{clear_all, clear_none, no_declaration, seen_long, seen_push, seen_split}
use Rattle.net_modules.proofs.RefusalLaws.{clear_on, refused_here}
use Rattle.net_modules.proofs.SayingLaws.{port_shape}
use Rattle.net_modules.proofs.refusals.refusal.Goals as goal

pub loop-declaration-init : goal.loop-declaration-init
loop-declaration-init c = record { table = c.new-so_far.ensures; clear = clear_none IsRefused (map declaration_view c.args.all.now) }

pub returns-then-is_refused : goal.returns-then-is_refused
returns-then-is_refused c =
    let xs = c.args.all.now in
    let i = c.loop-declaration.declaration-index in
    let x = get_or xs i no_declaration in
    let d = declaration_view x in
    refused_here (map declaration_view xs) (map declaration_view (take i xs)) d (map declaration_view (drop (i + 1) xs)) i
    (seen_split declaration_view xs i x no_declaration c.loop-declaration-test.true refl)
    (seen_long declaration_view xs i x no_declaration c.loop-declaration-test.true refl) c.loop-declaration.invariant.clear
    c.is_refused.result (said_view c.in_ok-before.before) (said_at c.args.ports.now (named_in d).text) c.is_refused.ensures
    (c.in_ok-before.ensures.before ∙ c.loop-declaration.invariant.table.tells (named_in d).text)
    (ap (λ (s : Saying). s.shape) (c.requires.tells (named_in d).text) ∙ port_shape (named_in d).text (map declaration_view xs))
    c.if-is_refused.true (named_view c.name_in.result) c.name_in.ensures

pub loop-declaration-preserved : goal.loop-declaration-preserved
loop-declaration-preserved c =
    let xs = c.args.all.now in
    let i = c.loop-declaration.declaration-index in
    let x = get_or xs i no_declaration in
    let d = declaration_view x in
    record {
      table =
          subst (λ (l : List Declaration). IsTableOf c.add.new.self l) (sym (seen_push declaration_view xs i x no_declaration c.loop-declaration-test.true refl))
          (c.in_ok-before.ensures.table _ c.loop-declaration.invariant.table);
      clear =
          clear_on (map declaration_view xs) (map declaration_view (take i xs)) d (map declaration_view (drop (i + 1) xs)) i
          (seen_split declaration_view xs i x no_declaration c.loop-declaration-test.true refl)
          (seen_long declaration_view xs i x no_declaration c.loop-declaration-test.true refl) c.loop-declaration.invariant.clear
          c.is_refused.result (said_view c.in_ok-before.before) (said_at c.args.ports.now (named_in d).text) c.is_refused.ensures
          (c.in_ok-before.ensures.before ∙ c.loop-declaration.invariant.table.tells (named_in d).text)
          (ap (λ (s : Saying). s.shape) (c.requires.tells (named_in d).text) ∙ port_shape (named_in d).text (map declaration_view xs))
          c.if-is_refused.false;
    }

pub returns : goal.returns
returns c =
    let xs = c.args.all.now in
    let long : length (map declaration_view xs) ≤ c.loop-declaration.declaration-index = omega (arith, length-map xs declaration_view, c.loop-declaration-test.false) in
    clear_all IsRefused (map declaration_view xs) c.loop-declaration.declaration-index long c.loop-declaration.invariant.clear
