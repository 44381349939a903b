use Rattle.std.proofs.Common.{◌≡◌, ℕ, List, [], ◌∷◌, sym, subst}
use Rattle.net_instances.specs.Ways.{IsLeft}
use Rattle.net_instances.proofs.TextLemmas.{next_name, no_items}
use Rattle.net_instances.proofs.texts.next_place.Goals as goal

pub returns-then-at-to-clause-text : goal.returns-then-at-to-clause-text
returns-then-at-to-clause-text c byte more left =
    let symbols = c.args.modules.now.symbols in
    let rows = c.args.rows.now in
    let none : c.args.rest.now ≡ [] = no_items c.args.rest.now c.in-None.ensures.cases in
    let here : IsLeft symbols rows c.args.to c.args.at [] (byte ∷ more) = subst (λ (rest : List ℕ). IsLeft symbols rows c.args.to c.args.at rest (byte ∷ more)) none left in
    let step = c.step_down-below.ensures.step symbols here.way c.if-at-to.true here.down in
    subst (λ (name : List ℕ). IsLeft symbols rows c.args.to c.step_down-below.result name more) (sym c.name_in.ensures)
    (next_name symbols rows c.args.to c.args.at byte c.step_down-below.result more here step)
