use Rattle.std.proofs.Common.{◌≡◌, List, ℕ, true, false, sym, ap, ◌∙◌, subst}
use Rattle.std.specs.Prelude.{Some}
use Rattle.net_places.specs.Finding.{is_same, names_among, row_name}
use Rattle.net_places.specs.Nets.{own_net}
use Rattle.net_places.specs.Plans.{rows_at}
use Rattle.net_places.specs.Tables.{IsPlanOf}
use Rattle.net_places.proofs.FindLemmas.{names_are, names_in_front, none_owned, own_named, same_there}
use Rattle.net_places.proofs.plans.Plans.find.Goals as goal

pub returns-then-is_spelled : goal.returns-then-is_spelled
returns-then-is_spelled c s is plans has =
    let n = c.args.spellings.now.modules.now in
    let body = c.args.body in
    let rows = rows_at c.args.self.now body in
    let name = c.args.name.now in
    let names = names_among n c.args.spellings.now.cells.now c.args.spellings.now.models.now body in
    let same = names_are n c.args.spellings.now.cells.now c.args.spellings.now.models.now s body is in
    let plan : IsPlanOf (own_net s body) names rows = subst (λ (xs : List (List ℕ)). IsPlanOf (own_net s body) xs rows) (sym same) (plans.each body has) in
    let net : ℕ = c.before-net.result in
    let alike : is_same name (row_name names rows net) ≡ true = ap (is_same name) (sym c.spelled.ensures) ∙ sym c.is_spelled.ensures ∙ c.if-is_spelled.true in
    subst (λ (xs : List (List ℕ)). row_name xs rows net ≡ Some name) same (same_there names rows (own_net s body) plan name net alike)

pub returns-else-is_spelled : goal.returns-else-is_spelled
returns-else-is_spelled c s is plans has =
    let n = c.args.spellings.now.modules.now in
    let body = c.args.body in
    let rows = rows_at c.args.self.now body in
    let name = c.args.name.now in
    let names = names_among n c.args.spellings.now.cells.now c.args.spellings.now.models.now body in
    let same = names_are n c.args.spellings.now.cells.now c.args.spellings.now.models.now s body is in
    let plan : IsPlanOf (own_net s body) names rows = subst (λ (xs : List (List ℕ)). IsPlanOf (own_net s body) xs rows) (sym same) (plans.each body has) in
    let net : ℕ = c.before-net.result in
    let unlike : is_same name (row_name names rows net) ≡ false = ap (is_same name) (sym c.spelled.ensures) ∙ sym c.is_spelled.ensures ∙ c.if-is_spelled.false in
    none_owned names rows (own_net s body) plan name net (c.before-net.ensures.split (names_in_front names rows (own_net s body) plan name)) unlike (own_named s body name)
