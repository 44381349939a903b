use Rattle.std.proofs.Common.{Some, sym, ◌∙◌, subst}
use Rattle.design_defs.specs.DesignFaults.{HasFirstFault, answer_of}
use Rattle.net_least.specs.Nearest.{IsEnd, IsWayTo}
use Rattle.net_least.proofs.OwnFirst.{first_of_own, none_of_kind}
use Rattle.net_least.proofs.firsts.first_of_kind.Goals as goal

pub returns-in_ok-at-in-Some-own_at : goal.returns-in_ok-at-in-Some-own_at
returns-in_ok-at-in-Some-own_at c s kind is types named apart names order lines none own =
    let to = IsWayTo s c.args.own.now c.args.top in
    let end : IsEnd to (Some c.in-Some.number) = subst (IsEnd to) c.in-Some.is (c.in_ok-number.ensures s names apart is types named order) in
    let found = first_of_own s kind lines c.args.top named c.args.modules.now.symbols c.args.own.now own none c.in-Some.number c.in-Some-own_at.fault end
    (sym c.own_at.ensures ∙ c.in-Some-own_at.is) in
    subst (λ at. HasFirstFault s (answer_of kind at)) (sym (c.in_ok-at-in-Some-own_at.ensures found.0 found.1)) found.2

pub returns-in-None : goal.returns-in-None
returns-in-None c s kind is types named apart names order lines none own =
    let to = IsWayTo s c.args.own.now c.args.top in
    none_of_kind s kind lines c.args.top named c.args.modules.now.symbols c.args.own.now own (subst (IsEnd to) c.in-None.is (c.in_ok-number.ensures s names apart is types named order))
