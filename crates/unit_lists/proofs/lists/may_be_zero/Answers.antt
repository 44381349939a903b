use Rattle.std.proofs.Common.{◌≡◌, Some, sym, ◌∙◌}
use Rattle.std.proofs.lemmas.Bool.{false≢true}
use Rattle.pw_defs.specs.declared.supplies.SupplyKind.TheVariants.{SwitchOut}
use Rattle.list_defs.specs.Members.{IsIn}
use Rattle.supply_defs.specs.UnitViews.{kind_at}
use Rattle.unit_lists.specs.Views.{view_cmp}
use Rattle.std.proofs.lemmas.Cmp.{tied_itself}
use Rattle.unit_lists.proofs.ListedLemmas.{view_cmp_total}
use Rattle.unit_lists.proofs.ListLemmas.{neither, not_neither}
use Rattle.unit_lists.proofs.SetLemmas.{exact_views, key_from, key_to}
use Rattle.unit_lists.proofs.lists.may_be_zero.Goals as goal

pub returns-then-not-contains : goal.returns-then-not-contains
returns-then-not-contains c =
    neither (IsIn c.args.view c.args.given.now.keys) (kind_at c.args.supplies.now c.args.view.supply ≡ Some SwitchOut) c.is_switch_output.result
    (λ there. false≢true (sym c.if-not-contains.true ∙ c.contains.ensures ∙ key_to view_cmp (tied_itself view_cmp_total) c.args.given.now.keys c.args.view there))
    c.is_switch_output.ensures

pub returns-else-not-contains : goal.returns-else-not-contains
returns-else-not-contains c =
    not_neither (IsIn c.args.view c.args.given.now.keys) (kind_at c.args.supplies.now c.args.view.supply ≡ Some SwitchOut) c.contains.result
    (key_from view_cmp exact_views c.args.given.now.keys c.args.view (sym c.contains.ensures ∙ c.if-not-contains.false)) c.if-not-contains.false
