use Rattle.std.proofs.Common.{List, ◌++◌, map, ap, ◌∙◌}
use Rattle.std.proofs.lemmas.Bool.{OnFalse_at}
use Rattle.std.specs.BTreeMap.{is_at}
use Rattle.std.specs.List.{list_any}
use Rattle.unit_lists.proofs.SetLemmas.{at_view_cmp, exact_at_views, exact_values, gains_by, key_from, not_added, value_ord}
use Rattle.unit_lists.proofs.FlowLemmas.{flow_known, flow_on}
use Rattle.unit_lists.specs.declared.views.View.{View}
use Rattle.unit_lists.proofs.flow.take_up.Goals as goal

pub returns-then-not-branch : goal.returns-then-not-branch
returns-then-not-branch c = λ begins flow.
    let keys = c.args.reached.now.keys in
    flow_known begins c.args.links.now.keys c.args.work.now.items keys c.insert.new.self.keys (c.args.view, c.args.value)
    (key_from (at_view_cmp value_ord) (exact_at_views value_ord exact_values) keys (c.args.view, c.args.value)
    (not_added c.in_ok-insert.field-0 (list_any (is_at (at_view_cmp value_ord (c.args.view, c.args.value))) keys) c.in_ok-insert.ensures.added c.if-not-branch.true))
    (OnFalse_at c.if-not-branch.true c.in_ok-insert.ensures.unchanged) flow

pub returns : goal.returns
returns c = λ begins flow.
    flow_on begins c.args.links.now.keys c.args.work.now.items c.args.reached.now.keys c.put_on.new.work.items c.insert.new.self.keys c.args.view c.args.value
    c.in_ok-nexts.nexts.items
    (gains_by (at_view_cmp value_ord) (exact_at_views value_ord exact_values) c.args.reached.now.keys c.insert.new.self.keys (c.args.view, c.args.value) c.in_ok-insert.ensures.keys)
    c.in_ok-nexts.ensures.each c.in_ok-nexts.ensures.all
    (c.in_ok-put_on.ensures ∙ ap (λ (xs : List View). c.args.work.now.items ++ map (λ b. (b, c.args.value)) xs) c.as_slice.ensures.value) flow
