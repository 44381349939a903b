use Rattle.net_places.proofs.Adding.{ports_added}
use Rattle.net_places.proofs.plans.add_model.Goals as goal

pub returns : goal.returns
returns c =
    ports_added c.args.model.now.ports c.as_slice.result.now c.in_ok-rows.rows.items c.sort.new.rows.items c.as_slice-2.result.now c.args.table.now c.add.new.self
    c.as_slice.ensures.items c.in_ok-rows.ensures c.in_ok-sort.ensures c.as_slice-2.ensures.value c.in_ok-add.ensures
