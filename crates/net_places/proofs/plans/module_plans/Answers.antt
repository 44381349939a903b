use Rattle.module_rows.specs.Reads.{module_at}
use Rattle.net_places.specs.Nets.{net_in}
use Rattle.net_places.specs.Tables.{IsPlanOf}
use Rattle.net_places.proofs.Adding.{added_count}
use Rattle.net_places.proofs.Wholes.{plans_more}
use Rattle.net_places.proofs.plans.module_plans.Goals as goal

pub loop-holder-preserved : goal.loop-holder-preserved
loop-holder-preserved c =
    let n = c.args.modules.now in
    let inv = c.loop-holder.invariant in
    let i = c.loop-holder.holder in
    let grown = c.in_ok-add_module.ensures.plan inv.ready in
    record {
      ready = c.in_ok-add_module.ensures.ready inv.ready;
      count = added_count c.loop-holder.table c.add_module.new.table grown.0 i grown.1 inv.count;
      plans = plans_more (λ m rows. IsPlanOf (net_in (module_at n m)) n.symbols rows) c.loop-holder.table c.add_module.new.table grown.0 i grown.1 inv.count inv.plans grown.2;
    }
