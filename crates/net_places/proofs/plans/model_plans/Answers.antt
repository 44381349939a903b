use Rattle.std.proofs.Common.{map, arith}
use Rattle.std.proofs.lemmas.Option.{slice_get_within}
use Rattle.pw_defs.specs.declared.model.Model.{Model}
use Rattle.pw_defs.specs.declared.netlist.Port.{Port}
use Rattle.net_places.specs.Nets.{net_among}
use Rattle.net_places.proofs.Adding.{added_count, bodies_more}
use Rattle.net_places.proofs.plans.model_plans.Goals as goal

pub loop-model-preserved : goal.loop-model-preserved
loop-model-preserved c =
    let inv = c.loop-model.invariant in
    let grown = c.in_ok-add_model.ensures in
    record {
      count = added_count c.loop-model.table c.add_model.new.table grown.0 c.loop-model.model-index grown.1 inv.count;
      plans = bodies_more (λ (x : Model). net_among (x.ports)) (λ (x : Model). map (λ (p : Port). p.name) (x.ports)) c.args.models.now c.loop-model.model-index c.model-item.result
          c.loop-model.table c.add_model.new.table c.model-item.is inv.count inv.plans grown;
    }

pub returns-clause-plans : goal.returns-clause-plans
returns-clause-plans c n x at = c.loop-model.invariant.plans n x (omega (arith, slice_get_within c.args.models.now n x at, c.loop-model-test.false)) at
