use Rattle.std.proofs.Common.{map, arith}
use Rattle.std.proofs.lemmas.Option.{slice_get_within}
use Rattle.pw_defs.specs.declared.cells.Cell.{Cell}
use Rattle.pw_defs.specs.declared.netlist.Port.{Port}
use Rattle.design_defs.specs.Ports.{port_of_pin}
use Rattle.net_places.specs.Nets.{net_among}
use Rattle.net_places.proofs.Adding.{added_count, bodies_more}
use Rattle.net_places.proofs.plans.cell_plans.Goals as goal

pub loop-cell-preserved : goal.loop-cell-preserved
loop-cell-preserved c =
    let inv = c.loop-cell.invariant in
    let grown = c.in_ok-add_cell.ensures in
    record {
      count = added_count c.loop-cell.table c.add_cell.new.table grown.0 c.loop-cell.cell-index grown.1 inv.count;
      plans = bodies_more (λ (x : Cell). net_among (map port_of_pin x.pins)) (λ (x : Cell). map (λ (p : Port). p.name) (map port_of_pin x.pins)) c.args.cells.now c.loop-cell.cell-index c.cell-item.result
          c.loop-cell.table c.add_cell.new.table c.cell-item.is inv.count inv.plans grown;
    }

pub returns-clause-plans : goal.returns-clause-plans
returns-clause-plans c n x at = c.loop-cell.invariant.plans n x (omega (arith, slice_get_within c.args.cells.now n x at, c.loop-cell-test.false)) at
