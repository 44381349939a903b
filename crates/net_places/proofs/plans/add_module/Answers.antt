use Rattle.std.proofs.Common.{refl}
use Rattle.module_rows.specs.Reads.{module_at}
use Rattle.net_places.specs.Mentions.{of_module}
use Rattle.net_places.specs.Nets.{net_in}
use Rattle.net_places.proofs.Adding.{body_added}
use Rattle.net_places.proofs.Owning.{module_mentioned}
use Rattle.net_places.proofs.Starting.{ready_again}
use Rattle.net_places.proofs.plans.add_module.Goals as goal

pub returns-clause-plan : goal.returns-clause-plan
returns-clause-plan c = λ ready.
    let n = c.args.modules.now in
    let m = module_at n c.args.holder in
    let g = c.in_ok-gather.ensures ready in
    body_added (net_in m) n.symbols c.gather.new.gathering.nets.items c.sort.new.rows.items c.as_slice.result.now (of_module m) c.args.table.now c.add.new.self
    (module_mentioned m) g.rows c.in_ok-sort.ensures c.as_slice.ensures.value c.in_ok-add.ensures

pub returns-clause-ready : goal.returns-clause-ready
returns-clause-ready c = λ ready.
    let n = c.args.modules.now in
    let g = c.in_ok-gather.ensures ready in
    ready_again n.symbols c.args.mark _ c.gather.new.gathering.marks.items g.count g.differ g.latest refl
