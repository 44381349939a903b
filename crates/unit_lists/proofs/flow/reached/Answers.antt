use Rattle.std.proofs.Common.{◌∷◌, [], ◌++◌, refl}
use Rattle.unit_lists.proofs.FlowLemmas.{flow_begins, flow_ends, same_flow}
use Rattle.unit_lists.proofs.SetLemmas.{none_taken}
use Rattle.unit_lists.proofs.flow.reached.Goals as goal

pub loop-init : goal.loop-init
loop-init c = flow_begins c.args.begins.items c.args.links.now.keys c.args.begins.items c.new-reached.result.keys refl c.new-reached.ensures.empty

pub returns-in-None : goal.returns-in-None
returns-in-None c =
    flow_ends c.args.begins.items c.args.links.now.keys c.loop.work.items c.loop.reached.keys
    (none_taken _ c.loop.work.items c.pop.new.self.items c.in-None.ensures.cases.0 c.in-None.ensures.rest c.in-None.ensures.items) c.loop.invariant

pub loop-preserved : goal.loop-preserved
loop-preserved c =
    c.in_ok-take_up-in-Some.ensures c.args.begins.items (
    same_flow c.args.begins.items c.args.links.now.keys c.loop.work.items (c.pop.new.self.items ++ (c.in-Some.view, c.in-Some.value) ∷ []) c.loop.reached.keys
    c.in-Some.ensures.items c.loop.invariant
    )
