use Rattle.std.proofs.Common.{refl}
use Rattle.net_frames.proofs.AddedKinds.{instance_added}
use Rattle.net_frames.proofs.framing.add_row.Goals as goal

pub returns-clause-added : goal.returns-clause-added
returns-clause-added c =
    instance_added c.args.modules.now c.args.plans.now c.args.rows.now c.kind_of.new.rows c.add_instance.new.self c.args.row _ c.in_ok-kind.ensures.kind
    c.in_ok-add_instance.ensures.added refl refl
