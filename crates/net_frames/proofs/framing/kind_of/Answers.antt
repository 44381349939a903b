use Rattle.net_frames.proofs.AddedKinds.{kind_known}
use Rattle.net_frames.proofs.framing.kind_of.Goals as goal

pub returns-in-Some-clause-kind : goal.returns-in-Some-clause-kind
returns-in-Some-clause-kind c = kind_known c.args.modules.now c.args.plans.now c.args.rows.now c.args.body c.in-Some.number c.in-Some.ensures
