use Rattle.script_world.proofs.ObjectLemmas.{name_is}
use Rattle.script_world.proofs.objects.Objects.whole_name.Goals as goal

pub returns : goal.returns
returns c =
    name_is c.self.inside.places c.self.inside.rows c.args.self.now c.self.invariant c.self.view_is c.args.at c.name.result.now c.name.ensures
