use Rattle.script_world.proofs.ObjectLemmas.{objects_placed}
use Rattle.script_world.proofs.objects.Objects.place.Goals as goal

pub returns-clause-objects : goal.returns-clause-objects
returns-clause-objects c =
    objects_placed c.self.inside.places c.number.new.names c.self.inside.rows c.args.self.now c.self.invariant c.self.view_is c.number.ensures.more
