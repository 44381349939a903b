use Rattle.script_world.specs.Objects.{known_in}
use Rattle.script_world.proofs.objects.Objects.states.Goals as goal

pub returns-clause-some : goal.returns-clause-some
returns-clause-some c = rw c.body.ensures.body (c.states_of.ensures.some (known_in c.args.self.now))

pub returns-clause-sound : goal.returns-clause-sound
returns-clause-sound c = c.states_of.ensures.sound (known_in c.args.self.now) c.body.ensures.sound
