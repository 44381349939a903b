use Rattle.script_world.specs.Objects.{known_in}
use Rattle.script_world.proofs.objects.Objects.handle_at.Goals as goal

pub returns-clause-sound : goal.returns-clause-sound
returns-clause-sound c = c.handle_of.ensures.sound (known_in c.args.self.now) c.in_ok-body_named.ensures.sound
