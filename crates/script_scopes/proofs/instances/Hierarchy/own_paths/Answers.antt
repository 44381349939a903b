use Rattle.script_scopes.proofs.PathLemmas.{own_paths}
use Rattle.script_scopes.proofs.instances.Hierarchy.own_paths.Goals as goal

pub returns : goal.returns
returns c = own_paths c.args.self.now c.sound.ensures
