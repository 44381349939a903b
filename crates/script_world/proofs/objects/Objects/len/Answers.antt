use Rattle.std.proofs.Common.{◌∙◌, ap}
use Rattle.list_defs.specs.Members.{all_differ, same_name}
use Rattle.script_world.proofs.ObjectLemmas.{names_are}
use Rattle.script_world.proofs.objects.Objects.len.Goals as goal

pub returns-clause-differ : goal.returns-clause-differ
returns-clause-differ c =
    ap (all_differ same_name) (names_are c.self.inside.places c.self.inside.rows c.args.self.now c.self.invariant c.self.view_is) ∙ c.len.ensures.differ
