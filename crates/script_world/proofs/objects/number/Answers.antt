use Rattle.list_defs.proofs.NameLemmas.{slice_get-place_of}
use Rattle.script_world.proofs.objects.number.Goals as goal

pub returns-clause-number : goal.returns-clause-number
returns-clause-number c = slice_get-place_of c.args.name.now c.number.new.self c.in_ok-number.number c.in_ok-number.ensures.number
