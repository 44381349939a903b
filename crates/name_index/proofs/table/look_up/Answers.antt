use Rattle.std.proofs.Common.{sym}
use Rattle.list_defs.proofs.NameLemmas.{place_of-own}
use Rattle.name_index.proofs.Found.{look_up-none}
use Rattle.name_index.proofs.table.look_up.Goals as goal

pub returns-in-Some : goal.returns-in-Some
returns-in-Some c = sym (place_of-own c.args.name.now c.args.names.now c.in-Some.number c.requires.differ c.in-Some.ensures.some)

pub returns-in-None : goal.returns-in-None
returns-in-None c =
    let met = c.crowded_number.ensures in
    look_up-none c.args.names.now c.args.name.now c.args.table.now c.crowded_number.result c.requires.table c.requires.differ c.in-None.ensures.none met.some met.none
