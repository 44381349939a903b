use Rattle.std.proofs.Common.{sym, ◌∙◌, arith}
use Rattle.list_defs.specs.Members.{same_name}
use Rattle.list_defs.proofs.NameLemmas.{place_of-within}
use Rattle.lib_cells.proofs.tables.PinTable.say.Goals as goal

pub put_over-requires : goal.put_over-requires
put_over-requires c =
    omega (arith, place_of-within (same_name c.args.name.now) c.args.self.now.names c.in-Some.at (sym c.find.ensures ∙ c.in-Some.is), c.requires)
