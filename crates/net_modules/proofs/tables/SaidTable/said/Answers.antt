use Rattle.std.proofs.Common.{◌<◌, length, sym, ◌∙◌, arith}
use Rattle.net_modules.proofs.TableLaws.{there_said, there_within}
use Rattle.net_modules.proofs.tables.SaidTable.said.Goals as goal

pub index-requires : goal.index-requires
index-requires c =
    let within : c.in-Some.place < length c.args.self.now.said.items =
    there_within c.args.self.now c.args.name.now c.in-Some.place c.requires (sym c.find.ensures ∙ c.in-Some.is) in
    omega (arith, within)

pub returns-in-Some : goal.returns-in-Some
returns-in-Some c =
    there_said c.args.self.now c.args.name.now c.in-Some.place c.requires (sym c.find.ensures ∙ c.in-Some.is) c.index.result.now _ c.index.ensures
