use Rattle.std.proofs.Common.{List, sym, ap, ◌∙◌, arith}
use Rattle.std.specs.Prelude.{slice_get}
use Rattle.net_places.specs.declared.rows.NetRow.{NetRow}
use Rattle.std.proofs.lemmas.Option.{slice_get_past}
use Rattle.net_places.specs.Tables.{bits_in, part}
use Rattle.net_places.proofs.Parts.{part_get, part_is, part_length, rows_past, rows_there}
use Rattle.net_places.proofs.tables.Table.net.Goals as goal

pub net_behind-requires : goal.net_behind-requires
net_behind-requires c =
    let is = part_is c.self.inside.nets c.self.inside.bodies c.args.body c.in-Some.row.now c.self.invariant c.in-Some.ensures in
    omega (arith, is.end, c.if-net-row.true)

pub returns-then-net-row-clause-net : goal.returns-then-net-row-clause-net
returns-then-net-row-clause-net c =
    let nets = c.self.inside.nets in
    let row = c.in-Some.row.now in
    let is = part_is nets c.self.inside.bodies c.args.body row c.self.invariant c.in-Some.ensures in
    let there = rows_there nets c.self.inside.bodies c.args.self.now c.args.body row c.self.view_is c.in-Some.ensures in
    sym (ap (λ (rows : List NetRow). slice_get rows c.args.net) there ∙ part_get nets row c.args.net is c.if-net-row.true ∙ c.net_behind.ensures)

pub returns-else-net-row-clause-net : goal.returns-else-net-row-clause-net
returns-else-net-row-clause-net c =
    let nets = c.self.inside.nets in
    let row = c.in-Some.row.now in
    let is = part_is nets c.self.inside.bodies c.args.body row c.self.invariant c.in-Some.ensures in
    let there = rows_there nets c.self.inside.bodies c.args.self.now c.args.body row c.self.view_is c.in-Some.ensures in
    sym (ap (λ (rows : List NetRow). slice_get rows c.args.net) there ∙ slice_get_past (part nets row) c.args.net (omega (arith, part_length nets row is, c.if-net-row.false)))

pub returns-in-None-clause-net : goal.returns-in-None-clause-net
returns-in-None-clause-net c =
    sym (ap (λ (rows : List NetRow). slice_get rows c.args.net) (rows_past c.self.inside.nets c.self.inside.bodies c.args.self.now c.args.body c.self.view_is c.in-None.ensures))

pub returns-then-net-row-clause-bits : goal.returns-then-net-row-clause-bits
returns-then-net-row-clause-bits c =
    let row = c.in-Some.row.now in
    let is = part_is c.self.inside.nets c.self.inside.bodies c.args.body row c.self.invariant c.in-Some.ensures in
    let there = rows_there c.self.inside.nets c.self.inside.bodies c.args.self.now c.args.body row c.self.view_is c.in-Some.ensures in
    omega (arith, is.bits, ap bits_in there)
