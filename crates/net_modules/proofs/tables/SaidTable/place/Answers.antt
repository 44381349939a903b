use Rattle.std.proofs.Common.{refl, arith}
use Rattle.net_modules.proofs.TableLaws.{known_name, new_name, one_name_more, same_table}
use Rattle.net_modules.proofs.tables.SaidTable.place.Goals as goal

pub returns-then-place-known-clause-tells : goal.returns-then-place-known-clause-tells
returns-then-place-known-clause-tells c =
    same_table c.args.self.now (record { names = c.number.new.self; said = c.args.self.now.said }) c.requires
    (known_name c.args.self.now.names c.number.new.self c.args.name.now c.in_ok-place.place c.in_ok-place.ensures.names c.in_ok-place.ensures.number
    (omega (arith, c.if-place-known.true, c.len-known.ensures.len)))
    refl

pub returns-clause-tells : goal.returns-clause-tells
returns-clause-tells c =
    let new =
    new_name c.args.self.now.names c.number.new.self c.args.name.now c.in_ok-place.place c.in_ok-place.ensures.names c.in_ok-place.ensures.number
    (omega (arith, c.if-place-known.false, c.len-known.ensures.len)) in
    one_name_more c.args.self.now (record { names = c.number.new.self; said = c.push.new.self }) c.args.name.now c.nothing.result c.requires new.0 new.1
    c.in_ok-push.ensures.items c.nothing.ensures
