use Rattle.std.proofs.Common.{◌<◌, length, inl, arith}
use Rattle.std.proofs.lemmas.Option.{slice_get_within}
use Rattle.net_rings.proofs.UseLemmas.{gone_unused, without_core, without_rows}
use Rattle.net_rings.proofs.cores.peel_one.Goals as goal

pub returns-clause-rows : goal.returns-clause-rows
returns-clause-rows c = without_rows c.args.core.now c.take.new.core c.args.bit c.in_ok-take.ensures c.requires.rows

pub returns-clause-counted : goal.returns-clause-counted
returns-clause-counted c = c.in_ok-take.ensures.counted

pub returns-clause-kept : goal.returns-clause-kept
returns-clause-kept c sources taken core =
    let w = c.in_ok-take.ensures in
    let within : c.args.bit < length c.args.core.now.uses.items =
    omega (arith, slice_get_within c.args.core.now.rows.bits.items c.args.bit w.row w.was_there, core.counted.all_bits) in
    let none = c.is_unused.ensures.unused c.if-not-is_unused.false within in
    without_core c.args.core.now c.take.new.core c.args.bit w sources taken taken core (λ k inside. inside)
    (gone_unused sources taken c.args.core.now c.args.bit core within none) (λ k inside. inl inside)
