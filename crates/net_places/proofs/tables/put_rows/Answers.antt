use Rattle.std.proofs.Common.{append-nil, refl, sym, ap, ◌∙◌}
use Rattle.std.proofs.lemmas.List.{take_all}
use Rattle.net_places.proofs.Placing.{bits_of, bits_placed, bits_step, put_step}
use Rattle.net_places.proofs.tables.put_rows.Goals as goal

pub loop-named-init : goal.loop-named-init
loop-named-init c = record { rows = sym (append-nil c.args.nets.now); bits = refl }

pub loop-named-preserved : goal.loop-named-preserved
loop-named-preserved c =
    let rows = c.args.rows.now in
    let i = c.loop-named.named-index in
    let inv = c.loop-named.invariant in
    record {
      rows = c.in_ok-push.ensures.ok ∙ put_step c.loop-named.nets c.args.nets.now rows i _ c.loop-named.bits c.loop-named-test.true inv.rows inv.bits;
      bits = bits_step rows i _ c.loop-named.bits c.width.result c.in_ok-bits.bits c.loop-named-test.true inv.bits c.width.ensures c.in_ok-bits.ensures;
    }

pub returns-clause-bits : goal.returns-clause-bits
returns-clause-bits c =
    c.loop-named.invariant.bits ∙ ap bits_of (take_all c.loop-named.named-index c.args.rows.now c.loop-named-test.false) ∙ sym (bits_placed 0 c.args.rows.now)
