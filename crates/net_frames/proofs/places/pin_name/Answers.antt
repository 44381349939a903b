use Rattle.std.proofs.Common.{Some, sym, ap, ◌∙◌}
use Rattle.net_frames.proofs.Growing.{pin_spelled}
use Rattle.net_frames.proofs.places.pin_name.Goals as goal

pub returns : goal.returns
returns c n =
    ap Some c.as_slice.ensures.bytes
    ∙ pin_spelled n c.args.rows.now c.args.cell c.args.pin c.in_ok-pins.field-0.now c.in_ok-get.field-0.now (sym c.in_ok-pins.ensures) (sym c.in_ok-get.ensures)
