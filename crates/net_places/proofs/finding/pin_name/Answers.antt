use Rattle.std.proofs.Common.{sym, ap, ◌∙◌}
use Rattle.std.specs.Prelude.{Some}
use Rattle.net_places.proofs.FindLemmas.{pin_spelled}
use Rattle.net_places.proofs.finding.pin_name.Goals as goal

pub returns : goal.returns
returns c =
    sym (pin_spelled c.args.cells.now.cells c.args.cell c.args.pin c.in_ok-cell.cell.now c.in_ok-pin.pin.now (sym c.in_ok-cell.ensures) (sym c.in_ok-pin.ensures)
    ∙ ap Some (sym c.as_slice.ensures.bytes))
