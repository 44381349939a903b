use Rattle.std.proofs.Common.{Some, slice_get, sym, ap, ◌∙◌}
use Rattle.net_places.specs.Plans.{names_in}
use Rattle.net_bits.proofs.Spellings.{pin_named, port_spelled}
use Rattle.net_bits.proofs.names.spelling.Goals as goal

pub returns-in_ok-get-in-Cell-2 : goal.returns-in_ok-get-in-Cell-2
returns-in_ok-get-in-Cell-2 c s of =
    ap Some c.as_slice.ensures.bytes
    ∙ sym (pin_named c.args.modules.now.symbols s c.args.cells.now c.in-Cell.cell c.args.name c.in_ok-get-in-Cell.field-0.now c.in_ok-get-in-Cell-2.field-0.now of.1
    (sym c.in_ok-get-in-Cell.ensures) (sym c.in_ok-get-in-Cell-2.ensures))
    ∙ ap (λ b. slice_get (names_in c.args.modules.now.symbols s b) c.args.name) (sym c.in-Cell.is)

pub returns-in_ok-get-in-Model-2 : goal.returns-in_ok-get-in-Model-2
returns-in_ok-get-in-Model-2 c s of =
    ap Some c.as_slice-in-Model.ensures.bytes
    ∙ sym (port_spelled c.args.modules.now.symbols s c.args.models.now c.in-Model.model c.args.name c.in_ok-get-in-Model.field-0.now c.in_ok-get-in-Model-2.field-0.now of.2
    (sym c.in_ok-get-in-Model.ensures) (sym c.in_ok-get-in-Model-2.ensures))
    ∙ ap (λ b. slice_get (names_in c.args.modules.now.symbols s b) c.args.name) (sym c.in-Model.is)
