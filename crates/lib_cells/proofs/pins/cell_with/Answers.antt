use Rattle.std.proofs.Common.{◌||◌, ◌&&◌, ℕ, List, Option, false, unwrap_or, is_some, refl, ap, ◌∙◌}
use Rattle.lib_cells.specs.CellViews.{cell_with, first_of}
use Rattle.lib_cells.specs.CellsMeant.{places_where, the_only}
use Rattle.lib_cells.specs.declared.pins.PinRoles.{PinRoles}
use Rattle.lib_cells.proofs.CellsTold.{cell_of_parts}
use Rattle.lib_cells.proofs.pins.cell_with.Goals as goal

pub returns : goal.returns
returns c =
    let marks = c.args.marks in
    let through = c.through_pin-through.ensures ∙ ap (λ (l : List PinRoles). the_only (places_where (λ (r : PinRoles). r.is_data) l)) c.as_slice.ensures.items in
    let enable = c.enable_pin-enable.ensures ∙ ap (λ (l : List PinRoles). first_of (places_where (λ (r : PinRoles). r.enables) l)) c.as_slice-2.ensures.items in
    let iso = c.isolates.ensures ∙ ap (λ (o : Option ℕ). unwrap_or marks.isolation false || (unwrap_or marks.shifter false && is_some o)) enable in
    cell_of_parts _ (cell_with c.args.name marks c.args.kept) refl refl iso c.unwrap_or-shift.ensures through enable
