-- The names of pins and ports among those of a body.
use Rattle.std.proofs.Common.{◌≡◌, ℕ, List, Some, map, option_map, slice_get, ap, ◌∙◌}
use Rattle.std.proofs.lemmas.Option.{slice_get-map}
use Rattle.pw_defs.specs.declared.cells.Cell.{Cell}
use Rattle.pw_defs.specs.declared.cells.Cells.{Cells}
use Rattle.pw_defs.specs.declared.cells.Pin.{Pin}
use Rattle.pw_defs.specs.declared.design.Body.TheVariants.{Cell as CellBody, Model as ModelBody}
use Rattle.pw_defs.specs.declared.model.Model.{Model}
use Rattle.pw_defs.specs.declared.netlist.Port.{Port}
use Rattle.design_defs.specs.Hierarchy.{Sources}
use Rattle.design_defs.specs.Ports.{port_of_pin}
use Rattle.net_places.specs.Plans.{names_in, port_names}

pub pin_named : (symbols : List (List ℕ)) (s : Sources) (cells : Cells) (c k : ℕ) (cell : Cell) (pin : Pin) → s.cells ≡ cells → slice_get cells.cells c ≡ Some cell
    → slice_get cell.pins k ≡ Some pin → slice_get (names_in symbols s (CellBody c)) k ≡ Some pin.name
pin_named symbols s cells c k cell pin same at there =
    ap (λ o. slice_get (port_names (option_map (λ (x : Cell). map port_of_pin x.pins) o)) k) (ap (λ (cs : Cells). slice_get cs.cells c) same ∙ at)
    ∙ slice_get-map (λ (p : Port). p.name) (map port_of_pin cell.pins) k ∙ ap (option_map (λ (p : Port). p.name)) (slice_get-map port_of_pin cell.pins k ∙ ap (option_map port_of_pin) there)

pub port_spelled : (symbols : List (List ℕ)) (s : Sources) (models : List Model) (c k : ℕ) (model : Model) (port : Port) → s.models ≡ models → slice_get models c ≡ Some model
    → slice_get model.ports k ≡ Some port → slice_get (names_in symbols s (ModelBody c)) k ≡ Some port.name
port_spelled symbols s models c k model port same at there =
    ap (λ o. slice_get (port_names (option_map (λ (x : Model). x.ports) o)) k) (ap (λ (ms : List Model). slice_get ms c) same ∙ at)
    ∙ slice_get-map (λ (p : Port). p.name) model.ports k ∙ ap (option_map (λ (p : Port). p.name)) there
