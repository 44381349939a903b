-- What bodies say of their own bits, by the names of bits: which is fed by which through the body itself.
use Rattle.std.specs.Prelude.{ℕ, List, [], ◌∷◌, Option, Some, None, map, option_and_then, set, slice_get, if◌then◌else◌}
use Rattle.std.specs.List.{flat_map, range_with_len}
use Rattle.pw_defs.specs.declared.cells.Cell.{Cell}
use Rattle.pw_defs.specs.declared.cells.Dir.{Dir}
use Rattle.pw_defs.specs.declared.cells.Dir.TheVariants.{Input, Output}
use Rattle.pw_defs.specs.declared.cells.Pin.{Pin}
use Rattle.pw_defs.specs.declared.chains.Partial.{Partial}
use Rattle.pw_defs.specs.declared.chains.Partial.TheVariants.{Drive, Feed, Quiet, Take}
use Rattle.pw_defs.specs.declared.design.Body.{Body}
use Rattle.pw_defs.specs.declared.design.Body.TheVariants.{Module as ModuleBody, Cell as CellBody, Model as ModelBody}
use Rattle.pw_defs.specs.declared.model.Model.{Model}
use Rattle.list_defs.specs.Members.{place_of, same_name}
use Rattle.design_defs.specs.Drivers.{is_interface_cell}
use Rattle.design_defs.specs.Hierarchy.{Sources}
use Rattle.design_defs.specs.Ranges.{bit_name, width}

-- the name of a bit that is fed, and that of what feeds it
abbrev pub Pair : Type 0
Pair = List ℕ × List ℕ

-- an output pin is fed by the through pin
abbrev pub pairs_of_dir : List ℕ → List ℕ → Dir → List Pair
pairs_of_dir pin through Input = []
pairs_of_dir pin through Output = (pin, through) ∷ []

abbrev pub pairs_of_pin : List ℕ → Pin → List Pair
pairs_of_pin through p = pairs_of_dir p.name through p.dir

-- each output pin of a cell with a through pin
abbrev pub pairs_through : List Pin → Option Pin → List Pair
pairs_through pins None = []
pairs_through pins (Some through) = flat_map (pairs_of_pin through.name) pins

-- only an isolation cell or level shifter passes on what its through pin has
abbrev pub pairs_of_cell : Cell → List Pair
pairs_of_cell c = if is_interface_cell (Some c) then pairs_through c.pins (option_and_then (slice_get c.pins) c.through) else []

-- a walk of a model that begins at an output bit and ends at an input bit
abbrev pub pairs_of_partial : Partial → List Pair
pairs_of_partial (Drive bit pin set elements) = []
pairs_of_partial (Feed bit source elements) = (bit, source) ∷ []
pairs_of_partial (Quiet bit) = []
pairs_of_partial (Take bit receiver set elements) = []

abbrev pub pairs_of_model : Model → List Pair
pairs_of_model m = flat_map pairs_of_partial m.partials

-- what there may be says
abbrev pub pairs_if_cell : Option Cell → List Pair
pairs_if_cell None = []
pairs_if_cell (Some c) = pairs_of_cell c

abbrev pub pairs_if_model : Option Model → List Pair
pairs_if_model None = []
pairs_if_model (Some m) = pairs_of_model m

-- all that a body says; a module has lines instead
abbrev pub pairs_of : Sources → Body → List Pair
pairs_of s (ModuleBody n) = []
pairs_of s (CellBody c) = pairs_if_cell (slice_get s.cells.cells c)
pairs_of s (ModelBody m) = pairs_if_model (slice_get s.models m)

-- the names of the bits of a net, by their places
abbrev pub names_from : List ℕ → Option (ℕ × ℕ) → List (List ℕ)
names_from name range = map (bit_name name range) (range_with_len 0 (width range))

-- the bit at one place is fed by that at another
abbrev pub with_source : Option ℕ → Option ℕ → List (Option ℕ) → List (Option ℕ)
with_source None source sources = sources
with_source (Some fed) None sources = sources
with_source (Some fed) (Some source) sources = set sources fed (Some source)

-- the bits of these names, by their places among all names
abbrev pub with_pair : List (List ℕ) → Pair → List (Option ℕ) → List (Option ℕ)
with_pair names pair sources = with_source (place_of (same_name pair.0) names) (place_of (same_name pair.1) names) sources

abbrev pub with_pairs : List (List ℕ) → List Pair → List (Option ℕ) → List (Option ℕ)
with_pairs names [] sources = sources
with_pairs names (pair ∷ pairs) sources = with_pairs names pairs (with_pair names pair sources)
