-- The places of the bits of bodies among the rows of a design.
use Rattle.std.specs.Prelude.{◌≡◌, ◌<◌, ℕ, Bool, true, false, List, ◌++◌, [], None, Some, length, map, option_map, slice_get}
use Rattle.std.specs.List.{AllZip, flat_map, range_with_len}
use Rattle.pw_defs.specs.declared.design.Body.{Body}
use Rattle.pw_defs.specs.declared.design.Body.TheVariants.{Module as ModuleBody, Cell as CellBody, Model as ModelBody}
use Rattle.design_defs.specs.DesignFaults.{sources}
use Rattle.design_defs.specs.Ranges.{bit_name, width}
use Rattle.design_rows.specs.declared.tables.KindRow.{KindRow}
use Rattle.design_rows.specs.declared.tables.PlaceRow.{PlaceRow}
use Rattle.design_rows.specs.declared.tables.Rows.{Rows}
use Rattle.design_rows.specs.View.{place_name, port_in}
use Rattle.module_rows.specs.declared.plain.Netlist.{Netlist}
use Rattle.net_places.specs.declared.plans.Plans.{Plans}
use Rattle.net_places.specs.declared.rows.NetRow.{NetRow}
use Rattle.net_places.specs.Gathered.{net_by}
use Rattle.net_places.specs.Nets.{OwnNet}
use Rattle.net_places.specs.Plans.{names_in, rows_at}

-- the spellings by which the nets of a body have their names
abbrev pub spellings : Netlist → Rows → Body → List (List ℕ)
spellings n r body = names_in n.symbols (sources n.modules r.cells r.models []) body

-- a bit of a net, by its place
abbrev pub NetBit : Type 0
NetBit = OwnNet × ℕ

-- the bits of a net, by their places
abbrev pub net_bits : OwnNet → List NetBit
net_bits net = map (λ place. (net, place)) (range_with_len 0 (width net.range))

-- the bits of nets, one net after the other
abbrev pub bits_of_nets : List OwnNet → List NetBit
bits_of_nets = flat_map net_bits

-- the bits of the nets of a body
abbrev pub bits_in : Netlist → Plans → Rows → Body → List NetBit
bits_in n p r body = bits_of_nets (map (net_by (spellings n r body)) (rows_at p body))

-- the place has the name of the bit, and is that of a bit of a port where the net is a port
pub record IsPlaceOf (names : List (List ℕ)) (bit : NetBit) (p : PlaceRow) : Type 0 where
  pub named : slice_get names (place_name p) ≡ Some (bit_name bit.0.name bit.0.range bit.1)
  pub ported : (owner : ℕ) → port_in owner p ≡ option_map (λ port. record { inst = owner; port = port; place = bit.1 }) bit.0.port

-- the names begin with the spellings of the symbols, so that the number of a symbol is that of its name
abbrev pub HasSymbols : Netlist → Rows → Type 0
HasSymbols n r = (more : List (List ℕ)) × (r.names ≡ n.symbols ++ more)

-- the nets of the body have symbols as their names
abbrev pub HasSymbolNames : Body → Type 0
HasSymbolNames (ModuleBody m) = Unit {0}
HasSymbolNames (CellBody c) = ⊥
HasSymbolNames (ModelBody m) = ⊥

-- where the answer is yes, a bit of a net has the name of the net, which is a symbol
abbrev pub IsSymbolOf : Netlist → Body → NetRow → Bool → Type 0
IsSymbolOf n body row true = (row.range ≡ None) × (row.name < length n.symbols) × HasSymbolNames body
IsSymbolOf n body row false = Unit {0}

-- the rows with more names, places and kinds
abbrev pub with_parts : Rows → List (List ℕ) → List PlaceRow → List KindRow → Rows
with_parts r names places kinds = record r { names = r.names ++ names; places = r.places ++ places; kinds = r.kinds ++ kinds }

-- a bit of a net has this name, which may have been added
pub record HasBitName (n : Netlist) (old new : Rows) (body : Body) (row : NetRow) (place name : ℕ) : Type 0 where
  pub names : List (List ℕ)
  pub grown : new ≡ with_parts old names [] []
  pub named : HasSymbols n old → slice_get new.names name ≡ Some (bit_name (net_by (spellings n old body) row).name row.range place)

-- there are more places, those of these bits
pub record HasPlaces (n : Netlist) (old new : Rows) (bits : List NetBit) : Type 0 where
  pub names : List (List ℕ)
  pub places : List PlaceRow
  pub grown : new ≡ with_parts old names places []
  pub each : HasSymbols n old → AllZip (IsPlaceOf new.names) bits places
