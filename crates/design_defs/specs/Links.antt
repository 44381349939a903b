-- The links that the lines of a module make: which bit is fed by which.
use Rattle.std.specs.Prelude.{◌≡◌, ℕ, true, List, [], ◌∷◌, ◌++◌, Option, Some, None, option_and_then, slice_get}
use Rattle.std.specs.List.{enumerate_from, filter_map, find, flat_map, zip}
use Rattle.pw_defs.specs.declared.cells.Cell.{Cell}
use Rattle.pw_defs.specs.declared.cells.Dir.{Dir}
use Rattle.pw_defs.specs.declared.cells.Pin.{Pin}
use Rattle.pw_defs.specs.declared.cells.Dir.TheVariants.{Input, Output}
use Rattle.pw_defs.specs.declared.chains.Element.{Element}
use Rattle.pw_defs.specs.declared.chains.Partial.TheVariants.{Feed}
use Rattle.pw_defs.specs.declared.design.Body.TheVariants.{Cell as CellBody, Model as ModelBody}
use Rattle.pw_defs.specs.declared.model.Model.{Model}
use Rattle.pw_defs.specs.declared.netlist.Assign.{Assign}
use Rattle.pw_defs.specs.declared.netlist.Conn.{Conn}
use Rattle.pw_defs.specs.declared.netlist.Expr.{Expr}
use Rattle.pw_defs.specs.declared.netlist.Inst.{Inst}
use Rattle.pw_defs.specs.declared.netlist.Module.{Module}
use Rattle.pw_defs.specs.declared.netlist.Port.{Port}
use Rattle.list_defs.specs.Members.{IsIn, same_name}
use Rattle.design_defs.specs.Bits.{Spot, port_named, range_of}
use Rattle.design_defs.specs.Drivers.{is_interface_cell}
use Rattle.design_defs.specs.Hierarchy.{IsOfModule, Sources, Way, body_at, inst_named, ports_in, type_of}
use Rattle.design_defs.specs.Places.{Signal, signals}
use Rattle.design_defs.specs.Ranges.{bit_name}

-- an end of a link as the lines of a module speak of it: a bit of a net of the module, a bit of a port of an instance
-- that it makes, or a constant
pub data End : Type 0 where
  inner : (net : List ℕ) (place : ℕ) → End
  child : (inst port : List ℕ) (place : ℕ) → End
  constant : End

-- a link: what is fed, by what, and the line that says so
pub record Link : Type 0 where
  pub fed : End
  pub source : End
  pub line : ℕ

-- a bit that an expression names, as an end of a link
abbrev pub end_of : Signal → End
end_of (Signal.net_bit net place) = End.inner net place
end_of Signal.constant = End.constant

-- an input is fed, place by place, by what is connected
abbrev pub link_in : Inst → Port → ℕ × Signal → Link
link_in i p e = record { fed = End.child i.name p.name e.0; source = end_of e.1; line = i.line }

-- what is connected to an output is fed by it, place by place; a constant is fed by nothing
abbrev pub link_out : Inst → Port → ℕ × Signal → Option Link
link_out i p (place, Signal.net_bit net at) = Some (record { fed = End.inner net at; source = End.child i.name p.name place; line = i.line })
link_out i p (place, Signal.constant) = None

-- the links of a port with what is connected to it, by its direction
abbrev pub links_of_port : Inst → Port → Dir → List (ℕ × Signal) → List Link
links_of_port i p Input places = filter_map (λ e. Some (link_in i p e)) places
links_of_port i p Output places = filter_map (link_out i p) places

-- the port of a connection
abbrev pub port_of_conn : Sources → Inst → Conn → Option Port
port_of_conn s i c = option_and_then (port_named c.port) (option_and_then (ports_in s) (type_of s i.kind))

-- the links of a port with an expression, where both are there
abbrev pub links_between : Module → Inst → Option Port → Option Expr → List Link
links_between m i None expr = []
links_between m i (Some p) None = []
links_between m i (Some p) (Some e) = links_of_port i p p.dir (enumerate_from 0 (signals m e))

-- the links of a connection
abbrev pub links_of_conn : Sources → Module → Inst → Conn → List Link
links_of_conn s m i c = links_between m i (port_of_conn s i c) c.expr

-- the left side of an assignment is fed, bit by bit, by the right side
abbrev pub links_of_assign : Module → Assign → List Link
links_of_assign m a =
    filter_map (λ (e : Signal × Signal). Some (record { fed = end_of e.0; source = end_of e.1; line = a.line })) (zip (signals m a.left) (signals m a.right))

-- all links that the lines of a module make
abbrev pub links_in : Sources → Module → List Link
links_in s m = flat_map (λ (i : Inst). flat_map (links_of_conn s m i) i.conns) m.insts ++ flat_map (links_of_assign m) m.assigns

-- where an end stands when the module is at the end of a way; a constant stands nowhere
abbrev pub spot_of : Way → End → Option Spot
spot_of way (End.inner net place) = Some (record { way = way; net = net; place = place })
spot_of way (End.child inst port place) = Some (record { way = inst ∷ way; net = port; place = place })
spot_of way End.constant = None

-- One of the links in the hierarchy: the instance whose module has its line, its number there, and the line. `source` is
-- None where the bit is fed by a constant.
pub record IsLink (s : Sources) (way : Way) (number line : ℕ) (fed : Spot) (source : Option Spot) : Type 0 where
  pub module_number : ℕ
  pub of_module : Module
  pub is_module : IsOfModule s way module_number of_module
  pub link : Link
  pub there : slice_get (links_in s of_module) number ≡ Some link
  pub on_line : link.line ≡ line
  pub fed_there : spot_of way link.fed ≡ Some fed
  pub source_there : spot_of way link.source ≡ source

-- an output pin of an isolation cell or level shifter is fed by the through pin of that cell
pub record IsThrough (s : Sources) (fed source : Spot) : Type 0 where
  pub number : ℕ
  pub cell : Cell
  pub body : body_at s fed.way ≡ Some (CellBody number)
  pub is_cell : slice_get s.cells.cells number ≡ Some cell
  pub interface_cell : is_interface_cell (Some cell) ≡ true
  pub out_pin : Pin
  pub is_out_pin : find (λ (p : Pin). same_name fed.net p.name) cell.pins ≡ Some out_pin
  pub is_out : out_pin.dir ≡ Output
  pub through_pin : Pin
  pub is_through_pin : option_and_then (slice_get cell.pins) cell.through ≡ Some through_pin
  pub is_source : source ≡ record { way = fed.way; net = through_pin.name; place = 0 }

-- a model says that an output bit of its instance is fed by this input bit
pub record IsModelFeed (s : Sources) (fed source : Spot) : Type 0 where
  pub number : ℕ
  pub model : Model
  pub body : body_at s fed.way ≡ Some (ModelBody number)
  pub is_model : slice_get s.models number ≡ Some model
  pub one_instance : source.way ≡ fed.way
  pub out_range : Option (ℕ × ℕ)
  pub in_range : Option (ℕ × ℕ)
  pub is_out_range : range_of s fed ≡ Some out_range
  pub is_in_range : range_of s source ≡ Some in_range
  pub elements : List Element
  pub says : IsIn (Feed (bit_name fed.net out_range fed.place) (bit_name source.net in_range source.place) elements) model.partials

-- the line that makes the instance of this name in the module at the way
pub record IsInstLine (s : Sources) (way : Way) (name : List ℕ) (line : ℕ) : Type 0 where
  pub module_number : ℕ
  pub of_module : Module
  pub is_module : IsOfModule s way module_number of_module
  pub inst : Inst
  pub is_inst : inst_named of_module name ≡ Some inst
  pub on_line : inst.line ≡ line

-- One bit is fed by another, by a line in the module at the way: by a link of the line, or within the instance that the
-- line makes, through an isolation cell or level shifter or as its model says.
pub data IsFed (s : Sources) (fed source : Spot) (way : Way) (line : ℕ) : Type 0 where
  link : (number : ℕ) → IsLink s way number line fed (Some source) → IsFed s fed source way line
  through : (name : List ℕ) → fed.way ≡ name ∷ way → IsInstLine s way name line → IsThrough s fed source → IsFed s fed source way line
  feed : (name : List ℕ) → fed.way ≡ name ∷ way → IsInstLine s way name line → IsModelFeed s fed source → IsFed s fed source way line

-- one bit is fed by another, by any line
abbrev pub Feeds : Sources → Spot → Spot → Type 0
Feeds s fed source = (way : Way) × (line : ℕ) × IsFed s fed source way line
