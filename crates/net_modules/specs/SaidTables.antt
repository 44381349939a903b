-- Tables that tell what declarations say of each name.
use Rattle.std.specs.Prelude.{◌≡◌, ℕ, List, Option, Some, None, false, length, slice_index_or, if◌then◌else◌}
use Rattle.std.specs.Option.{option_map}
use Rattle.pw_defs.specs.declared.netlist.Net.{Net}
use Rattle.pw_defs.specs.declared.netlist.Port.{Port}
use Rattle.list_defs.specs.Members.{place_of, same_name}
use Rattle.net_text.specs.SecondDeclarations.{Declaration, HeaderPort, PortDirection, WireName, InstanceName}
use Rattle.net_text.specs.NetlistGrammar.{Shape}
use Rattle.net_text.specs.ParserViews.{shape_view}
use Rattle.net_modules.specs.Sayings.{Saying, nothing_said, said_after, said_of}
use Rattle.net_modules.specs.declared.said.Said.{Said}
use Rattle.net_modules.specs.declared.tables.SaidTable.{SaidTable}

abbrev pub said_view : Said → Saying
said_view s = record { named = s.named; port = s.port; inst = s.inst; shape = option_map shape_view s.shape; wire = s.wire }

-- what stands past the end
abbrev pub no_said : Said
no_said = record { named = false; port = false; inst = false; shape = None; wire = None }

abbrev pub said_in : List Said → Option ℕ → Saying
said_in said None = nothing_said
said_in said (Some n) = said_view (slice_index_or said n no_said)

-- what a table tells of a name
unfoldable pub said_at : SaidTable → List ℕ → Saying
said_at t name = said_in t.said.items (place_of (same_name name) t.names)

-- each name of the table has its place
abbrev pub HasPlaces : SaidTable → Type 0
HasPlaces t = length t.said.items ≡ length t.names

-- the table tells what these declarations say
pub record IsTableOf (t : SaidTable) (given : List Declaration) : Type 0 where
  pub places : HasPlaces t
  pub tells : (name : List ℕ) → said_at t name ≡ said_of name given

-- one table tells of each name what another does
pub record TellsAs (old new : SaidTable) : Type 0 where
  pub places : HasPlaces new
  pub tells : (name : List ℕ) → said_at new name ≡ said_at old name

-- one table tells what another does with one more declaration
pub record TellsMore (old new : SaidTable) (d : Declaration) : Type 0 where
  pub places : HasPlaces new
  pub tells : (name : List ℕ) → said_at new name ≡ said_after name (said_at old name) d

-- a port with its direction and range
abbrev pub port_of : List ℕ → Shape → Port
port_of name s = record { name = name; dir = s.dir; range = s.range }

-- the port that a declaration is, by a table of what is said of ports
abbrev pub port_by : SaidTable → Declaration → Option Port
port_by t (HeaderPort n shape) = option_map (port_of n.text) (said_at t n.text).shape
port_by t (PortDirection n shape) = None
port_by t (WireName n range) = None
port_by t (InstanceName n) = None

-- the wire that a declaration is, by such a table
abbrev pub net_by : SaidTable → Declaration → Option Net
net_by t (HeaderPort n shape) = None
net_by t (PortDirection n shape) = None
net_by t (WireName n range) = if (said_at t n.text).port then None else Some (record { name = n.text; range = range })
net_by t (InstanceName n) = None
