-- What the declarations of a module say of a name.
use Rattle.std.specs.Prelude.{ℕ, Bool, true, false, not, ◌||◌, ◌&&◌, ◌==◌, List, Option, Some, None, is_some, if◌then◌else◌}
use Rattle.std.specs.List.{list_any, filter_map}
use Rattle.std.specs.Option.{option_map}
use Rattle.list_defs.specs.Members.{same_name}
use Rattle.text_defs.specs.Grammar.{next}
use Rattle.net_text.specs.NetlistGrammar.{Range, Shape}
use Rattle.net_text.specs.SecondDeclarations.{Declaration, HeaderPort, PortDirection, WireName, InstanceName, named_in}
use Rattle.net_text.specs.ModulesMeant.{is_port_named, shape_of}

-- whether it is declared, as a port of the header, as an instance; the first direction and range of the port, the range of the first wire
pub record Saying : Type 0 where
  pub named : Bool
  pub port : Bool
  pub inst : Bool
  pub shape : Option Shape
  pub wire : Option (Option Range)

abbrev pub is_named : List ℕ → Declaration → Bool
is_named name d = same_name (named_in d).text name

abbrev pub is_inst_named : List ℕ → Declaration → Bool
is_inst_named name (HeaderPort n shape) = false
is_inst_named name (PortDirection n shape) = false
is_inst_named name (WireName n range) = false
is_inst_named name (InstanceName n) = same_name n.text name

-- the range that a declaration gives to a wire
abbrev pub range_said : List ℕ → Declaration → Option (Option Range)
range_said name (HeaderPort n shape) = None
range_said name (PortDirection n shape) = None
range_said name (WireName n range) = if same_name n.text name then Some range else None
range_said name (InstanceName n) = None

abbrev pub wire_of : List ℕ → List Declaration → Option (Option Range)
wire_of name given = next (filter_map (range_said name) given)

-- what declarations say of a name
unfoldable pub said_of : List ℕ → List Declaration → Saying
said_of name given = record {
  named = list_any (is_named name) given;
  port = list_any (is_port_named name) given;
  inst = list_any (is_inst_named name) given;
  shape = shape_of name given;
  wire = wire_of name given;
}

-- the first of two that is there
abbrev pub first_of : {A : Type 0} → Option A → Option A → Option A
first_of None b = b
first_of (Some a) b = Some a

-- what is said of a name with one more declaration of it
abbrev pub said_with : Saying → Declaration → Saying
said_with s (HeaderPort n shape) = record { named = true; port = true; inst = s.inst; shape = first_of s.shape shape; wire = s.wire }
said_with s (PortDirection n shape) = record { named = true; port = s.port; inst = s.inst; shape = first_of s.shape (Some shape); wire = s.wire }
said_with s (WireName n range) = record { named = true; port = s.port; inst = s.inst; shape = s.shape; wire = first_of s.wire (Some range) }
said_with s (InstanceName n) = record { named = true; port = s.port; inst = true; shape = s.shape; wire = s.wire }

-- what is said of a name with one more declaration, of whichever name
abbrev pub said_after : List ℕ → Saying → Declaration → Saying
said_after name s d = if is_named name d then said_with s d else s

abbrev pub nothing_said : Saying
nothing_said = record { named = false; port = false; inst = false; shape = None; wire = None }

-- whether it says something of a port
abbrev pub says_port : Declaration → Bool
says_port (HeaderPort n shape) = true
says_port (PortDirection n shape) = true
says_port (WireName n range) = false
says_port (InstanceName n) = false

abbrev pub same_range : Option Range → Option Range → Bool
same_range None None = true
same_range None (Some b) = false
same_range (Some a) None = false
same_range (Some a) (Some b) = a.0 == b.0 && a.1 == b.1

-- whether a range was given, and is another one
abbrev pub is_other : Option (Option Range) → Option Range → Bool
is_other None range = false
is_other (Some given) range = not (same_range given range)

abbrev pub range_in : Shape → Option Range
range_in s = s.range

-- Whether a module cannot have a declaration, by what those before it say of its name, and whether any gives the port its direction.
abbrev pub is_refused : Saying → Bool → Declaration → Bool
is_refused before directed (HeaderPort n None) = before.named || not directed
is_refused before directed (HeaderPort n (Some shape)) = before.named
is_refused before directed (PortDirection n shape) = not before.port || (is_some before.shape || is_other before.wire shape.range)
is_refused before directed (WireName n range) = is_some before.wire || (before.inst || is_other (option_map range_in before.shape) range)
is_refused before directed (InstanceName n) = before.named
