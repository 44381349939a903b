-- What a module declares, in the order of its text, and which declarations it cannot have.
use Rattle.std.specs.Prelude.{◌≡◌, ◌≢◌, ℕ, List, [], ◌∷◌, ◌++◌, Option, Some, None, ◌⊎◌, map}
use Rattle.std.specs.List.{flat_map}
use Rattle.list_defs.specs.Members.{IsIn}
use Rattle.net_text.specs.NetlistGrammar.{Range, Named, Shape, Header, Names, Shaped, Item, Directions, Wires, Assigns, Instance, ModuleWords}

-- a port in the header, with its direction where the header says it; the direction of a port; a wire; an instance
pub data Declaration : Type 0 where
  HeaderPort : Named → Option Shape → Declaration
  PortDirection : Named → Shape → Declaration
  WireName : Named → Option Range → Declaration
  InstanceName : Named → Declaration

-- the ports of a header with directions: a plain name has the direction and range of the one before it
abbrev pub shaped_ports : Shape → List (Option Shape × Named) → List Declaration
shaped_ports shape [] = []
shaped_ports shape ((None, name) ∷ more) = HeaderPort name (Some shape) ∷ shaped_ports shape more
shaped_ports shape ((Some other, name) ∷ more) = HeaderPort name (Some other) ∷ shaped_ports other more

abbrev pub header_ports : Header → List Declaration
header_ports (Names names) = map (λ name. HeaderPort name None) names
header_ports (Shaped shape name more) = HeaderPort name (Some shape) ∷ shaped_ports shape more

abbrev pub item_declarations : Item → List Declaration
item_declarations (Directions shape names) = map (λ name. PortDirection name shape) names
item_declarations (Wires range names) = map (λ name. WireName name range) names
item_declarations (Assigns assigns) = []
item_declarations (Instance words) = InstanceName words.name ∷ []

-- all declarations of a module, in the order of the text
unfoldable pub declarations : ModuleWords → List Declaration
declarations m = header_ports m.header ++ flat_map item_declarations m.items

-- the name that is declared
abbrev pub named_in : Declaration → Named
named_in (HeaderPort name shape) = name
named_in (PortDirection name shape) = name
named_in (WireName name range) = name
named_in (InstanceName name) = name

-- one of the declarations is such a one
abbrev pub HasOne : (Declaration → Type 0) → List Declaration → Type 0
HasOne IsSuch given = (d : Declaration) × IsIn d given × IsSuch d

abbrev pub IsNamed : List ℕ → Declaration → Type 0
IsNamed name d = (named_in d).text ≡ name

abbrev pub IsHeaderPort : List ℕ → Declaration → Type 0
IsHeaderPort name (HeaderPort n shape) = n.text ≡ name
IsHeaderPort name (PortDirection n shape) = ⊥
IsHeaderPort name (WireName n range) = ⊥
IsHeaderPort name (InstanceName n) = ⊥

-- it says the direction of the port
abbrev pub GivesDirection : List ℕ → Declaration → Type 0
GivesDirection name (HeaderPort n None) = ⊥
GivesDirection name (HeaderPort n (Some shape)) = n.text ≡ name
GivesDirection name (PortDirection n shape) = n.text ≡ name
GivesDirection name (WireName n range) = ⊥
GivesDirection name (InstanceName n) = ⊥

-- it says the direction of the port, with another range
abbrev pub IsPortOfOther : List ℕ → Option Range → Declaration → Type 0
IsPortOfOther name range (HeaderPort n None) = ⊥
IsPortOfOther name range (HeaderPort n (Some shape)) = (n.text ≡ name) × (shape.range ≢ range)
IsPortOfOther name range (PortDirection n shape) = (n.text ≡ name) × (shape.range ≢ range)
IsPortOfOther name range (WireName n other) = ⊥
IsPortOfOther name range (InstanceName n) = ⊥

abbrev pub IsWire : List ℕ → Declaration → Type 0
IsWire name (HeaderPort n shape) = ⊥
IsWire name (PortDirection n shape) = ⊥
IsWire name (WireName n range) = n.text ≡ name
IsWire name (InstanceName n) = ⊥

-- it is the wire, with another range
abbrev pub IsWireOfOther : List ℕ → Option Range → Declaration → Type 0
IsWireOfOther name range (HeaderPort n shape) = ⊥
IsWireOfOther name range (PortDirection n shape) = ⊥
IsWireOfOther name range (WireName n other) = (n.text ≡ name) × (other ≢ range)
IsWireOfOther name range (InstanceName n) = ⊥

abbrev pub IsInstance : List ℕ → Declaration → Type 0
IsInstance name (HeaderPort n shape) = ⊥
IsInstance name (PortDirection n shape) = ⊥
IsInstance name (WireName n range) = ⊥
IsInstance name (InstanceName n) = n.text ≡ name

-- A declaration that a module cannot have, by those before it and behind it. Ports, wires and instances share one space of names.
-- A header cannot have a name twice, nor a port whose direction is said nowhere.
-- An item cannot give a direction to a name that the header doesn't hold, nor a second one, nor with another range than a wire before it.
-- A wire cannot have the name of a wire or an instance, nor of a port with another range; so it may repeat a port's name once.
-- An instance cannot have a name that is declared.
abbrev pub IsRefused : List Declaration → Declaration → List Declaration → Type 0
IsRefused before (HeaderPort n shape) behind =
    HasOne (IsNamed n.text) before ⊎ ((shape ≡ None) × (¬ HasOne (GivesDirection n.text) behind))
IsRefused before (PortDirection n shape) behind =
    (¬ HasOne (IsHeaderPort n.text) before) ⊎ HasOne (GivesDirection n.text) before ⊎ HasOne (IsWireOfOther n.text shape.range) before
IsRefused before (WireName n range) behind =
    HasOne (IsWire n.text) before ⊎ HasOne (IsInstance n.text) before ⊎ HasOne (IsPortOfOther n.text range) before
IsRefused before (InstanceName n) behind = HasOne (IsNamed n.text) before
