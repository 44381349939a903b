-- The instances at and below the top, and the bits of the design with what feeds them.
use Rattle.std.specs.Prelude.{ℕ, ◌+◌, ◌==◌, Bool, false, ◌&&◌, nat_lt, List, [], ◌∷◌, ◌++◌, Option, Some, None, map, option_map, option_and_then, slice_get, length, slice_index, if◌then◌else◌}
use Rattle.std.specs.List.{filter_map, flat_map, enumerate_from, find}
use Rattle.pw_defs.specs.declared.design.Bit.{Bit}
use Rattle.pw_defs.specs.declared.design.Body.{Body}
use Rattle.pw_defs.specs.declared.design.Body.TheVariants.{Module, Cell, Model}
use Rattle.pw_defs.specs.declared.design.Feeder.{Feeder}
use Rattle.pw_defs.specs.declared.design.Feeder.TheVariants.{Bit as BitFeeder, Driver, Nothing}
use Rattle.pw_defs.specs.declared.design.PortBit.{PortBit}
use Rattle.line_forms.specs.declared.netlist_lines.ConnWords.{ConnWords}
use Rattle.line_forms.specs.declared.netlist_lines.InstLine.{InstLine}
use Rattle.line_forms.specs.declared.netlist_lines.ModuleLines.{ModuleLines}
use Rattle.design_defs.specs.Names.{joined}
use Rattle.design_defs.specs.Ports.{is_input, is_output}
use Rattle.form_design.specs.declared.hierarchy.Held.{Held}
use Rattle.list_defs.specs.Members.{same_name, place_of}
use Rattle.form_design.specs.Names.{Table, insts, body_named, list_at, ports_of, dirs_of, bits_of}

-- both of two
abbrev pub both : {X Y : Type 0} → Option X → Option Y → Option (X × Y)
both x y = option_and_then (λ a. option_map (λ b. (a, b)) y) x

-- the places that a connection joins, where it names a net
abbrev pub join_of : Table → ℕ → Body → ConnWords → Option (ℕ × ℕ)
join_of t m body c =
    both (place_of (same_name c.port) (ports_of t body)) (option_and_then (λ net. place_of (same_name net) (list_at t.nets m)) c.net)

-- an instance line of a module, under the instance `parent` of that module with its path
abbrev pub held_under : Table → ℕ → List ℕ → ℕ → InstLine → Option Held
held_under t m path parent i =
    option_map (λ body. record { path = joined path i.name; parent = Some parent; body = body; joins = filter_map (join_of t m body) i.conns })
    (body_named t i.kind)

abbrev pub lines_in : Option ModuleLines → List InstLine
lines_in None = []
lines_in (Some m) = insts m

-- the instance lines of a module, which are none past the last module
abbrev pub lines_at : List ModuleLines → ℕ → List InstLine
lines_at modules m = lines_in (slice_get modules m)

-- the instances directly in an instance of this
abbrev pub held_by : Table → List ModuleLines → List ℕ → ℕ → Body → List Held
held_by t modules path parent (Module m) = filter_map (held_under t m path parent) (lines_at modules m)
held_by t modules path parent (Cell c) = []
held_by t modules path parent (Model m) = []

abbrev pub top_held : ℕ → Held
top_held top = record { path = []; parent = None; body = Module top; joins = [] }

-- the instances in the top
abbrev pub children : Table → List ModuleLines → ℕ → List Held
children t modules top = held_by t modules [] 0 (Module top)

abbrev pub held_below : Table → List ModuleLines → ℕ × Held → List Held
held_below t modules child = held_by t modules child.1.path child.0 child.1.body

-- all instances: the top, those in it, and those in these, in order
abbrev pub helds : Table → List ModuleLines → ℕ → List Held
helds t modules top =
    top_held top ∷ (children t modules top ++ flat_map (held_below t modules) (enumerate_from 1 (children t modules top)))

-- how many bits an instance has
abbrev pub size : Table → Held → ℕ
size t h = length (bits_of t h.body)

-- the number of the first bit of each instance
abbrev pub starts_from : Table → ℕ → List Held → List ℕ
starts_from t n [] = []
starts_from t n (h ∷ hs) = n ∷ starts_from t (n + size t h) hs

-- The number of a bit by the numbers of the first bits: the bits of each instance stand together, in order of the
-- instances.
abbrev pub number : List ℕ → ℕ → ℕ → ℕ
number starts inst place = slice_index starts inst + place

-- A link of a connection, as the numbers of the bit that is fed and the bit that feeds it: an input is fed by the
-- net outside, and the net outside by an output.
abbrev pub link_of : Table → List ℕ → ℕ → ℕ → Body → ℕ × ℕ → ℕ × ℕ
link_of t starts inst parent body join =
    if is_input (slice_get (dirs_of t body) join.0)
    then (number starts inst join.0, number starts parent join.1)
    else (number starts parent join.1, number starts inst join.0)

abbrev pub links_under : Table → List ℕ → ℕ × Held → Option ℕ → List (ℕ × ℕ)
links_under t starts e None = []
links_under t starts e (Some parent) = map (link_of t starts e.0 parent e.1.body) e.1.joins

abbrev pub links_at : Table → List ℕ → ℕ × Held → List (ℕ × ℕ)
links_at t starts e = links_under t starts e e.1.parent

-- the links of all instances
abbrev pub links_with : Table → List ℕ → List Held → List (ℕ × ℕ)
links_with t starts hs = flat_map (links_at t starts) (enumerate_from 0 hs)

abbrev pub links : Table → List Held → List (ℕ × ℕ)
links t hs = links_with t (starts_from t 0 hs) hs

-- whether a bit is a driver: an output pin of a cell, or an input of the top
abbrev pub drives : Table → ℕ → Body → ℕ → Bool
drives t inst (Cell c) place = is_output (slice_get (dirs_of t (Cell c)) place)
drives t inst (Module m) place = inst == 0 && is_input (slice_get (dirs_of t (Module m)) place)
drives t inst (Model m) place = false

-- what a bit has before any link: itself as the driver, or nothing
abbrev pub own_feeder : Table → ℕ → Body → ℕ → Feeder
own_feeder t inst body place =
    if drives t inst body place then Driver (record { inst = inst; port = place; place = 0 }) else Nothing

-- the port bit of a place, where it is one of the ports or pins
abbrev pub port_bit : Table → ℕ → Body → ℕ → Option PortBit
port_bit t inst body place = if nat_lt place (length (ports_of t body)) then Some (record { inst = inst; port = place; place = 0 }) else None

-- a bit of an instance, from its place and name, with what feeds it of its own
abbrev pub bit_at : Table → ℕ × Held → ℕ × List ℕ → Bit
bit_at t e b = record {
  name = joined e.1.path b.1;
  owner = e.0;
  port = port_bit t e.0 e.1.body b.0;
  feeder = own_feeder t e.0 e.1.body b.0;
}

abbrev pub bits_at : Table → ℕ × Held → List Bit
bits_at t e = map (bit_at t e) (enumerate_from 0 (bits_of t e.1.body))

-- all bits before any link
abbrev pub own_bits : Table → List Held → List Bit
own_bits t hs = flat_map (bits_at t) (enumerate_from 0 hs)

abbrev pub linked : Feeder → Option (ℕ × ℕ) → Feeder
linked own None = own
linked own (Some l) = BitFeeder l.1

-- what feeds a bit: the other end of the link that feeds it, or what it has of its own
abbrev pub feeder_of : List (ℕ × ℕ) → ℕ → Feeder → Feeder
feeder_of links n own = linked own (find (λ (l : ℕ × ℕ). n == l.0) links)

abbrev pub fed : List (ℕ × ℕ) → ℕ × Bit → Bit
fed links e = record { name = e.1.name; owner = e.1.owner; port = e.1.port; feeder = feeder_of links e.0 e.1.feeder }

-- bits with their links
abbrev pub linked_bits : List (ℕ × ℕ) → List Bit → List Bit
linked_bits links bits = map (fed links) (enumerate_from 0 bits)

-- all bits
abbrev pub bits : Table → List Held → List Bit
bits t hs = linked_bits (links t hs) (own_bits t hs)
