-- The design that rows are of.
use Rattle.std.specs.Prelude.{ℕ, zero, suc, ◌+◌, ◌-◌, Bool, List, [], Option, Some, None, map, length, slice_index_or, nat_le}
use Rattle.std.specs.List.{prefix_len, range_with_len}
use Rattle.pw_defs.specs.declared.design.Bit.{Bit}
use Rattle.pw_defs.specs.declared.design.Body.TheVariants.{Module}
use Rattle.pw_defs.specs.declared.design.Design.{Design}
use Rattle.pw_defs.specs.declared.design.Feeder.{Feeder}
use Rattle.pw_defs.specs.declared.design.Feeder.TheVariants.{Bit as BitFeeder, Through as ThroughFeeder, Driver as DriverFeeder, Constant as ConstantFeeder, Nothing as NoFeeder}
use Rattle.pw_defs.specs.declared.design.Instance.{Instance}
use Rattle.pw_defs.specs.declared.design.PortBit.{PortBit}
use Rattle.design_defs.specs.Names.{joined}
use Rattle.design_rows.specs.declared.tables.Feed.{Feed}
use Rattle.design_rows.specs.declared.tables.Feed.TheVariants.{Bit as BitFeed, Through, Driver, Constant, Nothing}
use Rattle.design_rows.specs.declared.tables.InstanceRow.{InstanceRow}
use Rattle.design_rows.specs.declared.tables.KindRow.{KindRow}
use Rattle.design_rows.specs.declared.tables.PlaceRow.{PlaceRow}
use Rattle.design_rows.specs.declared.tables.PlaceRow.TheVariants.{Net, Port}
use Rattle.design_rows.specs.declared.tables.Rows.{Rows}

-- what is read past the end of a table
abbrev pub no_instance : InstanceRow
no_instance = record { parent = 0; name = 0; kind = 0; first_bit = 0 }

abbrev pub no_kind : KindRow
no_kind = record { body = Module 0; first = 0; size = 0 }

abbrev pub no_place : PlaceRow
no_place = Net 0

abbrev pub no_feed : Feed
no_feed = Nothing

-- the rows by their numbers
abbrev pub inst_at : Rows → ℕ → InstanceRow
inst_at r n = slice_index_or r.insts n no_instance

abbrev pub kind_at : Rows → ℕ → KindRow
kind_at r n = slice_index_or r.kinds n no_kind

abbrev pub place_at : Rows → ℕ → PlaceRow
place_at r n = slice_index_or r.places n no_place

abbrev pub feed_at : Rows → ℕ → Feed
feed_at r n = slice_index_or r.feeds.items n no_feed

abbrev pub name_at : Rows → ℕ → List ℕ
name_at r n = slice_index_or r.names n []

-- what an instance is an instance of, and how many bits it owns
abbrev pub kind_of : Rows → InstanceRow → KindRow
kind_of r i = kind_at r i.kind

abbrev pub size : Rows → InstanceRow → ℕ
size r i = (kind_of r i).size

-- The path of an instance is its name joined to the path of what it is inside; that of the first is empty. (No path has
-- more than `more` names, since what an instance is inside comes before it.)
unfoldable pub path_in : Rows → ℕ → ℕ → List ℕ
path_in r more zero = []
path_in r zero (suc n) = []
path_in r (suc more) (suc n) = joined (path_in r more (inst_at r (suc n)).parent) (name_at r (inst_at r (suc n)).name)

abbrev pub path_at : Rows → ℕ → List ℕ
path_at r n = path_in r n n

-- what an instance is inside; the first is inside none
abbrev pub parent_in : ℕ → ℕ → Option ℕ
parent_in zero parent = None
parent_in (suc n) parent = Some parent

unfoldable pub instance_at : Rows → ℕ → Instance
instance_at r n =
    record { path = path_at r n; parent = parent_in n (inst_at r n).parent; body = (kind_of r (inst_at r n)).body }

-- whether an instance begins at or before a bit
abbrev pub begins_by : ℕ → InstanceRow → Bool
begins_by n i = nat_le i.first_bit n

-- the instance that owns a bit: the last of those that begin at or before it
abbrev pub owner_at : Rows → ℕ → ℕ
owner_at r n = prefix_len (begins_by n) r.insts - 1

-- the place of a bit of an instance
abbrev pub place_in : Rows → InstanceRow → ℕ → PlaceRow
place_in r i n = place_at r ((kind_of r i).first + (n - i.first_bit))

abbrev pub place_of_bit : Rows → ℕ → PlaceRow
place_of_bit r n = place_in r (inst_at r (owner_at r n)) n

abbrev pub place_name : PlaceRow → ℕ
place_name (Net name) = name
place_name (Port name port place) = name

-- the port bit that a place is, of this instance
abbrev pub port_in : ℕ → PlaceRow → Option PortBit
port_in owner (Net name) = None
port_in owner (Port name port place) = Some (record { inst = owner; port = port; place = place })

abbrev pub driver_in : Option PortBit → Feeder
driver_in None = NoFeeder
driver_in (Some p) = DriverFeeder p

-- what feeds a bit of this instance at this place
abbrev pub feeder_in : ℕ → PlaceRow → Feed → Feeder
feeder_in owner p (BitFeed n) = BitFeeder n
feeder_in owner p (Through n) = ThroughFeeder owner n
feeder_in owner p Driver = driver_in (port_in owner p)
feeder_in owner p Constant = ConstantFeeder
feeder_in owner p Nothing = NoFeeder

-- the name of a bit: that of its place, joined to the path of its instance
abbrev pub bit_name_at : Rows → ℕ → List ℕ
bit_name_at r n = joined (path_at r (owner_at r n)) (name_at r (place_name (place_of_bit r n)))

unfoldable pub bit_at : Rows → ℕ → Bit
bit_at r n = record {
  name = bit_name_at r n;
  owner = owner_at r n;
  port = port_in (owner_at r n) (place_of_bit r n);
  feeder = feeder_in (owner_at r n) (place_of_bit r n) (feed_at r n);
}

-- the design: all instances and all bits, by their numbers
abbrev pub design_of : Rows → Design
design_of r = record {
  cells = r.cells;
  modules = r.modules;
  models = r.models;
  insts = map (instance_at r) (range_with_len 0 (length r.insts));
  bits = map (bit_at r) (range_with_len 0 (length r.feeds.items));
}
