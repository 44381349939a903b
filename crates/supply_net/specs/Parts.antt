-- What a network that is being made holds, and the network that it is.
use Rattle.std.specs.Prelude.{ℕ, List}
use Rattle.pw_defs.specs.declared.supplies.Supply.{Supply}
use Rattle.supply_net.specs.Feeders.{AreAbove, AreFeeders}
use Rattle.supply_net.specs.Names.{NameTable, object_in}
use Rattle.supply_net.specs.Networks.{Network}

-- the supplies by number, how many sets there are, and a table of names
pub record Held : Type 0 where
  pub supplies : List Supply
  pub sets : ℕ
  pub names : NameTable

-- The network: two tables in which each name stands for the same are one.
abbrev pub network_of : Held → Network
network_of h = record { supplies = h.supplies; sets = h.sets; objects = object_in h.names }

-- Feeders are supplies and make no ring, and for each supply one is known that is further up.
pub record IsHeld (supplies : List Supply) (above : List ℕ) : Type 0 where
  pub feeders : AreFeeders supplies
  pub up : AreAbove supplies above
