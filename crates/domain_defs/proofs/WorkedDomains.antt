-- A block with a port of two bits in a top, and intents for it, for the facts that show that no definition is empty.
use Rattle.std.proofs.Common.{ℕ, true, false, List, [], ◌∷◌, Option, Some, None}
use Rattle.std.specs.Prelude.{codes}
use Rattle.pw_defs.specs.declared.cells.Pin.{Pin}
use Rattle.pw_defs.specs.declared.cells.Dir.TheVariants.{Input, Output}
use Rattle.pw_defs.specs.declared.conditions.Cond.TheVariants.{Is, Any}
use Rattle.pw_defs.specs.declared.design.Body.TheVariants.{Module as ModuleBody, Cell as CellBody}
use Rattle.pw_defs.specs.declared.design.Design.{Design}
use Rattle.pw_defs.specs.declared.design.Named.{Named}
use Rattle.pw_defs.specs.declared.design.Named.TheVariants.{Port, PortBit as NamedBit}
use Rattle.pw_defs.specs.declared.design.PortBit.{PortBit}
use Rattle.pw_defs.specs.declared.intent.CellSet.{CellSet}
use Rattle.pw_defs.specs.declared.intent.Domain.{Domain}
use Rattle.pw_defs.specs.declared.intent.Intent.{Intent}
use Rattle.pw_defs.specs.declared.intent.SupplySet.{SupplySet}
use Rattle.pw_defs.specs.declared.intent.Want.TheVariants.{Check}
use Rattle.pw_defs.specs.declared.netlist.Module.{Module}
use Rattle.pw_defs.specs.declared.netlist.Port.{Port as ModulePort}
use Rattle.pw_defs.specs.declared.strategies.Act.{Act}
use Rattle.pw_defs.specs.declared.strategies.Act.TheVariants.{Iso}
use Rattle.pw_defs.specs.declared.strategies.Mode.TheVariants.{Plain, Force, No}
use Rattle.pw_defs.specs.declared.strategies.Strategy.{Strategy}
use Rattle.pw_defs.specs.declared.supplies.SupplyKind.TheVariants.{Net}
use Rattle.pw_defs.specs.declared.values.Value.TheVariants.{Off, On}

-- an input pin, and the output pin Y
abbrev pub in_and_out : List ℕ → List Pin
in_and_out input = record { name = input; dir = Input } ∷ record { name = codes "Y"; dir = Output } ∷ []

-- an input port of two bits
abbrev pub two_bits : List ℕ → ModulePort
two_bits name = record { name = name; dir = Input; range = Some (1, 0) }

-- the head of a module: its name, its line and its ports
abbrev pub head : List ℕ → ℕ → List ModulePort → Module
head name line ports = record { name = name; ports = ports; nets = []; assigns = []; insts = []; line = line }

-- The top with its port x[1:0], and below it the block u_b with its port a[1:0], which holds a buffer and an isolation
-- cell. Nothing here asks for the bits.
abbrev pub block : Design
block = record {
  cells = record {
    cells =
        record { name = codes "BUF"; pins = in_and_out (codes "A"); iso = false; shift = false; through = None; enable = None }
        ∷ record { name = codes "ISO"; pins = in_and_out (codes "D"); iso = true; shift = false; through = Some 0; enable = None } ∷ [];
  };
  modules =
      head (codes "blk") 1 (two_bits (codes "a") ∷ record { name = codes "z"; dir = Output; range = None } ∷ [])
      ∷ head (codes "top") 5 (two_bits (codes "x") ∷ []) ∷ [];
  models = [];
  insts =
      record { path = []; parent = None; body = ModuleBody 1 }
      ∷ record { path = codes "u_b"; parent = Some 0; body = ModuleBody 0 }
      ∷ record { path = codes "u_b/i"; parent = Some 1; body = CellBody 0 }
      ∷ record { path = codes "u_b/s"; parent = Some 1; body = CellBody 1 } ∷ [];
  bits = [];
}

-- a set without ground
abbrev pub alone : ℕ → SupplySet
alone power = record { power = power; ground = None }

-- a domain made by a line, with these elements, and without these instances
abbrev pub domain : List ℕ → ℕ → List ℕ → List ℕ → Domain
domain name line elements excluded =
    record { name = name; unit = 0; line = line; elements = elements; excluded = excluded; primary = alone 0; default_iso = None }

-- the top in one domain, the block in another
abbrev pub two_domains : List Domain
two_domains = domain (codes "PT") 4 (0 ∷ []) [] ∷ domain (codes "PB") 5 (1 ∷ []) [] ∷ []

-- the block's domain excludes the buffer
abbrev pub without_buffer : List Domain
without_buffer = domain (codes "PT") 4 (0 ∷ []) [] ∷ domain (codes "PB") 5 (1 ∷ []) (2 ∷ []) ∷ []

-- a third domain has the buffer, which the block's domain excludes
abbrev pub buffer_apart : List Domain
buffer_apart = domain (codes "PT") 4 (0 ∷ []) [] ∷ domain (codes "PB") 5 (1 ∷ []) (2 ∷ []) ∷ domain (codes "PX") 6 (2 ∷ []) [] ∷ []

-- two domains have the block
abbrev pub block_twice : List Domain
block_twice = domain (codes "PT") 4 (0 ∷ 1 ∷ []) [] ∷ domain (codes "PB") 5 (1 ∷ []) [] ∷ []

-- a strategy of the block's domain for its inputs and outputs at the upper boundary
abbrev pub strategy : Option (List Named) → List ℕ → Act → Strategy
strategy elements cells act = record {
  domain = 1;
  elements = elements;
  excluded = [];
  inputs = true;
  outputs = true;
  upper = true;
  lower = false;
  cells = cells;
  filter = record { source = None; sink = None; diff = false };
  act = act;
}

-- the bits of the block's port a, from the left
abbrev pub left_bit : PortBit
left_bit = record { inst = 1; port = 0; place = 0 }

abbrev pub right_bit : PortBit
right_bit = record { inst = 1; port = 0; place = 1 }

-- a strategy that names the right bit and forbids isolation, one that names the port and forces it, and one without elements
abbrev pub by_bit : Strategy
by_bit = strategy (Some (NamedBit right_bit ∷ [])) [] (Iso No None)

abbrev pub by_port : Strategy
by_port = strategy (Some (Port 1 0 ∷ [])) [] (Iso Force (Some (alone 0)))

abbrev pub by_none : Strategy
by_none = strategy None [] (Iso Plain (Some (alone 0)))

-- the intent over these domains with these strategies and lines for cells
abbrev pub intent_with : List Domain → List ℕ → List Strategy → List CellSet → Intent
intent_with domains domain_of strategies cell_sets = record {
  want = Check;
  units = record { inst = 0; outer = None; passed = 0; ports = []; exports = [] } ∷ [];
  supplies = record { name = codes "VB"; unit = 0; kind = Net; feeder = None; inputs = []; said = record { unit = 0; value = On 800000 } ∷ [] } ∷ [];
  lists = record { unit = 0; root = 0; values = Off ∷ On 800000 ∷ [] } ∷ [];
  domains = domains;
  domain_of = domain_of;
  strategies = strategies;
  cell_sets = cell_sets;
  port_sets = [];
  conds = record { unit = 0; cond = Any (Is 0 (On 800000) ∷ []) } ∷ [];
}

abbrev pub block_intent : Intent
block_intent = intent_with two_domains (0 ∷ 1 ∷ 1 ∷ 1 ∷ []) (by_bit ∷ by_port ∷ by_none ∷ []) []
