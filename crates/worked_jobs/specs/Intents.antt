-- The intents of the scripts over their designs.
use Rattle.std.specs.Prelude.{ℕ, [], ◌∷◌, Option, Some, None, true, false, codes}
use Rattle.pw_defs.specs.declared.values.Value.TheVariants.{Off, On}
use Rattle.pw_defs.specs.declared.conditions.Cond.TheVariants.{Is, Any}
use Rattle.pw_defs.specs.declared.intent.Want.TheVariants.{Check}
use Rattle.pw_defs.specs.declared.intent.Intent.{Intent}
use Rattle.pw_defs.specs.declared.intent.SupplySet.{SupplySet}
use Rattle.pw_defs.specs.declared.supplies.SupplyKind.TheVariants.{Net}
use Rattle.pw_defs.specs.declared.strategies.Mode.TheVariants.{Plain, Force, No}
use Rattle.pw_defs.specs.declared.strategies.Act.TheVariants.{Iso}
use Rattle.pw_defs.specs.declared.design.Named.TheVariants.{Port, PortBit as BitNamed}

-- the ground of both sets: VSS
abbrev ground : Option ℕ
ground = Some 2

-- the set of the first block: VA over VSS
abbrev pub switchable : SupplySet
switchable = record { power = 0; ground = ground }

-- the set of the second block and of the top: VB over VSS
abbrev pub steady : SupplySet
steady = record { power = 1; ground = ground }

-- the intent of the two blocks
abbrev pub pair : Intent
pair = record {
  want = Check;
  units =
      record { inst = 0; outer = None; passed = 0; ports = []; exports = [] } ∷ [];
  supplies =
      record { name = codes "VA"; unit = 0; kind = Net; feeder = None; inputs = []; said = record { unit = 0; value = Off } ∷ record { unit = 0; value = (On 800000) } ∷ [] }
      ∷ record { name = codes "VB"; unit = 0; kind = Net; feeder = None; inputs = []; said = record { unit = 0; value = (On 800000) } ∷ [] }
      ∷ record { name = codes "VSS"; unit = 0; kind = Net; feeder = None; inputs = []; said = record { unit = 0; value = (On 0) } ∷ [] } ∷ [];
  lists =
      record { unit = 0; root = 0; values = Off ∷ (On 800000) ∷ [] }
      ∷ record { unit = 0; root = 1; values = Off ∷ (On 800000) ∷ [] }
      ∷ record { unit = 0; root = 2; values = Off ∷ (On 0) ∷ [] } ∷ [];
  domains =
      record { name = codes "PT"; unit = 0; line = 9; elements = 0 ∷ []; excluded = []; primary = steady; default_iso = None }
      ∷ record { name = codes "PA"; unit = 0; line = 10; elements = 1 ∷ []; excluded = []; primary = switchable; default_iso = None }
      ∷ record { name = codes "PB"; unit = 0; line = 11; elements = 3 ∷ []; excluded = []; primary = steady; default_iso = None } ∷ [];
  domain_of = 0 ∷ 1 ∷ 1 ∷ 2 ∷ 2 ∷ [];
  strategies = [];
  cell_sets = [];
  port_sets = [];
  conds =
      record { unit = 0; cond = Any (Is 0 Off ∷ Is 0 (On 800000) ∷ []) }
      ∷ record { unit = 0; cond = Any (Is 1 (On 800000) ∷ []) }
      ∷ record { unit = 0; cond = Any (Is 2 (On 0) ∷ []) } ∷ [];
}

-- the one set of the vector job: VB alone
abbrev pub vector_set : SupplySet
vector_set = record { power = 0; ground = None }

-- the intent of the block whose port has two bits
abbrev pub bits : Intent
bits = record {
  want = Check;
  units =
      record { inst = 0; outer = None; passed = 0; ports = []; exports = [] } ∷ [];
  supplies =
      record { name = codes "VB"; unit = 0; kind = Net; feeder = None; inputs = []; said = record { unit = 0; value = (On 800000) } ∷ [] } ∷ [];
  lists =
      record { unit = 0; root = 0; values = Off ∷ (On 800000) ∷ [] } ∷ [];
  domains =
      record { name = codes "PT"; unit = 0; line = 4; elements = 0 ∷ []; excluded = []; primary = vector_set; default_iso = None }
      ∷ record { name = codes "PB"; unit = 0; line = 5; elements = 1 ∷ []; excluded = []; primary = vector_set; default_iso = None } ∷ [];
  domain_of = 0 ∷ 1 ∷ 1 ∷ 1 ∷ [];
  strategies =
      record { domain = 1; elements = Some (BitNamed (record { inst = 1; port = 0; place = 1 }) ∷ []); excluded = []; inputs = true; outputs = true; upper = true; lower = false; cells = []; filter = record { source = None; sink = None; diff = false }; act = Iso No None }
      ∷ record { domain = 1; elements = Some (Port 1 0 ∷ []); excluded = []; inputs = true; outputs = true; upper = true; lower = false; cells = []; filter = record { source = None; sink = None; diff = false }; act = Iso Force (Some vector_set) }
      ∷ record { domain = 1; elements = None; excluded = []; inputs = true; outputs = true; upper = true; lower = false; cells = []; filter = record { source = None; sink = None; diff = false }; act = Iso Plain (Some vector_set) } ∷ [];
  cell_sets = [];
  port_sets = [];
  conds =
      record { unit = 0; cond = Any (Is 0 (On 800000) ∷ []) } ∷ [];
}
