-- The intent of the worked chip, whose second supply has a value more than its macro.
use Rattle.std.specs.Prelude.{ℕ, [], ◌∷◌, Some, None, codes}
use Rattle.pw_defs.specs.declared.intent.Intent.{Intent}
use Rattle.pw_defs.specs.declared.intent.SupplySet.{SupplySet}
use Rattle.pw_defs.specs.declared.intent.Want.TheVariants.{Check}
use Rattle.pw_defs.specs.declared.supplies.SupplyKind.TheVariants.{InPort, Net}
use Rattle.pw_defs.specs.declared.values.Value.TheVariants.{Off, On}

-- a set of a power alone
abbrev pub alone : ℕ → SupplySet
alone power = record { power = power; ground = None }

abbrev pub chip_intent : Intent
chip_intent = record {
  want = Check;
  units =
      record { inst = 0; outer = None; passed = 0; ports = []; exports = [] }
      ∷ record { inst = 1; outer = Some 0; passed = 0; ports = 2 ∷ 3 ∷ []; exports = [] } ∷ [];
  supplies =
      record { name = codes "V1"; unit = 0; kind = Net; feeder = None; inputs = []; said = record { unit = 0; value = Off } ∷ record { unit = 0; value = On 800000 } ∷ [] }
      ∷ record { name = codes "V2"; unit = 0; kind = Net; feeder = None; inputs = []; said = record { unit = 0; value = On 800000 } ∷ record { unit = 0; value = On 900000 } ∷ [] }
      ∷ record { name = codes "m/VA"; unit = 1; kind = InPort; feeder = Some 0; inputs = []; said = record { unit = 1; value = Off } ∷ record { unit = 1; value = On 800000 } ∷ [] }
      ∷ record { name = codes "m/VB"; unit = 1; kind = InPort; feeder = Some 1; inputs = []; said = record { unit = 1; value = On 800000 } ∷ [] } ∷ [];
  lists =
      record { unit = 0; root = 0; values = Off ∷ On 800000 ∷ [] }
      ∷ record { unit = 0; root = 1; values = Off ∷ On 800000 ∷ On 900000 ∷ [] }
      ∷ record { unit = 1; root = 2; values = Off ∷ On 800000 ∷ [] }
      ∷ record { unit = 1; root = 3; values = Off ∷ On 800000 ∷ [] } ∷ [];
  domains =
      record { name = codes "PC"; unit = 0; line = 6; elements = 0 ∷ []; excluded = []; primary = alone 1; default_iso = None }
      ∷ record { name = codes "m/PT"; unit = 1; line = 8; elements = 1 ∷ []; excluded = []; primary = alone 3; default_iso = None }
      ∷ record { name = codes "m/PA"; unit = 1; line = 9; elements = 2 ∷ []; excluded = []; primary = alone 2; default_iso = None }
      ∷ record { name = codes "m/PB"; unit = 1; line = 10; elements = 4 ∷ []; excluded = []; primary = alone 3; default_iso = None } ∷ [];
  domain_of = 0 ∷ 1 ∷ 2 ∷ 2 ∷ 3 ∷ 3 ∷ [];
  strategies = [];
  cell_sets = [];
  port_sets = [];
  conds = [];
}
