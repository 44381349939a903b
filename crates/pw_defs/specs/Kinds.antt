-- The order of the kinds of findings.
use Rattle.std.specs.Prelude.{ℕ}
use Rattle.pw_defs.specs.declared.chains.Kind.{Kind}
use Rattle.pw_defs.specs.declared.chains.Kind.TheVariants.{IsoMissing, IsoRedundant, IsoSupply, IsoIntent, LsMissing, LsRedundant, LsSupply, LsIntent, Tie}

-- the place of a kind among the kinds
abbrev pub kind_number : Kind → ℕ
kind_number IsoMissing = 0
kind_number IsoRedundant = 1
kind_number IsoSupply = 2
kind_number IsoIntent = 3
kind_number LsMissing = 4
kind_number LsRedundant = 5
kind_number LsSupply = 6
kind_number LsIntent = 7
kind_number Tie = 8
