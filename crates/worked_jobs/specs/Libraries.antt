-- The cells of the library.
use Rattle.std.specs.Prelude.{[], ◌∷◌, Some, None, true, false, codes}
use Rattle.pw_defs.specs.declared.cells.Dir.TheVariants.{Input, Output}
use Rattle.pw_defs.specs.declared.cells.Cell.{Cell}
use Rattle.pw_defs.specs.declared.cells.Cells.{Cells}

-- a buffer
abbrev pub buffer : Cell
buffer = record { name = codes "BUF"; pins = record { name = codes "A"; dir = Input } ∷ record { name = codes "Y"; dir = Output } ∷ []; iso = false; shift = false; through = None; enable = None }

-- an isolation cell
abbrev pub isolation : Cell
isolation = record { name = codes "ISO"; pins = record { name = codes "D"; dir = Input } ∷ record { name = codes "EN"; dir = Input } ∷ record { name = codes "Y"; dir = Output } ∷ []; iso = true; shift = false; through = Some 0; enable = Some 1 }

-- a level shifter
abbrev pub shifter : Cell
shifter = record { name = codes "LS"; pins = record { name = codes "A"; dir = Input } ∷ record { name = codes "Y"; dir = Output } ∷ []; iso = false; shift = true; through = Some 0; enable = None }

-- the library
abbrev pub library : Cells
library = record { cells = buffer ∷ isolation ∷ shifter ∷ [] }
