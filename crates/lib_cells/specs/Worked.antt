-- The texts of small libraries.
use Rattle.std.specs.Prelude.{ℕ, List, [], ◌∷◌, ◌++◌, Some, None, true, false, codes}
use Rattle.pw_defs.specs.declared.cells.Dir.TheVariants.{Input, Output}
use Rattle.pw_defs.specs.declared.cells.Cell.{Cell}

-- a cell with one pin, given twice alike
abbrev pub alike_text : List ℕ
alike_text = codes "library(l) {\ncell(B) { pin(A) { direction : input; } }\ncell(B) { pin(\"A\") { direction : \"input\" } }\n}\n"

-- a cell that is given again with another pin
abbrev pub otherwise_text : List ℕ
otherwise_text = codes "library(l) {\ncell(B) { pin(A) { direction : input; } }\ncell(B) { pin(C) { direction : input; } }\n}\n"

-- an isolation cell with two data pins
abbrev pub two_data_pins_text : List ℕ
two_data_pins_text =
    codes "library(l) {\ncell(I) {\nis_isolation_cell : true;\npin(D, E) { direction : input; isolation_cell_data_pin : true; }\n"
    ++ codes "pin(Y) { direction : output; }\n}\n}\n"

-- a cell's group with two names
abbrev pub two_names_text : List ℕ
two_names_text = codes "library(l) {\ncell(A, B);\ncell(A, B) {\n}\n}\n"

-- a library that ends too soon
abbrev pub cut_text : List ℕ
cut_text = codes "library(l) {\ncell(A) {\n"

-- an attribute without a value on its line
abbrev pub lone_colon_text : List ℕ
lone_colon_text = codes "library(l) {\nx :\n1;\n}\n"

-- a quoted text that nothing closes
abbrev pub unclosed_text : List ℕ
unclosed_text = codes "library(l) {\nx : \"1;\n}\n"

-- a shifter with an enable pin, and pins in one quoted text; the last direction counts
abbrev pub enabled_text : List ℕ
enabled_text =
    codes "library(l) {\ncell(S) {\nis_level_shifter : true\npin(\"A, E\") { direction : input; }\npin(A) { level_shifter_data_pin : true; }\n"
    ++ codes "pin(E) { level_shifter_enable_pin : true; timing() { x : 1; } }\npin(Y) { direction : input; direction : output; }\n"
    ++ codes "pin(V) { direction : inout; }\n}\n}\n"

abbrev pub one_pin : Cell
one_pin = record { name = codes "B"; pins = record { name = codes "A"; dir = Input } ∷ []; iso = false; shift = false; through = None; enable = None }

abbrev pub other_pin : Cell
other_pin = record { name = codes "B"; pins = record { name = codes "C"; dir = Input } ∷ []; iso = false; shift = false; through = None; enable = None }

abbrev pub enabled : Cell
enabled =
    record {
      name = codes "S";
      pins = record { name = codes "A"; dir = Input } ∷ record { name = codes "E"; dir = Input } ∷ record { name = codes "Y"; dir = Output } ∷ [];
      iso = true;
      shift = true;
      through = Some 0;
      enable = Some 1;
    }
