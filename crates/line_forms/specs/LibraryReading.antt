-- How a library is read from its front.
use Rattle.std.specs.Prelude.{ℕ, Bool, not, List, Option, Some, None, codes}
use Rattle.pw_defs.specs.declared.cells.Dir.{Dir}
use Rattle.line_forms.specs.Reading.{Read, begins, nothing_at, word_at, before_at, both_at, map_at, led_at, many_at, name_at, dir_at}
use Rattle.line_forms.specs.declared.library_lines.Role.{Role}
use Rattle.line_forms.specs.declared.library_lines.Role.TheVariants.{IsolationData, IsolationEnable, ShifterData, ShifterEnable}
use Rattle.line_forms.specs.declared.library_lines.CellKind.{CellKind}
use Rattle.line_forms.specs.declared.library_lines.CellKind.TheVariants.{Plain, Isolation, Shifter}
use Rattle.line_forms.specs.declared.library_lines.PinLine.{PinLine}
use Rattle.line_forms.specs.declared.library_lines.CellLines.{CellLines}
use Rattle.line_forms.specs.declared.library_lines.Library.{Library}

unfoldable pub role_at : Read (Option Role)
role_at =
    led_at (codes "isolation_cell_data_pin : true; ") (nothing_at (Some IsolationData))
    (led_at (codes "isolation_cell_enable_pin : true; ") (nothing_at (Some IsolationEnable))
    (led_at (codes "level_shifter_data_pin : true; ") (nothing_at (Some ShifterData))
    (led_at (codes "level_shifter_enable_pin : true; ") (nothing_at (Some ShifterEnable)) (nothing_at None))))

abbrev pub pin_of : List ℕ × (Dir × Option Role) → PinLine
pin_of p = record { name = p.0; dir = p.1.0; role = p.1.1 }

unfoldable pub pin_at : Read PinLine
pin_at = map_at pin_of (word_at (codes "pin(") (both_at name_at (word_at (codes ") { direction : ") (both_at dir_at (word_at (codes "; ") (before_at role_at (codes "}\n")))))))

unfoldable pub kind_at : Read CellKind
kind_at = led_at (codes "is_isolation_cell : true;\n") (nothing_at Isolation) (led_at (codes "is_level_shifter : true;\n") (nothing_at Shifter) (nothing_at Plain))

-- the lines within braces end where a brace is closed
abbrev pub is_open : List ℕ → Bool
is_open text = not (begins (codes "}\n") text)

abbrev pub cell_of : List ℕ × (CellKind × List PinLine) → CellLines
cell_of p = record { name = p.0; kind = p.1.0; pins = p.1.1 }

unfoldable pub cell_at : Read CellLines
cell_at = map_at cell_of (both_at (word_at (codes "cell(") (before_at name_at (codes ") {\n"))) (both_at kind_at (before_at (many_at is_open pin_at) (codes "}\n"))))

abbrev pub library_of : List ℕ × List CellLines → Library
library_of p = record { name = p.0; cells = p.1 }

unfoldable pub library_at : Read Library
library_at = map_at library_of (both_at (word_at (codes "library(") (before_at name_at (codes ") {\n"))) (before_at (many_at is_open cell_at) (codes "}\n")))
