-- How a netlist is read from its front.
use Rattle.std.specs.Prelude.{ℕ, Bool, not, List, Option, Some, None, codes}
use Rattle.pw_defs.specs.declared.cells.Dir.{Dir}
use Rattle.line_forms.specs.Reading.{Read, begins, nothing_at, word_at, before_at, both_at, map_at, led_at, many_at, listed_at, plain_at, dir_at, has_more}
use Rattle.line_forms.specs.declared.netlist_lines.PortWords.{PortWords}
use Rattle.line_forms.specs.declared.netlist_lines.ConnWords.{ConnWords}
use Rattle.line_forms.specs.declared.netlist_lines.InstLine.{InstLine}
use Rattle.line_forms.specs.declared.netlist_lines.ItemLine.{ItemLine}
use Rattle.line_forms.specs.declared.netlist_lines.ItemLine.TheVariants.{Wire, Inst}
use Rattle.line_forms.specs.declared.netlist_lines.ModuleLines.{ModuleLines}

-- a list goes on with a comma and a blank
abbrev pub has_comma : List ℕ → Bool
has_comma text = begins (codes ", ") text

abbrev pub comma_at : {A : Type 0} → Read A → Read A
comma_at r = word_at (codes ", ") r

-- things with commas between them, or nothing, and then the end of the line
abbrev pub list_at : {A : Type 0} → Read A → Read (List A)
list_at r = listed_at r has_comma (comma_at r)

abbrev pub port_of : Dir × List ℕ → PortWords
port_of p = record { dir = p.0; name = p.1 }

unfoldable pub port_at : Read PortWords
port_at = map_at port_of (both_at dir_at (word_at (codes " ") plain_at))

unfoldable pub ports_at : Read (List PortWords)
ports_at = list_at port_at

abbrev pub conn_of : List ℕ × Option (List ℕ) → ConnWords
conn_of p = record { port = p.0; net = p.1 }

unfoldable pub net_at : Read (Option (List ℕ))
net_at = led_at (codes ")") (nothing_at None) (map_at (λ name. Some name) (before_at plain_at (codes ")")))

unfoldable pub conn_at : Read ConnWords
conn_at = map_at conn_of (word_at (codes ".") (both_at plain_at (word_at (codes "(") net_at)))

unfoldable pub conns_at : Read (List ConnWords)
conns_at = list_at conn_at

abbrev pub inst_of : List ℕ × (List ℕ × List ConnWords) → InstLine
inst_of p = record { kind = p.0; name = p.1.0; conns = p.1.1 }

unfoldable pub inst_at : Read InstLine
inst_at = map_at inst_of (both_at plain_at (word_at (codes " ") (both_at plain_at (word_at (codes "(") conns_at))))

unfoldable pub item_at : Read ItemLine
item_at = led_at (codes "wire ") (map_at (λ net. Wire net) (before_at plain_at (codes ";\n"))) (map_at (λ inst. Inst inst) inst_at)

-- the lines of a module end at its last one
abbrev pub is_within : List ℕ → Bool
is_within text = not (begins (codes "endmodule\n") text)

abbrev pub module_of : (List ℕ × List PortWords) × List ItemLine → ModuleLines
module_of p = record { name = p.0.0; ports = p.0.1; items = p.1 }

unfoldable pub module_at : Read ModuleLines
module_at =
    map_at module_of (both_at (word_at (codes "module ") (both_at plain_at (word_at (codes "(") ports_at))) (before_at (many_at is_within item_at) (codes "endmodule\n")))

unfoldable pub netlist_at : Read (List ModuleLines)
netlist_at = many_at has_more module_at
