-- The form of a netlist, and how its parts are spelled.
use Rattle.std.specs.Prelude.{ℕ, List, [], ◌∷◌, ◌++◌, codes, unwrap_or, IfSome}
use Rattle.std.specs.List.{concat, flat_map, AllByRecursion}
use Rattle.line_forms.specs.Names.{IsPlainName}
use Rattle.line_forms.specs.Lines.{line, listed, dir_text}
use Rattle.line_forms.specs.declared.netlist_lines.PortWords.{PortWords}
use Rattle.line_forms.specs.declared.netlist_lines.ConnWords.{ConnWords}
use Rattle.line_forms.specs.declared.netlist_lines.InstLine.{InstLine}
use Rattle.line_forms.specs.declared.netlist_lines.ItemLine.{ItemLine}
use Rattle.line_forms.specs.declared.netlist_lines.ItemLine.TheVariants.{Wire, Inst}
use Rattle.line_forms.specs.declared.netlist_lines.ModuleLines.{ModuleLines}

abbrev pub port_text : PortWords → List ℕ
port_text port = dir_text port.dir ++ (codes " " ++ port.name)

-- a port is left open where nothing stands in its parentheses
abbrev pub conn_text : ConnWords → List ℕ
conn_text conn = concat (codes "." ∷ conn.port ∷ codes "(" ∷ unwrap_or conn.net [] ∷ codes ")" ∷ [])

abbrev pub item_text : ItemLine → List ℕ
item_text (Wire net) = line (codes "wire " ∷ net ∷ codes ";" ∷ [])
item_text (Inst inst) = line (inst.kind ∷ codes " " ∷ inst.name ∷ codes "(" ∷ listed conn_text inst.conns ∷ codes ");" ∷ [])

abbrev pub module_text : ModuleLines → List ℕ
module_text m =
    concat (line (codes "module " ∷ m.name ∷ codes "(" ∷ listed port_text m.ports ∷ codes ");" ∷ []) ∷ flat_map item_text m.items ∷ line (codes "endmodule" ∷ []) ∷ [])

abbrev pub netlist_text : List ModuleLines → List ℕ
netlist_text modules = flat_map module_text modules

-- the names of each part are names, and no reserved words
abbrev pub IsPort : PortWords → Type 0
IsPort port = IsPlainName port.name

pub record IsConn (conn : ConnWords) : Type 0 where
  pub port : IsPlainName conn.port
  pub net : IfSome conn.net IsPlainName

pub record IsInst (inst : InstLine) : Type 0 where
  pub kind : IsPlainName inst.kind
  pub name : IsPlainName inst.name
  pub conns : AllByRecursion IsConn inst.conns

abbrev pub IsItem : ItemLine → Type 0
IsItem (Wire net) = IsPlainName net
IsItem (Inst inst) = IsInst inst

pub record IsModule (m : ModuleLines) : Type 0 where
  pub name : IsPlainName m.name
  pub ports : AllByRecursion IsPort m.ports
  pub items : AllByRecursion IsItem m.items

abbrev pub AreModules : List ModuleLines → Type 0
AreModules modules = AllByRecursion IsModule modules
