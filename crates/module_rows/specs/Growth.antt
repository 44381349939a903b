-- Rows that grow.
use Rattle.std.specs.Prelude.{◌≡◌, ℕ, List, [], ◌∷◌, ◌++◌, ◌<◌, ◌≤◌, Option, length, reverse}
use Rattle.std.specs.List.{All, flat_map}
use Rattle.pw_defs.specs.declared.netlist.Assign.{Assign}
use Rattle.pw_defs.specs.declared.netlist.Expr.{Expr}
use Rattle.pw_defs.specs.declared.netlist.Inst.{Inst}
use Rattle.pw_defs.specs.declared.netlist.Module.{Module}
use Rattle.pw_defs.specs.declared.netlist.Net.{Net}
use Rattle.pw_defs.specs.declared.netlist.Port.{Port}
use Rattle.module_rows.specs.declared.plain.Draft.{Draft}
use Rattle.module_rows.specs.declared.tables.ConnRow.{ConnRow}
use Rattle.module_rows.specs.declared.tables.Terms.{Terms}
use Rattle.module_rows.specs.Leaves.{leaves}
use Rattle.module_rows.specs.Sound.{AreTerms, IsConnRow, leaves_of}
use Rattle.module_rows.specs.View.{connected, expr_at, open_after, titled}

-- a list has more behind it
abbrev pub Extends : {X : Type 0} → List X → List X → Type 0
Extends {X} old new = (more : List X) × (new ≡ old ++ more)

pub record Grows (old new : Terms) : Type 0 where
  pub symbols : Extends old.symbols new.symbols
  pub exprs : Extends old.exprs new.exprs
  pub sound : AreTerms new

-- the expressions that stand open behind all rows
abbrev pub open_in : Terms → List Expr
open_in t = open_after t.symbols [] t.exprs

-- some expressions stand open behind those of before, with the names and constants of the rows that were added
pub record HasExprs (old new : Terms) (es : List Expr) : Type 0 where
  pub grown : Grows old new
  pub stack : open_in new ≡ reverse es ++ open_in old
  pub parts : leaves_of new.symbols grown.exprs.0 ≡ flat_map leaves es

-- one expression ends with the row of this number
pub record IsExpr (t : Terms) (e : Expr) (n : ℕ) : Type 0 where
  pub there : n < length t.exprs
  pub same : expr_at t n ≡ e

-- the open module with one thing more
abbrev pub with_port : Draft → Port → Draft
with_port d port = record d { current = record d.current { ports = d.current.ports ++ port ∷ [] } }

abbrev pub with_net : Draft → Net → Draft
with_net d net = record d { current = record d.current { nets = d.current.nets ++ net ∷ [] } }

abbrev pub with_assign : Draft → Assign → Draft
with_assign d assign = record d { current = record d.current { assigns = d.current.assigns ++ assign ∷ [] } }

abbrev pub with_inst : Draft → Inst → Draft
with_inst d inst = record d { current = record d.current { insts = d.current.insts ++ inst ∷ [] } }

-- no module is open
abbrev pub no_module : Module
no_module = record { name = []; ports = []; nets = []; assigns = []; insts = []; line = 0 }

-- the expression of a connection, where there is one, is the one before this number
pub record IsConnected (t : Terms) (e : Option Expr) (n : ℕ) : Type 0 where
  pub there : n ≤ length t.exprs
  pub same : connected t n ≡ e

-- there are more connections, each of which can be read
pub record HasConns (old : Terms) (old_conns : List ConnRow) (new : Terms) (new_conns : List ConnRow) : Type 0 where
  pub grown : Grows old new
  pub more : Extends old_conns new_conns
  pub rows : All (IsConnRow new) new_conns

-- the open module has ended, and there is a new one without anything
abbrev pub with_module : Draft → List ℕ → ℕ → Draft
with_module d name line = record { modules = d.modules ++ titled d.current name line ∷ []; current = no_module }
