-- What is read of modules by number.
use Rattle.std.specs.List.{flat_map, slice_range}
use Rattle.std.specs.Prelude.{◌≡◌, ℕ, ◌+◌, ◌<◌, ◌≤◌, ⊤, List, [], Option, Some, None, length, slice_get, slice_index_or}
use Rattle.pw_defs.specs.declared.cells.Dir.TheVariants.{Input}
use Rattle.pw_defs.specs.declared.netlist.Assign.{Assign}
use Rattle.pw_defs.specs.declared.netlist.Conn.{Conn}
use Rattle.pw_defs.specs.declared.netlist.Expr.{Expr}
use Rattle.pw_defs.specs.declared.netlist.Expr.TheVariants.{Whole as WholeExpr, Bit as BitExpr, Part as PartExpr, Const as ConstExpr, Join as JoinExpr}
use Rattle.pw_defs.specs.declared.netlist.Inst.{Inst}
use Rattle.pw_defs.specs.declared.netlist.Module.{Module}
use Rattle.pw_defs.specs.declared.netlist.Net.{Net}
use Rattle.pw_defs.specs.declared.netlist.Port.{Port}
use Rattle.module_rows.specs.declared.plain.Netlist.{Netlist}
use Rattle.module_rows.specs.declared.heads.ConnHead.{ConnHead}
use Rattle.module_rows.specs.declared.heads.ExprHead.{ExprHead}
use Rattle.module_rows.specs.declared.heads.ExprHead.TheVariants.{Whole, Bit, Part, Const, Join}
use Rattle.module_rows.specs.declared.heads.InstHead.{InstHead}
use Rattle.module_rows.specs.declared.heads.ModuleHead.{ModuleHead}
use Rattle.module_rows.specs.declared.tables.AssignRow.{AssignRow}
use Rattle.module_rows.specs.declared.tables.NetRow.{NetRow}
use Rattle.module_rows.specs.declared.tables.PortRow.{PortRow}
use Rattle.module_rows.specs.Growth.{no_module}
use Rattle.module_rows.specs.Leaves.{leaves, own_leaf}
use Rattle.module_rows.specs.View.{name_at}

-- what a look-up past the end gives
abbrev pub no_port : Port
no_port = record { name = []; dir = Input; range = None }

abbrev pub no_net : Net
no_net = record { name = []; range = None }

abbrev pub no_assign : Assign
no_assign = record { left = ConstExpr 0; right = ConstExpr 0; line = 0 }

abbrev pub no_inst : Inst
no_inst = record { kind = []; name = []; conns = []; line = 0 }

abbrev pub no_conn : Conn
no_conn = record { port = []; expr = None }

-- what stands at a number
abbrev pub module_at : Netlist → ℕ → Module
module_at n m = slice_index_or n.modules m no_module

abbrev pub port_at : Netlist → ℕ → ℕ → Port
port_at n m i = slice_index_or (module_at n m).ports i no_port

abbrev pub net_at : Netlist → ℕ → ℕ → Net
net_at n m i = slice_index_or (module_at n m).nets i no_net

abbrev pub assign_at : Netlist → ℕ → ℕ → Assign
assign_at n m i = slice_index_or (module_at n m).assigns i no_assign

abbrev pub inst_at : Netlist → ℕ → ℕ → Inst
inst_at n m i = slice_index_or (module_at n m).insts i no_inst

abbrev pub conn_at : Netlist → ℕ → ℕ → ℕ → Conn
conn_at n m i k = slice_index_or (inst_at n m i).conns k no_conn

-- what is read is what stands there
pub record IsModule (n : Netlist) (m : Module) (head : ModuleHead) : Type 0 where
  pub name : slice_get n.symbols head.name ≡ Some m.name
  pub line : head.line ≡ m.line
  pub ports : head.ports ≡ length m.ports
  pub nets : head.nets ≡ length m.nets
  pub assigns : head.assigns ≡ length m.assigns
  pub insts : head.insts ≡ length m.insts

pub record IsPort (n : Netlist) (p : Port) (row : PortRow) : Type 0 where
  pub name : slice_get n.symbols row.name ≡ Some p.name
  pub dir : row.dir ≡ p.dir
  pub range : row.range ≡ p.range

pub record IsNet (n : Netlist) (w : Net) (row : NetRow) : Type 0 where
  pub name : slice_get n.symbols row.name ≡ Some w.name
  pub range : row.range ≡ w.range

pub record IsAssign (n : Netlist) (a : Assign) (row : AssignRow) : Type 0 where
  pub left : slice_get n.exprs row.left ≡ Some a.left
  pub right : slice_get n.exprs row.right ≡ Some a.right
  pub line : row.line ≡ a.line

pub record IsInst (n : Netlist) (i : Inst) (head : InstHead) : Type 0 where
  pub kind : slice_get n.symbols head.kind ≡ Some i.kind
  pub name : slice_get n.symbols head.name ≡ Some i.name
  pub line : head.line ≡ i.line
  pub conns : head.conns ≡ length i.conns

-- the number of the expression of a connection, where there is one
abbrev pub IsNumbered : List Expr → Option Expr → Option ℕ → Type 0
IsNumbered exprs None None = ⊤
IsNumbered exprs (Some e) (Some n) = slice_get exprs n ≡ Some e
IsNumbered exprs None (Some n) = ⊥
IsNumbered exprs (Some e) None = ⊥

pub record IsConn (n : Netlist) (c : Conn) (head : ConnHead) : Type 0 where
  pub port : slice_get n.symbols head.port ≡ Some c.port
  pub expr : IsNumbered n.exprs c.expr head.expr

-- the expression of a number
abbrev pub numbered_expr : Netlist → ℕ → Expr
numbered_expr n k = slice_index_or n.exprs k (ConstExpr 0)

-- what is read of an expression is what it is; the names and constants in a concatenation are read by `HasLeavesFrom`
abbrev pub IsExprHead : Netlist → Expr → ExprHead → Type 0
IsExprHead n e (Whole symbol) = (symbol < length n.symbols) × (e ≡ WholeExpr (name_at n.symbols symbol))
IsExprHead n e (Bit symbol index) = (symbol < length n.symbols) × (e ≡ BitExpr (name_at n.symbols symbol) index)
IsExprHead n e (Part symbol left right) = (symbol < length n.symbols) × (e ≡ PartExpr (name_at n.symbols symbol) left right)
IsExprHead n e (Const count) = e ≡ ConstExpr count
IsExprHead n e Join = (parts : List Expr) × (e ≡ JoinExpr parts)

-- the names and constants in an expression are those that the expressions from some number up to its own are themselves
pub record HasLeavesFrom (n : Netlist) (k first : ℕ) : Type 0 where
  pub rises : first ≤ k
  pub same : leaves (numbered_expr n k) ≡ flat_map own_leaf (slice_range n.exprs first (k + 1))
