-- The modules that rows are of.
use Rattle.std.specs.Prelude.{ℕ, zero, suc, ◌+◌, List, [], ◌∷◌, Option, Some, None, map, length, take, drop, reverse, slice_index_or}
use Rattle.std.specs.List.{range_with_len, slice_range}
use Rattle.pw_defs.specs.declared.netlist.Assign.{Assign}
use Rattle.pw_defs.specs.declared.netlist.Conn.{Conn}
use Rattle.pw_defs.specs.declared.netlist.Expr.{Expr}
use Rattle.pw_defs.specs.declared.netlist.Expr.TheVariants.{Whole as WholeExpr, Bit as BitExpr, Part as PartExpr, Const as ConstExpr, Join as JoinExpr}
use Rattle.pw_defs.specs.declared.netlist.Inst.{Inst}
use Rattle.pw_defs.specs.declared.netlist.Module.{Module}
use Rattle.pw_defs.specs.declared.netlist.Net.{Net}
use Rattle.pw_defs.specs.declared.netlist.Port.{Port}
use Rattle.module_rows.specs.declared.heads.ExprHead.{ExprHead}
use Rattle.module_rows.specs.declared.heads.ExprHead.TheVariants.{Whole as WholeHead, Bit as BitHead, Part as PartHead, Const as ConstHead, Join as JoinHead}
use Rattle.module_rows.specs.declared.plain.Draft.{Draft}
use Rattle.module_rows.specs.declared.plain.Netlist.{Netlist}
use Rattle.module_rows.specs.declared.tables.AssignRow.{AssignRow}
use Rattle.module_rows.specs.declared.tables.ConnRow.{ConnRow}
use Rattle.module_rows.specs.declared.tables.ExprRow.{ExprRow}
use Rattle.module_rows.specs.declared.tables.ExprRow.TheVariants.{Whole, Bit, Part, Const, Join}
use Rattle.module_rows.specs.declared.tables.InstRow.{InstRow}
use Rattle.module_rows.specs.declared.tables.Marks.{Marks}
use Rattle.module_rows.specs.declared.tables.ModuleRow.{ModuleRow}
use Rattle.module_rows.specs.declared.tables.NetRow.{NetRow}
use Rattle.module_rows.specs.declared.tables.PortRow.{PortRow}
use Rattle.module_rows.specs.declared.tables.Rows.{Rows}
use Rattle.module_rows.specs.declared.tables.Terms.{Terms}

-- the spelling of a symbol
abbrev pub name_at : List (List ℕ) → ℕ → List ℕ
name_at symbols symbol = slice_index_or symbols symbol []

-- The expressions that stand open behind the rows so far, the last one first: a concatenation takes its parts away.
abbrev pub opened : List (List ℕ) → List Expr → ExprRow → List Expr
opened symbols stack (Whole name) = WholeExpr (name_at symbols name) ∷ stack
opened symbols stack (Bit name index) = BitExpr (name_at symbols name) index ∷ stack
opened symbols stack (Part name left right) = PartExpr (name_at symbols name) left right ∷ stack
opened symbols stack (Const count) = ConstExpr count ∷ stack
opened symbols stack (Join first count) = JoinExpr (reverse (take count stack)) ∷ drop count stack

unfoldable pub open_after : List (List ℕ) → List Expr → List ExprRow → List Expr
open_after symbols stack [] = stack
open_after symbols stack (row ∷ rows) = open_after symbols (opened symbols stack row) rows

abbrev pub last_of : List Expr → Expr
last_of [] = ConstExpr 0
last_of (e ∷ stack) = e

-- the expression that ends with a row
unfoldable pub expr_at : Terms → ℕ → Expr
expr_at t n = last_of (open_after t.symbols [] (take (n + 1) t.exprs))

-- the expression of a connection
abbrev pub connected : Terms → ℕ → Option Expr
connected t zero = None
connected t (suc n) = Some (expr_at t n)

-- what rows stand for
abbrev pub port_of : Terms → PortRow → Port
port_of t row = record { name = name_at t.symbols row.name; dir = row.dir; range = row.range }

abbrev pub net_of : Terms → NetRow → Net
net_of t row = record { name = name_at t.symbols row.name; range = row.range }

abbrev pub assign_of : Terms → AssignRow → Assign
assign_of t row = record { left = expr_at t row.left; right = expr_at t row.right; line = row.line }

abbrev pub conn_of : Terms → ConnRow → Conn
conn_of t row = record { port = name_at t.symbols row.port; expr = connected t row.expr }

abbrev pub inst_of : Terms → List ConnRow → InstRow → Inst
inst_of t conns row = record {
  kind = name_at t.symbols row.kind;
  name = name_at t.symbols row.name;
  conns = map (conn_of t) (slice_range conns row.conns_first row.conns_end);
  line = row.line;
}

-- how far the tables have come
abbrev pub marks_of : Rows → Marks
marks_of r = record { ports = length r.ports; nets = length r.nets; assigns = length r.assigns; insts = length r.insts }

-- the module, without name and line, of the rows from some marks to others
abbrev pub module_between : Rows → Marks → Marks → Module
module_between r first end = record {
  name = [];
  ports = map (port_of r.terms) (slice_range r.ports first.ports end.ports);
  nets = map (net_of r.terms) (slice_range r.nets first.nets end.nets);
  assigns = map (assign_of r.terms) (slice_range r.assigns first.assigns end.assigns);
  insts = map (inst_of r.terms r.conns) (slice_range r.insts first.insts end.insts);
  line = 0;
}

-- a module with its name and its line
abbrev pub titled : Module → List ℕ → ℕ → Module
titled m name line = record m { name = name; line = line }

abbrev pub module_of : Rows → ModuleRow → Module
module_of r row = titled (module_between r row.first row.end) (name_at r.terms.symbols row.name) row.line

-- all that rows stand for
abbrev pub netlist_of : Rows → Netlist
netlist_of r = record {
  symbols = r.terms.symbols;
  exprs = map (expr_at r.terms) (range_with_len 0 (length r.terms.exprs));
  modules = map (module_of r) r.modules;
}

-- the modules that are whole, and the one that is open
abbrev pub draft_of : Rows → Draft
draft_of r = record { modules = map (module_of r) r.modules; current = module_between r r.current (marks_of r) }

-- what is read of the row of an expression
abbrev pub head_of_row : ExprRow → ExprHead
head_of_row (Whole name) = WholeHead name
head_of_row (Bit name index) = BitHead name index
head_of_row (Part name left right) = PartHead name left right
head_of_row (Const count) = ConstHead count
head_of_row (Join first count) = JoinHead

-- the first row of an expression that ends with a row
abbrev pub first_row : ℕ → ExprRow → ℕ
first_row n (Whole name) = n
first_row n (Bit name index) = n
first_row n (Part name left right) = n
first_row n (Const count) = n
first_row n (Join first count) = first
