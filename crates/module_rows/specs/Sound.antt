-- Rows that can be read.
use Rattle.std.specs.Prelude.{◌≡◌, ℕ, ◌<◌, ◌≤◌, ⊤, List, [], ◌∷◌, ◌+◌, length, slice_index_or}
use Rattle.std.specs.List.{All, flat_map, slice_range}
use Rattle.pw_defs.specs.declared.netlist.Expr.{Expr}
use Rattle.pw_defs.specs.declared.netlist.Expr.TheVariants.{Whole as WholeExpr, Bit as BitExpr, Part as PartExpr, Const as ConstExpr}
use Rattle.module_rows.specs.declared.tables.AssignRow.{AssignRow}
use Rattle.module_rows.specs.declared.tables.ConnRow.{ConnRow}
use Rattle.module_rows.specs.declared.tables.ExprRow.{ExprRow}
use Rattle.module_rows.specs.declared.tables.ExprRow.TheVariants.{Whole, Bit, Part, Const, Join}
use Rattle.module_rows.specs.declared.tables.InstRow.{InstRow}
use Rattle.module_rows.specs.declared.tables.Marks.{Marks}
use Rattle.module_rows.specs.declared.tables.ModuleRow.{ModuleRow}
use Rattle.module_rows.specs.declared.tables.NetRow.{NetRow}
use Rattle.module_rows.specs.declared.tables.PortRow.{PortRow}
use Rattle.module_rows.specs.declared.tables.Rows.{Rows}
use Rattle.module_rows.specs.declared.tables.Terms.{Terms}
use Rattle.module_rows.specs.Leaves.{leaves}
use Rattle.module_rows.specs.View.{expr_at, marks_of, name_at}

-- the symbols of a row are of names that there are
abbrev pub IsExprRow : List (List ℕ) → ExprRow → Type 0
IsExprRow symbols (Whole name) = name < length symbols
IsExprRow symbols (Bit name index) = name < length symbols
IsExprRow symbols (Part name left right) = name < length symbols
IsExprRow symbols (Const count) = ⊤
IsExprRow symbols (Join first count) = ⊤

-- the row is a name or a constant
abbrev pub IsLeafRow : List (List ℕ) → ExprRow → Type 0
IsLeafRow symbols (Whole name) = name < length symbols
IsLeafRow symbols (Bit name index) = name < length symbols
IsLeafRow symbols (Part name left right) = name < length symbols
IsLeafRow symbols (Const count) = ⊤
IsLeafRow symbols (Join first count) = ⊥

-- the name or constant that a row is
abbrev pub leaf_of : List (List ℕ) → ExprRow → List Expr
leaf_of symbols (Whole name) = WholeExpr (name_at symbols name) ∷ []
leaf_of symbols (Bit name index) = BitExpr (name_at symbols name) index ∷ []
leaf_of symbols (Part name left right) = PartExpr (name_at symbols name) left right ∷ []
leaf_of symbols (Const count) = ConstExpr count ∷ []
leaf_of symbols (Join first count) = []

-- names and constants of rows
abbrev pub leaves_of : List (List ℕ) → List ExprRow → List Expr
leaves_of symbols rows = flat_map (leaf_of symbols) rows

-- the names and constants of the expression that ends with a row are those of the rows from its first one on
abbrev pub IsSpan : Terms → ℕ → ℕ → Type 0
IsSpan t first n = (first ≤ n) × (leaves (expr_at t n) ≡ leaves_of t.symbols (slice_range t.exprs first (n + 1)))

abbrev pub IsSpanned : Terms → ℕ → ExprRow → Type 0
IsSpanned t n (Whole name) = ⊤
IsSpanned t n (Bit name index) = ⊤
IsSpanned t n (Part name left right) = ⊤
IsSpanned t n (Const count) = ⊤
IsSpanned t n (Join first count) = IsSpan t first n

pub record AreTerms (t : Terms) : Type 0 where
  pub rows : All (IsExprRow t.symbols) t.exprs
  pub spans : (n : ℕ) → n < length t.exprs → IsSpanned t n (slice_index_or t.exprs n (Const 0))

abbrev pub IsPortRow : Terms → PortRow → Type 0
IsPortRow t row = row.name < length t.symbols

abbrev pub IsNetRow : Terms → NetRow → Type 0
IsNetRow t row = row.name < length t.symbols

pub record IsAssignRow (t : Terms) (row : AssignRow) : Type 0 where
  pub left : row.left < length t.exprs
  pub right : row.right < length t.exprs

pub record IsConnRow (t : Terms) (row : ConnRow) : Type 0 where
  pub port : row.port < length t.symbols
  pub expr : row.expr ≤ length t.exprs

pub record IsInstRow (t : Terms) (conns : List ConnRow) (row : InstRow) : Type 0 where
  pub kind : row.kind < length t.symbols
  pub name : row.name < length t.symbols
  pub first : row.conns_first ≤ row.conns_end
  pub end : row.conns_end ≤ length conns

-- no table goes back
pub record AreMarks (first end : Marks) : Type 0 where
  pub ports : first.ports ≤ end.ports
  pub nets : first.nets ≤ end.nets
  pub assigns : first.assigns ≤ end.assigns
  pub insts : first.insts ≤ end.insts

pub record IsModuleRow (r : Rows) (row : ModuleRow) : Type 0 where
  pub name : row.name < length r.terms.symbols
  pub first : AreMarks row.first row.end
  pub end : AreMarks row.end (marks_of r)

-- each number is that of a row that there is
pub record AreRows (r : Rows) : Type 0 where
  pub terms : AreTerms r.terms
  pub conns : All (IsConnRow r.terms) r.conns
  pub ports : All (IsPortRow r.terms) r.ports
  pub nets : All (IsNetRow r.terms) r.nets
  pub assigns : All (IsAssignRow r.terms) r.assigns
  pub insts : All (IsInstRow r.terms r.conns) r.insts
  pub modules : All (IsModuleRow r) r.modules
  pub current : AreMarks r.current (marks_of r)
