-- The names and constants of an expression, from the left.
use Rattle.std.specs.Prelude.{List, [], ◌∷◌}
use Rattle.std.specs.List.{flat_map}
use Rattle.pw_defs.specs.declared.netlist.Expr.{Expr}
use Rattle.pw_defs.specs.declared.netlist.Expr.TheOpen.{Expr-F}
use Rattle.pw_defs.specs.declared.netlist.Expr.TheFolds.{fold-Expr}
use Rattle.pw_defs.specs.declared.netlist.Expr.TheVariants.{Whole, Bit, Part, Const}

-- one level of: the names and constants in an expression
abbrev pub leaves_at : Expr-F (List Expr) → List Expr
leaves_at (Expr-F.Whole name) = Whole name ∷ []
leaves_at (Expr-F.Bit name index) = Bit name index ∷ []
leaves_at (Expr-F.Part name left right) = Part name left right ∷ []
leaves_at (Expr-F.Const count) = Const count ∷ []
leaves_at (Expr-F.Join parts) = flat_map (λ leaves. leaves) parts

-- the names, each with its select, and the constants in an expression, from the left
unfoldable pub leaves : Expr → List Expr
leaves = fold-Expr (List Expr) leaves_at

-- one level of: the name or constant that an expression is itself
abbrev pub own_leaf_at : Expr-F (List Expr) → List Expr
own_leaf_at (Expr-F.Whole name) = Whole name ∷ []
own_leaf_at (Expr-F.Bit name index) = Bit name index ∷ []
own_leaf_at (Expr-F.Part name left right) = Part name left right ∷ []
own_leaf_at (Expr-F.Const count) = Const count ∷ []
own_leaf_at (Expr-F.Join parts) = []

-- the name with its select, or the constant, that an expression is itself; a concatenation is none
unfoldable pub own_leaf : Expr → List Expr
own_leaf = fold-Expr (List Expr) own_leaf_at
