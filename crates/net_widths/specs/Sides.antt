-- What the names and constants of an expression say of its width.
use Rattle.std.specs.Prelude.{◌≡◌, ℕ, ◌+◌, List, [], Option, Some, None, length}
use Rattle.std.specs.List.{flat_map}
use Rattle.pw_defs.specs.declared.netlist.Expr.{Expr}
use Rattle.pw_defs.specs.declared.netlist.Module.{Module}
use Rattle.design_defs.specs.Places.{misselected, names_in, signals}
use Rattle.net_least.specs.declared.own.OwnFault.{OwnFault}
use Rattle.net_widths.specs.declared.sides.Side.{Side}
use Rattle.net_widths.specs.Refusals.{Finds, at_one_line, first_of, right_width, width_of}

-- the first of some names where there is no width
abbrev pub refused : Option ℕ → List (List ℕ) → List (List ℕ)
refused None names = first_of names
refused (Some count) names = []

-- two widths together, where both are there
abbrev pub both_widths : Option ℕ → Option ℕ → Option ℕ
both_widths None right = None
both_widths (Some left) None = None
both_widths (Some left) (Some right) = Some (left + right)

-- how many bits expressions name one behind another, where they select nothing wrongly
abbrev pub width_of_all : Module → List Expr → Option ℕ
width_of_all m es = right_width (flat_map (misselected m) es) (length (flat_map (signals m) es))

-- what is known of an expression with more names and constants
pub record AddsLeaves (symbols : List (List ℕ)) (m : Module) (line : ℕ) (old new : Side) (es : List Expr) : Type 0 where
  pub finds : Finds symbols old.best new.best (at_one_line line (flat_map (misselected m) es))
  pub width : new.width ≡ both_widths old.width (width_of_all m es)

-- what is known of a whole expression, behind what was found before
pub record IsSide (symbols : List (List ℕ)) (m : Module) (line : ℕ) (best : Option OwnFault) (side : Side) (e : Expr) : Type 0 where
  pub finds : Finds symbols best side.best (at_one_line line (misselected m e))
  pub width : side.width ≡ width_of m e

-- how many bits a name or a constant has; where it is selected wrongly, its name alone is refused
pub record IsLeafWidth (m : Module) (es : List Expr) (width : Option ℕ) : Type 0 where
  pub is_width : width ≡ width_of_all m es
  pub wrong : flat_map (misselected m) es ≡ refused width (flat_map names_in es)
