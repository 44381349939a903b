-- What the parsers make, as the grammar sees it.
use Rattle.std.specs.Prelude.{Bool, true, false}
use Rattle.net_text.specs.NetlistGrammar.{NetlistGrammar, Shape, Lined, selected_name, operand}
use Rattle.net_text.specs.declared.phrases.ShapeOf.{ShapeOf}
use Rattle.net_text.specs.declared.exprs.ExprAt.{ExprAt}

abbrev pub shape_view : ShapeOf → Shape
shape_view s = record { dir = s.dir; range = s.range }

abbrev pub lined_view : ExprAt → Lined
lined_view e = record { expr = e.expr; line = e.line }

-- what may stand alone: constants only where they are allowed
abbrev pub alone : Bool → NetlistGrammar Lined
alone true = operand
alone false = selected_name
