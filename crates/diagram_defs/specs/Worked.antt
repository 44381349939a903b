-- A small table: two levels of two values, the rest 1 of the second level, and the state 0 1.
use Rattle.std.specs.Prelude.{[], ◌∷◌}
use Rattle.diagram_defs.specs.declared.locals.Local.{Local}
use Rattle.diagram_defs.specs.Diagrams.{Diagram}

abbrev pub small_table : Diagram
small_table =
    record { arities = 2 ∷ 2 ∷ []; bound = 4; nodes = record { level = 1; kids = 0 ∷ 1 ∷ [] } ∷ record { level = 0; kids = 2 ∷ 0 ∷ [] } ∷ [] }

-- the states whose second value is 1
abbrev pub second_is_one : Local
second_is_one = record { level = 1; number = 2 }
