-- Lines put together: a line that begins a power model has the lines up to its end as its body.
use Rattle.std.specs.Prelude.{ℕ, Bool, true, false, List, [], ◌∷◌, ◌++◌, Option, None, Some, codes, if◌then◌else◌}
use Rattle.pw_defs.specs.declared.script.Line.{Line}
use Rattle.list_defs.specs.Members.{same_name}

-- A command line with the lines of its body, which only a power model has; `ended` tells whether its end was found.
pub record Block : Type 0 where
  pub head : Line
  pub body : List Line
  pub ended : Bool

abbrev pub has_first_word : List ℕ → List (List ℕ) → Bool
has_first_word name [] = false
has_first_word name (word ∷ words) = same_name name word

-- whether a line is of this command
abbrev pub is_line_of : List ℕ → Line → Bool
is_line_of name line = has_first_word name line.words

abbrev pub begins_model : Line → Bool
begins_model line = is_line_of (codes "begin_power_model") line

abbrev pub ends_model : Line → Bool
ends_model line = is_line_of (codes "end_power_model") line

-- the rest of the lines behind a power model that is open, with what its body has so far
abbrev pub blocks_behind : Option (Line × List Line) → List Line → List Block
blocks_behind None [] = []
blocks_behind (Some open_model) [] = record { head = open_model.0; body = open_model.1; ended = false } ∷ []
blocks_behind None (line ∷ lines) =
    if begins_model line then blocks_behind (Some (line, [])) lines
    else record { head = line; body = []; ended = true } ∷ blocks_behind None lines
blocks_behind (Some open_model) (line ∷ lines) =
    if ends_model line then record { head = open_model.0; body = open_model.1; ended = true } ∷ blocks_behind None lines
    else blocks_behind (Some (open_model.0, open_model.1 ++ line ∷ [])) lines

-- the lines of a text or a body, put together
abbrev pub blocks_of : List Line → List Block
blocks_of lines = blocks_behind None lines
