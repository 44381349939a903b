-- Tokens by their classes.
use Rattle.std.specs.Prelude.{ℕ, Bool, List, [], ◌∷◌, Some, None, if◌then◌else◌}
use Rattle.text_defs.specs.Grammar.{Grammar}
use Rattle.text_defs.specs.Lines.{last_line}

-- a token: its class, its text and its line
pub record Token (C : Type 0) : Type 0 where
  pub class : C
  pub text : List ℕ
  pub line : ℕ

-- a token of a class that passes the test
abbrev pub one_of : {C : Type 0} → (C → Bool) → Grammar (Token C) (Token C)
one_of test = Grammar.token (λ t. if test t.class then Some t else None)

-- whether a token's class passes the test
abbrev pub of_class : {C : Type 0} → (C → Bool) → Token C → Bool
of_class test t = test t.class

-- the line at which the tokens begin that are left of a text; where none are, the line at which the text ends
abbrev pub line_left : {C : Type 0} → List ℕ → List (Token C) → ℕ
line_left text [] = last_line text
line_left text (t ∷ _) = t.line
