-- Tokens that are taken from their bytes at once, without the piece that they are.
use Rattle.std.specs.Prelude.{◌≡◌, ℕ, ◌≤◌, ◌==◌, Bool, true, false, not, ◌&&◌, ◌||◌, List, [], ◌∷◌, length, take, codes}
use Rattle.std.specs.Char.{is_ascii_lowercase}
use Rattle.std.specs.List.{list_all, list_any}
use Rattle.text_defs.specs.Pieces.{begins_with}
use Rattle.text_defs.specs.Tokens.{Token}
use Rattle.net_text.specs.NetlistTokens.{NetlistClass, is_graphic, netlist_piece, token_of}

-- whether a word begins with two small letters, as each reserved word does
abbrev pub begins_small : List ℕ → Bool
begins_small (a ∷ b ∷ _) = is_ascii_lowercase a && is_ascii_lowercase b
begins_small _ = false

-- whether a byte is a token by itself, by what stands behind it: a parenthesis may begin an attribute
abbrev pub is_mark : ℕ → List ℕ → Bool
is_mark b behind = list_any (λ c. b == c) (codes "),;.[]{}:=") || (b == 40 && not (begins_with 42 behind))

-- The token of the piece with which a text begins, on a line: it shows all bytes of the piece, of which none is white space.
pub record IsDirect (text : List ℕ) (line : ℕ) (t : Token NetlistClass) : Type 0 where
  pub token : (end : ℕ) (fresh : Bool) → token_of end (record { what = (netlist_piece fresh text).what; line = line }) ≡ t ∷ []
  pub size : (fresh : Bool) → (netlist_piece fresh text).size ≡ length t.text
  pub front : t.text ≡ take (length t.text) text
  pub graphic : list_all is_graphic t.text ≡ true
  pub some : 1 ≤ length t.text
