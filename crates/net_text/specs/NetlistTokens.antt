-- The tokens of a netlist's text.
use Rattle.std.specs.Prelude.{ℕ, ◌+◌, ◌==◌, nat_le, Bool, not, ◌&&◌, ◌||◌, List, [], ◌∷◌, ◌++◌, Option, Some, None, if◌then◌else◌, length, drop, codes}
use Rattle.std.specs.List.{list_any, take_while, flat_map}
use Rattle.std.specs.Char.{is_ascii_alphabetic, is_ascii_digit}
use Rattle.std.specs.Int.{is_in_range}
use Rattle.std.specs.Str.Parse.{digits_value}
use Rattle.list_defs.specs.Members.{same_name}
use Rattle.text_defs.specs.Lines.{last_line}
use Rattle.text_defs.specs.Pieces.{Piece, Placed, is_white, begins_with, closed_by, pieces}
use Rattle.text_defs.specs.Tokens.{Token}

-- an identifier begins with a letter or `_`, and goes on with letters, digits, `_` and `$`
abbrev pub begins_name : ℕ → Bool
begins_name b = is_ascii_alphabetic b || b == 95

abbrev pub is_name_byte : ℕ → Bool
is_name_byte b = begins_name b || is_ascii_digit b || b == 36

-- the bytes that an escaped identifier may have
abbrev pub is_graphic : ℕ → Bool
is_graphic b = is_in_range 33 126 b

-- the letters of bases
abbrev pub is_base : ℕ → Bool
is_base b = list_any (λ c. b == c) (codes "bodhBODH")

-- what a constant's value is written with
abbrev pub is_value_byte : ℕ → Bool
is_value_byte b = is_ascii_digit b || is_in_range 97 102 b || is_in_range 65 70 b || list_any (λ c. b == c) (codes "xXzZ?_")

-- the number that digits write
abbrev pub number_of : List ℕ → ℕ
number_of digits = digits_value 10 digits

-- the pieces of a netlist's text
pub data NetlistPiece : Type 0 where
  -- white space, a comment, an attribute between `(*` and `*)`, a line that begins with a back quote
  Skipped : NetlistPiece
  Plain : List ℕ → NetlistPiece
  -- an escaped identifier, without its backslash
  Escaped : List ℕ → NetlistPiece
  Digits : List ℕ → NetlistPiece
  Constant : List ℕ → NetlistPiece
  -- any other byte
  Mark : ℕ → NetlistPiece
  -- a comment, an attribute or an escaped identifier that the end of the text cuts
  Unclosed : NetlistPiece

-- what is skipped from two opening bytes on up to where it is closed
abbrev pub skipped_piece : List ℕ → Option ℕ → Piece NetlistPiece
skipped_piece behind None = record { what = Unclosed; size = 2 + length behind }
skipped_piece behind (Some n) = record { what = Skipped; size = 2 + n }

-- the rest of a line
abbrev pub line_piece : List ℕ → Piece NetlistPiece
line_piece bytes = record { what = Skipped; size = length (take_while (λ b. not (b == 10)) bytes) }

abbrev pub byte_piece : NetlistPiece → Piece NetlistPiece
byte_piece what = record { what = what; size = 1 }

abbrev pub name_piece : List ℕ → Piece NetlistPiece
name_piece name = record { what = Plain name; size = length name }

-- An escaped identifier is one or more graphic bytes behind a backslash, and white space. Another backslash is a byte by itself.
abbrev pub escaped_piece : List ℕ → List ℕ → Piece NetlistPiece
escaped_piece name [] = record { what = Unclosed; size = 1 + length name }
escaped_piece [] (b ∷ _) = byte_piece (Mark 92)
escaped_piece (c ∷ name) (b ∷ _) = if is_white b then record { what = Escaped (c ∷ name); size = 2 + length name } else byte_piece (Mark 92)

-- what stands behind the width of a constant, where it is one: the base and the value
abbrev pub based : List ℕ → List ℕ
based (a ∷ base ∷ b ∷ rest) = if a == 39 && (is_base base && is_value_byte b) then a ∷ base ∷ take_while is_value_byte (b ∷ rest) else []
based _ = []

-- whether digits are the width of a constant: 1 to 65,536
abbrev pub is_width : List ℕ → Bool
is_width digits = nat_le 1 (number_of digits) && nat_le (number_of digits) 65536

-- digits alone, or those of a constant with its base and value, without white space
abbrev pub number_piece : List ℕ → List ℕ → Piece NetlistPiece
number_piece digits [] = record { what = Digits digits; size = length digits }
number_piece digits (b ∷ value) =
    if is_width digits then record { what = Constant (digits ++ b ∷ value); size = length (digits ++ b ∷ value) } else record {
      what = Digits digits;
      size = length digits;
    }

abbrev pub digits_at : List ℕ → List ℕ
digits_at bytes = take_while is_ascii_digit bytes

-- The piece with which bytes begin: the longest token, or what is skipped. `fresh` tells that only blanks stand before it on its line.
unfoldable pub netlist_piece : Bool → List ℕ → Piece NetlistPiece
netlist_piece fresh [] = byte_piece Skipped
netlist_piece fresh (b ∷ rest) =
    if is_white b then byte_piece Skipped
    else if fresh && b == 96 then line_piece (b ∷ rest)
    else if b == 47 && begins_with 47 rest then line_piece (b ∷ rest)
    else if b == 47 && begins_with 42 rest then skipped_piece (drop 1 rest) (closed_by 42 47 (drop 1 rest))
    else if b == 40 && (begins_with 42 rest && not (begins_with 41 (drop 1 rest))) then skipped_piece (drop 1 rest) (closed_by 42 41 (drop 1 rest))
    else if begins_name b then name_piece (take_while is_name_byte (b ∷ rest))
    else if b == 92 then escaped_piece (take_while is_graphic rest) (drop (length (take_while is_graphic rest)) rest)
    else if is_ascii_digit b then number_piece (digits_at (b ∷ rest)) (based (drop (length (digits_at (b ∷ rest))) (b ∷ rest)))
    else byte_piece (Mark b)

-- the classes of tokens
pub data NetlistClass : Type 0 where
  Module : NetlistClass
  Endmodule : NetlistClass
  Input : NetlistClass
  Output : NetlistClass
  Wire : NetlistClass
  Assign : NetlistClass
  Name : NetlistClass
  -- a number that may stand in ranges and selects: at most 65,535
  Number : NetlistClass
  Constant : NetlistClass
  Open : NetlistClass
  Shut : NetlistClass
  LeftBracket : NetlistClass
  RightBracket : NetlistClass
  LeftBrace : NetlistClass
  RightBrace : NetlistClass
  Comma : NetlistClass
  Dot : NetlistClass
  Colon : NetlistClass
  Semicolon : NetlistClass
  Equals : NetlistClass
  -- what no netlist has: the word `inout`, a word of the language that is left out, anything else
  Inout : NetlistClass
  LeftOut : NetlistClass
  Stray : NetlistClass

-- the words of the language that are left out
unfoldable pub left_out_words : List (List ℕ)
left_out_words =
    codes "always" ∷ codes "initial" ∷ codes "reg" ∷ codes "integer" ∷ codes "parameter" ∷ codes "localparam" ∷ codes "defparam" ∷ codes "function"
    ∷ codes "task" ∷ codes "generate" ∷ codes "genvar" ∷ codes "specify" ∷ codes "primitive" ∷ codes "tri" ∷ codes "tri0" ∷ codes "tri1" ∷ codes "wand"
    ∷ codes "wor" ∷ codes "supply0" ∷ codes "supply1" ∷ codes "and" ∷ codes "nand" ∷ codes "or" ∷ codes "nor" ∷ codes "xor" ∷ codes "xnor"
    ∷ codes "not" ∷ codes "buf" ∷ codes "bufif0" ∷ codes "bufif1" ∷ codes "notif0" ∷ codes "notif1" ∷ codes "real" ∷ codes "time" ∷ codes "event" ∷ []

-- a plain identifier is a name where it is no reserved word
unfoldable pub word_class : List ℕ → NetlistClass
word_class word =
    if same_name word (codes "module") then Module
    else if same_name word (codes "endmodule") then Endmodule
    else if same_name word (codes "input") then Input
    else if same_name word (codes "output") then Output
    else if same_name word (codes "inout") then Inout
    else if same_name word (codes "wire") then Wire
    else if same_name word (codes "assign") then Assign
    else if list_any (same_name word) left_out_words then LeftOut
    else Name

abbrev pub mark_class : ℕ → NetlistClass
mark_class b =
    if b == 40 then Open
    else if b == 41 then Shut
    else if b == 91 then LeftBracket
    else if b == 93 then RightBracket
    else if b == 123 then LeftBrace
    else if b == 125 then RightBrace
    else if b == 44 then Comma
    else if b == 46 then Dot
    else if b == 58 then Colon
    else if b == 59 then Semicolon
    else if b == 61 then Equals
    else Stray

abbrev pub digits_class : List ℕ → NetlistClass
digits_class digits = if nat_le (number_of digits) 65535 then Number else Stray

-- the token of a piece; what the text's end cuts stands at that end, and has no text to show
abbrev pub token_of : ℕ → Placed NetlistPiece → List (Token NetlistClass)
token_of end p = elim p.what [
  | Skipped ↦ []
  | Plain word ↦ record { class = word_class word; text = word; line = p.line } ∷ []
  | Escaped name ↦ record { class = Name; text = name; line = p.line } ∷ []
  | Digits digits ↦ record { class = digits_class digits; text = digits; line = p.line } ∷ []
  | Constant text ↦ record { class = Constant; text = text; line = p.line } ∷ []
  | Mark b ↦ record { class = mark_class b; text = b ∷ []; line = p.line } ∷ []
  | Unclosed ↦ record { class = Stray; text = codes "-"; line = end } ∷ []
]

-- the tokens of a netlist's text
abbrev pub netlist_tokens : List ℕ → List (Token NetlistClass)
netlist_tokens text = flat_map (token_of (last_line text)) (pieces netlist_piece text)
