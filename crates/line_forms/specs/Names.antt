-- Which texts are names.
use Rattle.std.specs.Prelude.{ℕ, ◌==◌, Bool, false, not, ◌&&◌, ◌||◌, List, [], ◌∷◌, codes, IsTrue}
use Rattle.std.specs.List.{list_all, list_any}
use Rattle.std.specs.Char.{is_ascii_alphabetic, is_ascii_digit}
use Rattle.std.specs.Str.{bytes_eq}

-- whether a name may begin with the byte: a letter or `_`
abbrev pub is_letter : ℕ → Bool
is_letter b = is_ascii_alphabetic b || b == 95

-- whether a name may have the byte: a letter, `_` or a digit
abbrev pub is_name_byte : ℕ → Bool
is_name_byte b = is_letter b || is_ascii_digit b

-- whether the bytes are a name: letters, digits and `_`, at least one, and no digit first
abbrev pub is_id : List ℕ → Bool
is_id [] = false
is_id (b ∷ bs) = is_letter b && list_all is_name_byte bs

abbrev pub IsId : List ℕ → Type 0
IsId name = IsTrue (is_id name)

-- the words that are no names in a netlist
unfoldable pub reserved_words : List (List ℕ)
reserved_words =
    codes "always" ∷ codes "initial" ∷ codes "reg" ∷ codes "integer" ∷ codes "parameter" ∷ codes "localparam" ∷ codes "defparam" ∷ codes "function"
    ∷ codes "task" ∷ codes "generate" ∷ codes "genvar" ∷ codes "specify" ∷ codes "primitive" ∷ codes "tri" ∷ codes "tri0" ∷ codes "tri1" ∷ codes "wand"
    ∷ codes "wor" ∷ codes "supply0" ∷ codes "supply1" ∷ codes "and" ∷ codes "nand" ∷ codes "or" ∷ codes "nor" ∷ codes "xor" ∷ codes "xnor"
    ∷ codes "not" ∷ codes "buf" ∷ codes "bufif0" ∷ codes "bufif1" ∷ codes "notif0" ∷ codes "notif1" ∷ codes "real" ∷ codes "time" ∷ codes "event"
    ∷ codes "module" ∷ codes "endmodule" ∷ codes "input" ∷ codes "output" ∷ codes "inout" ∷ codes "wire" ∷ codes "assign" ∷ []

unfoldable pub is_reserved : List ℕ → Bool
is_reserved word = list_any (bytes_eq word) reserved_words

-- a name of a netlist: one that is no reserved word
pub record IsPlainName (name : List ℕ) : Type 0 where
  pub id : IsId name
  pub plain : IsTrue (not (is_reserved name))
