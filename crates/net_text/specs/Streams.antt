-- What is left of a netlist's text behind a place.
use Rattle.std.specs.Prelude.{◌≡◌, ℕ, Bool, List, [], ◌∷◌, Option, Some, None, drop}
use Rattle.std.specs.List.{flat_map}
use Rattle.text_defs.specs.Lines.{last_line}
use Rattle.text_defs.specs.Pieces.{pieces_from}
use Rattle.text_defs.specs.Tokens.{Token}
use Rattle.text_streams.specs.declared.places.Place.{Place}
use Rattle.net_text.specs.NetlistTokens.{NetlistPiece, Mark, NetlistClass, netlist_piece, token_of}
use Rattle.net_text.specs.TokenViews.{class_view}
use Rattle.net_text.specs.declared.words.Word.{Word}

-- the tokens behind a place
unfoldable pub tokens_from : List ℕ → ℕ → Bool → List (Token NetlistClass)
tokens_from text place fresh = flat_map (token_of (last_line text)) (pieces_from netlist_piece text place fresh 0 (drop place text))

abbrev pub tokens_behind : Place → List (Token NetlistClass)
tokens_behind p = tokens_from p.text.now p.at p.fresh

abbrev pub word_view : Word → Token NetlistClass
word_view w = record { class = class_view w.class; text = w.text.now; line = w.line }

-- the token ahead, where there is one
abbrev pub ahead : Option Word → List (Token NetlistClass)
ahead None = []
ahead (Some w) = word_view w ∷ []

-- a byte by itself is the one shown
abbrev pub IsMarkOf : NetlistPiece → List ℕ → Type 0
IsMarkOf (Mark b) shown = shown ≡ b ∷ []
IsMarkOf _ shown = Unit {0}

-- no token ahead means that none is left
abbrev pub EndsAt : Option Word → List (Token NetlistClass) → Type 0
EndsAt None left = left ≡ []
EndsAt (Some w) left = Unit {0}
