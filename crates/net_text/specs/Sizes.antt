-- How great the numbers are that tokens write.
use Rattle.std.specs.Prelude.{ℕ, ◌≤◌, List, [], ◌∷◌}
use Rattle.text_defs.specs.Tokens.{Token}
use Rattle.net_text.specs.NetlistTokens.{NetlistPiece, NetlistClass, number_of, digits_at}

-- the width of a constant is at most 65,536
abbrev pub IsSized : NetlistPiece → Type 0
IsSized NetlistPiece.Skipped = Unit {0}
IsSized (NetlistPiece.Plain word) = Unit {0}
IsSized (NetlistPiece.Escaped name) = Unit {0}
IsSized (NetlistPiece.Digits digits) = Unit {0}
IsSized (NetlistPiece.Constant text) = number_of (digits_at text) ≤ 65536
IsSized (NetlistPiece.Mark b) = Unit {0}
IsSized NetlistPiece.Unclosed = Unit {0}

-- a number is at most 65,535, and the width of a constant at most 65,536
abbrev pub IsMeasured : NetlistClass → List ℕ → Type 0
IsMeasured NetlistClass.Number text = number_of text ≤ 65535
IsMeasured NetlistClass.Constant text = number_of (digits_at text) ≤ 65536
IsMeasured _ text = Unit {0}

-- the next token, where there is one, is no greater
abbrev pub IsNextMeasured : List (Token NetlistClass) → Type 0
IsNextMeasured [] = Unit {0}
IsNextMeasured (t ∷ _) = IsMeasured t.class t.text
