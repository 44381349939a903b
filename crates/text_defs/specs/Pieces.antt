-- How a text is cut into pieces, such as blanks, comments and words.
use Rattle.std.specs.Prelude.{ℕ, zero, suc, ◌+◌, ◌-◌, ◌==◌, Bool, true, false, ◌&&◌, ◌||◌, List, [], ◌∷◌, Option, Some, None, if◌then◌else◌}
use Rattle.std.specs.Option.{option_map}
use Rattle.text_defs.specs.Lines.{line_at}

-- white space: space, tab, newline, carriage return and form feed
abbrev pub is_white : ℕ → Bool
is_white b = b == 32 || b == 9 || b == 10 || b == 13 || b == 12

-- blanks: space and tab
abbrev pub is_blank : ℕ → Bool
is_blank b = b == 32 || b == 9

-- whether the bytes begin with this one
abbrev pub begins_with : ℕ → List ℕ → Bool
begins_with a [] = false
begins_with a (b ∷ _) = b == a

-- how many bytes stand up to and with the first a that b follows, where there is one
unfoldable pub closed_by : ℕ → ℕ → List ℕ → Option ℕ
closed_by a b [] = None
closed_by a b (x ∷ rest) = if x == a && begins_with b rest then Some 2 else option_map suc (closed_by a b rest)

-- a piece: what it is, and how many bytes it has
pub record Piece (A : Type 0) : Type 0 where
  pub what : A
  pub size : ℕ

-- what stands somewhere in a text, and its line
pub record Placed (A : Type 0) : Type 0 where
  pub what : A
  pub line : ℕ

-- The pieces of a text, one behind the other. `piece` says which begins where a text's rest begins, and is told whether
-- nothing but blanks stands before it on its line. The first `covered` bytes of the rest belong to the piece before.
unfoldable pub pieces_from : {A : Type 0} → (Bool → List ℕ → Piece A) → List ℕ → ℕ → Bool → ℕ → List ℕ → List (Placed A)
pieces_from piece text place fresh covered [] = []
pieces_from piece text place fresh (suc covered) (b ∷ rest) =
    pieces_from piece text (place + 1) (b == 10 || (fresh && is_blank b)) covered rest
pieces_from piece text place fresh zero (b ∷ rest) =
    let p = piece fresh (b ∷ rest) in
    record { what = p.what; line = line_at text place } ∷ pieces_from piece text (place + 1) (b == 10 || (fresh && is_blank b)) (p.size - 1) rest

-- all pieces of a text
abbrev pub pieces : {A : Type 0} → (Bool → List ℕ → Piece A) → List ℕ → List (Placed A)
pieces piece text = pieces_from piece text 0 true 0 text
