-- Pieces of a short text, and first places of short lists.
use Rattle.std.proofs.Common.{◌≡◌, ℕ, ◌<◌, Bool, true, false, List, [], ◌∷◌, Some, None, codes, refl, if◌then◌else◌, ◌==◌, length, arith}
use Rattle.text_defs.specs.Lines.{line_at}
use Rattle.text_defs.specs.Pieces.{Piece, pieces, pieces_from, closed_by}
use Rattle.text_defs.specs.FirstPlace.{IsFirstPlace, HasNoPlace, firsts}
use Rattle.text_defs.proofs.FirstPlaces.{first_behind}

-- one byte, or two where the first is a 1; it tells whether it stands behind blanks alone
abbrev one_or_two : Bool → List ℕ → Piece (Bool × ℕ)
one_or_two fresh [] = record { what = (fresh, 0); size = 1 }
one_or_two fresh (b ∷ _) = record { what = (fresh, b); size = if b == 49 then 2 else 1 }

-- a piece covers its bytes, and a line begins behind a newline
pub pieces_cover_their_bytes : pieces one_or_two (codes "x12\n 3")
    ≡ record { what = (true, 120); line = 1 } ∷ record { what = (false, 49); line = 1 } ∷ record { what = (false, 10); line = 1 }
    ∷ record { what = (true, 32); line = 2 } ∷ record { what = (true, 51); line = 2 } ∷ []
unfolding pieces_from line_at
pieces_cover_their_bytes = refl

-- the last piece may have fewer bytes than it would
pub a_piece_ends_with_the_text : pieces one_or_two (codes "1") ≡ record { what = (true, 49); line = 1 } ∷ []
unfolding pieces_from line_at
a_piece_ends_with_the_text = refl

pub a_comment_is_closed_by_the_first_end : closed_by 42 47 (codes "a*/b*/") ≡ Some 3
unfolding closed_by
a_comment_is_closed_by_the_first_end = refl

pub an_open_comment_is_not_closed : closed_by 42 47 (codes "a* /") ≡ None
unfolding closed_by
an_open_comment_is_not_closed = refl

pub each_stands_at_its_first_place : firsts (λ a b. a == b) (3 ∷ 1 ∷ 3 ∷ 2 ∷ 1 ∷ []) ≡ 3 ∷ 1 ∷ 2 ∷ []
unfolding firsts
each_stands_at_its_first_place = refl

pub the_first_place_may_be_the_first_of_all : IsFirstPlace (λ (before : List ℕ) x behind. x ≡ 5) (5 ∷ 5 ∷ []) 5
the_first_place_may_be_the_first_of_all =
    first_behind (λ (before : List ℕ) x behind. x ≡ 5) [] 5 (5 ∷ []) refl
    (λ front y rest split less. absurd (let none : ¬ (length front < 0) = omega arith in none less))

pub nothing_has_a_place_in_no_list : HasNoPlace (λ (before : List ℕ) x behind. x ≡ x) []
nothing_has_a_place_in_no_list [] y rest split = cc
nothing_has_a_place_in_no_list (z ∷ front) y rest split = cc
