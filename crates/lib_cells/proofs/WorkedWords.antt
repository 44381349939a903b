-- Into which tokens short texts of libraries are cut.
use Rattle.std.proofs.Common.{◌≡◌, ℕ, List, [], ◌∷◌, map, codes, refl}
use Rattle.text_defs.specs.Lines.{line_at}
use Rattle.text_defs.specs.Pieces.{pieces_from, closed_by}
use Rattle.text_defs.specs.Tokens.{Token}
use Rattle.lib_cells.specs.LibraryWords.{LibraryClass, PlainWord, LastWord, Colon, Semicolon, Stray, library_tokens, library_piece, word_size, quoted_size, tokens_from}

-- all that cutting a text computes with
abbrev cutting : Unit {0}
unfolding line_at pieces_from closed_by library_piece word_size quoted_size tokens_from
cutting = tt

abbrev texts : List ℕ → List (List ℕ)
texts text = map (λ (t : Token LibraryClass). t.text) (library_tokens text)

abbrev classes : List ℕ → List LibraryClass
classes text = map (λ (t : Token LibraryClass). t.class) (library_tokens text)

pub a_comment_parts_a_word : texts (codes "ab/*c*/d a/b") ≡ codes "ab" ∷ codes "d" ∷ codes "a/b" ∷ []
unfolding cutting
a_comment_parts_a_word = refl

-- quotes are left out, and what stands between them is kept with its backslashes
pub a_quoted_text_is_a_word : texts (codes "\"a \\\" b\"") ≡ codes "a \\\" b" ∷ []
unfolding cutting
a_quoted_text_is_a_word = refl

pub a_value_ends_at_its_semicolon : classes (codes "x : a b;\n") ≡ PlainWord ∷ Colon ∷ PlainWord ∷ LastWord ∷ Semicolon ∷ []
unfolding cutting
a_value_ends_at_its_semicolon = refl

-- no newline in a comment, in quotes or behind a backslash ends a value
pub a_value_ends_with_its_line : classes (codes "x : a /*\n*/ \"\n\" \\\n b\ny") ≡ PlainWord ∷ Colon ∷ PlainWord ∷ PlainWord ∷ LastWord ∷ PlainWord ∷ []
unfolding cutting
a_value_ends_with_its_line = refl

pub a_colon_at_its_lines_end_is_stray : classes (codes "x :\na;") ≡ PlainWord ∷ Stray ∷ LastWord ∷ Semicolon ∷ []
unfolding cutting
a_colon_at_its_lines_end_is_stray = refl

-- what nothing closes stands at the end of the text
pub an_open_comment_is_stray : library_tokens (codes "x /* y\n\n") ≡ record { class = PlainWord; text = codes "x"; line = 1 }
    ∷ record { class = Stray; text = []; line = 3 } ∷ []
unfolding cutting
an_open_comment_is_stray = refl
