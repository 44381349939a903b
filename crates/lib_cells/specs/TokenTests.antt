-- The tests of tokens that the code asks for.
use Rattle.std.specs.Prelude.{Bool}
use Rattle.lib_cells.specs.LibraryWords.{LibraryClass}
use Rattle.lib_cells.specs.Groups.{goes_on, is_colon, is_comma, is_last_word, is_left_brace, is_open, is_plain_word, is_right_brace, is_semicolon, is_shut, is_word}
use Rattle.lib_cells.specs.declared.tokens.Wanted.{Wanted}
use Rattle.lib_cells.specs.declared.tokens.Wanted.TheVariants as made

-- the test that passes the tokens that are wanted
abbrev pub test_of : Wanted → LibraryClass → Bool
test_of made.Word = is_word
test_of made.PlainWord = is_plain_word
test_of made.LastWord = is_last_word
test_of made.Open = is_open
test_of made.Shut = is_shut
test_of made.LeftBrace = is_left_brace
test_of made.RightBrace = is_right_brace
test_of made.Colon = is_colon
test_of made.Semicolon = is_semicolon
test_of made.Comma = is_comma
test_of made.Argument = goes_on
