-- Each library that was begun can be ended.
use Rattle.std.proofs.Common.{ℕ, zero, suc, Bool, true, false, List, [], ◌∷◌, Option, Some, None, refl}
use Rattle.std.specs.List.{flat_map}
use Rattle.std.specs.Prelude.{codes}
use Rattle.list_defs.specs.Members.{same_name}
use Rattle.text_defs.specs.Grammar.{CanEnd}
use Rattle.text_defs.specs.Tokens.{Token, one_of, of_class}
use Rattle.text_defs.proofs.ClearPhrases.{can_end-many}
use Rattle.text_defs.proofs.ClearTokens.{can_end-one_of}
use Rattle.lib_cells.specs.LibraryWords.{LibraryClass, PlainWord, LastWord, Open, Shut, LeftBrace, RightBrace, Colon, Semicolon, Comma}
use Rattle.lib_cells.specs.Groups.{Attribute, CellPart, Says, CellGroup, LibraryGrammar, is_word, is_plain_word, is_last_word, is_open, is_shut, is_left_brace, is_right_brace, is_colon, is_semicolon, is_comma, goes_on, most, semicolon, further_argument, arguments, value, block, nothing_read, group_or_nothing, entry_of, entry, pins_behind, cell_behind, cell_entry, named_cell_behind, library_behind, library_entry, library_group, names_in}

ends-word : CanEnd (one_of is_word)
ends-word = can_end-one_of is_word PlainWord refl

ends-semicolon : CanEnd semicolon
unfolding CanEnd
ends-semicolon = ((can_end-one_of is_semicolon Semicolon refl, λ _. tt), tt)

ends-nothing : (A : Type 0) → CanEnd (nothing_read {A = A})
unfolding CanEnd
ends-nothing A = (ends-semicolon, λ _. tt)

ends-further : CanEnd further_argument
unfolding CanEnd
ends-further = (((can_end-one_of is_comma Comma refl, λ _. tt), tt), λ _. (ends-word, λ _. tt))

ends-arguments : CanEnd arguments
unfolding CanEnd
ends-arguments = (
  can_end-one_of is_open Open refl,
  λ _. (
    (
      (
        (ends-word, λ _. (can_end-many most (of_class goes_on) further_argument ends-further, λ _. tt)),
        λ _. tt,
      ),
      tt,
    ),
    λ _. (can_end-one_of is_shut Shut refl, λ _. tt),
  ),
)

ends-value : CanEnd value
unfolding CanEnd
ends-value = (
  can_end-one_of is_colon Colon refl,
  λ _. (
    can_end-many most (of_class is_plain_word) (one_of is_plain_word) (can_end-one_of is_plain_word PlainWord refl),
    λ _. (can_end-one_of is_last_word LastWord refl, λ _. (ends-semicolon, λ _. tt)),
  ),
)

ends-block : {A : Type 0} (inner : LibraryGrammar A) → CanEnd inner → CanEnd (block inner)
unfolding CanEnd
ends-block inner c = (
  can_end-one_of is_left_brace LeftBrace refl,
  λ _. (
    can_end-many most (of_class is_word) inner c,
    λ _. (can_end-one_of is_right_brace RightBrace refl, λ _. (ends-semicolon, λ _. tt)),
  ),
)

ends-group : {A B : Type 0} (read_as : List A → Option B) (inner : LibraryGrammar A) → CanEnd inner → CanEnd (group_or_nothing read_as inner)
unfolding CanEnd
ends-group {B = B} read_as inner c = ((ends-block inner c, λ _. tt), ends-nothing B)

ends-entry_of : {A : Type 0} (said : Attribute → Option A) (more : Token LibraryClass → List (List ℕ) → LibraryGrammar (Option A))
    → ((t : Token LibraryClass) (ws : List (List ℕ)) → CanEnd (more t ws)) → CanEnd (entry_of said more)
unfolding CanEnd
ends-entry_of said more all = (ends-word, λ t. (((ends-value, λ _. tt), λ _. tt), (ends-arguments, λ ws. all t ws)))

ends-entry : (depth : ℕ) → CanEnd (entry depth)
unfolding entry
ends-entry zero = ends-entry_of Some (λ _ _. nothing_read) (λ t ws. ends-nothing _)
ends-entry (suc depth) =
    ends-entry_of Some (λ _ _. group_or_nothing (λ _. None) (entry depth)) (λ t ws. ends-group (λ _. None) (entry depth) (ends-entry depth))

ends-pins : (depth : ℕ) (names : List (List ℕ)) → CanEnd (pins_behind depth names)
ends-pins depth [] = ends-nothing _
ends-pins depth (name ∷ names) = ends-group _ (entry depth) (ends-entry depth)

ends-cell_entry : (depth : ℕ) → CanEnd (cell_entry depth)
ends-cell_entry depth = ends-entry_of (λ a. Some (Says a)) (cell_behind depth) (λ t ws. by t ws (same_name t.text (codes "pin")))
  where
    by : (t : Token LibraryClass) (ws : List (List ℕ)) (b : Bool)
        → CanEnd {A = Option CellPart} (elim b [ true ↦ pins_behind depth (flat_map names_in ws) | false ↦ group_or_nothing (λ _. None) (entry depth) ])
    by t ws true = ends-pins depth (flat_map names_in ws)
    by t ws false = ends-group (λ _. None) (entry depth) (ends-entry depth)

ends-named_cell : (depth line : ℕ) (ws : List (List ℕ)) → CanEnd (named_cell_behind depth line ws)
ends-named_cell depth line [] = ends-nothing _
ends-named_cell depth line (name ∷ []) = ends-group _ (cell_entry depth) (ends-cell_entry depth)
ends-named_cell depth line (name ∷ more ∷ ws) = ends-nothing _

ends-library_entry : (depth : ℕ) → CanEnd (library_entry depth)
ends-library_entry depth = ends-entry_of (λ _. None) (library_behind depth) (λ t ws. by t ws (same_name t.text (codes "cell")))
  where
    by : (t : Token LibraryClass) (ws : List (List ℕ)) (b : Bool)
        → CanEnd {A = Option CellGroup} (elim b [ true ↦ named_cell_behind depth t.line ws | false ↦ group_or_nothing (λ _. None) (entry (suc depth)) ])
    by t ws true = ends-named_cell depth t.line ws
    by t ws false = ends-group (λ _. None) (entry (suc depth)) (ends-entry (suc depth))

pub ends-library : CanEnd library_group
unfolding library_group CanEnd
ends-library = (
  (record { class = PlainWord; text = codes "library"; line = 0 }, record { class = PlainWord; text = codes "library"; line = 0 }, refl),
  λ _. (ends-arguments, λ _. (ends-block (library_entry 97) (ends-library_entry 97), λ _. tt)),
)
