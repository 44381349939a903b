-- The grammar of libraries is clear: the next token tells how to go on; and each library that was begun can be ended.
use Rattle.std.proofs.Common.{◌≡◌, ℕ, zero, suc, Bool, true, false, ◌&&◌, List, [], ◌∷◌, Option, Some, None, inl, inr, refl, if◌then◌else◌}
use Rattle.std.specs.List.{flat_map}
use Rattle.list_defs.specs.Members.{IsIn, same_name}
use Rattle.std.specs.Prelude.{codes}
use Rattle.text_defs.specs.Tokens.{Token}
use Rattle.text_defs.proofs.Clear.{IsClear, clear-gives, clear-token, clear-then, clear-where, clear-wider, clear-fewer}
use Rattle.text_defs.proofs.ClearPhrases.{clear-option, clear-many, all_in_right, all_in_same}
use Rattle.text_defs.proofs.ClearTokens.{class_of, clear-one_of}
use Rattle.lib_cells.specs.LibraryWords.{LibraryClass, PlainWord, LastWord, Open, Shut, LeftBrace, RightBrace, Colon, Semicolon, Comma}
use Rattle.lib_cells.specs.Groups.{Attribute, CellPart, Says, CellGroup, LibraryGrammar, is_word, is_plain_word, is_last_word, is_open, is_shut, is_left_brace, is_right_brace, is_colon, is_semicolon, is_comma, goes_on, most, semicolon, further_argument, some_arguments, arguments, value, block, nothing_read, group_or_nothing, entry_of, entry, pins_behind, cell_behind, cell_entry, named_cell_behind, library_behind, library_entry, library_group, names_in}

abbrev pub Classes : Type 0
Classes = List (Option LibraryClass)

abbrev pub words : Classes
words = Some PlainWord ∷ Some LastWord ∷ []

-- what may follow an entry or a group: a word, a closing brace, or the end of the text
abbrev pub behind : Classes
behind = Some PlainWord ∷ Some LastWord ∷ Some RightBrace ∷ None ∷ []

abbrev IsClearLibrary : {A : Type 0} → LibraryGrammar A → Classes → Classes → Type 0
IsClearLibrary g starts follows = IsClear class_of g starts follows

a_word : (c : LibraryClass) → is_word c ≡ true → IsIn (Some c) words
a_word PlainWord h = inl refl
a_word LastWord h = inr (inl refl)
a_word _ h = cc

a_plain_word : (c : LibraryClass) → is_plain_word c ≡ true → IsIn (Some c) (Some PlainWord ∷ [])
a_plain_word PlainWord h = inl refl
a_plain_word _ h = cc

a_last_word : (c : LibraryClass) → is_last_word c ≡ true → IsIn (Some c) (Some LastWord ∷ [])
a_last_word LastWord h = inl refl
a_last_word _ h = cc

an_open : (c : LibraryClass) → is_open c ≡ true → IsIn (Some c) (Some Open ∷ [])
an_open Open h = inl refl
an_open _ h = cc

a_shut : (c : LibraryClass) → is_shut c ≡ true → IsIn (Some c) (Some Shut ∷ [])
a_shut Shut h = inl refl
a_shut _ h = cc

a_left_brace : (c : LibraryClass) → is_left_brace c ≡ true → IsIn (Some c) (Some LeftBrace ∷ [])
a_left_brace LeftBrace h = inl refl
a_left_brace _ h = cc

a_right_brace : (c : LibraryClass) → is_right_brace c ≡ true → IsIn (Some c) (Some RightBrace ∷ [])
a_right_brace RightBrace h = inl refl
a_right_brace _ h = cc

a_colon : (c : LibraryClass) → is_colon c ≡ true → IsIn (Some c) (Some Colon ∷ [])
a_colon Colon h = inl refl
a_colon _ h = cc

a_semicolon : (c : LibraryClass) → is_semicolon c ≡ true → IsIn (Some c) (Some Semicolon ∷ [])
a_semicolon Semicolon h = inl refl
a_semicolon _ h = cc

a_comma : (c : LibraryClass) → is_comma c ≡ true → IsIn (Some c) (Some Comma ∷ [])
a_comma Comma h = inl refl
a_comma _ h = cc

clear-semicolon : IsClearLibrary semicolon (Some Semicolon ∷ behind) behind
clear-semicolon = clear-option is_semicolon {starts = Some Semicolon ∷ []} {follows = behind} (clear-one_of is_semicolon a_semicolon) refl refl

clear-further : IsClearLibrary further_argument (Some Comma ∷ words) (Some Comma ∷ Some PlainWord ∷ Some LastWord ∷ Some Shut ∷ [])
clear-further =
    clear-then (clear-option is_comma {starts = Some Comma ∷ []} {follows = words} (clear-one_of is_comma a_comma) refl refl)
    (λ _. clear-then (clear-one_of is_word a_word) (λ _. clear-gives))

clear-some_arguments : IsClearLibrary some_arguments words (Some Shut ∷ [])
clear-some_arguments =
    clear-then (clear-one_of is_word a_word)
    (λ _. clear-then (clear-many most goes_on {starts = Some Comma ∷ words} {follows = Some Shut ∷ []} clear-further refl refl) (λ _. clear-gives))

clear-arguments : {follows : Classes} → IsClearLibrary arguments (Some Open ∷ []) follows
clear-arguments =
    clear-then (clear-one_of is_open an_open)
    (λ _. clear-then (clear-option is_word {starts = words} {follows = Some Shut ∷ []} clear-some_arguments refl refl)
    (λ _. clear-then (clear-one_of is_shut a_shut) (λ _. clear-gives)))

clear-value : IsClearLibrary value (Some Colon ∷ []) behind
clear-value =
    clear-then (clear-one_of is_colon a_colon)
    (λ _. clear-then (clear-many most is_plain_word {starts = Some PlainWord ∷ []} {follows = Some LastWord ∷ []}
    (clear-one_of is_plain_word a_plain_word) refl refl)
    (λ _. clear-then (clear-one_of is_last_word a_last_word) (λ _. clear-then clear-semicolon (λ _. clear-gives))))

clear-block : {A : Type 0} (inner : LibraryGrammar A) → IsClearLibrary inner words behind → IsClearLibrary (block inner) (Some LeftBrace ∷ []) behind
clear-block inner one =
    let fewer : IsClearLibrary inner words (Some PlainWord ∷ Some LastWord ∷ Some RightBrace ∷ []) =
    clear-fewer one (inl refl, (inr (inl refl), (inr (inr (inl refl)), tt))) in
    clear-then (clear-one_of is_left_brace a_left_brace)
    (λ _. clear-then (clear-many most is_word {starts = words} {follows = Some RightBrace ∷ []} fewer refl refl)
    (λ _. clear-then (clear-one_of is_right_brace a_right_brace) (λ _. clear-then clear-semicolon (λ _. clear-gives))))

-- what may stand behind arguments
abbrev later : Classes
later = Some LeftBrace ∷ Some Semicolon ∷ behind

clear-nothing_read : {A : Type 0} → IsClearLibrary (nothing_read {A = A}) later behind
clear-nothing_read {A} =
    let narrow : IsClearLibrary (nothing_read {A = A}) (Some Semicolon ∷ behind) behind = clear-then clear-semicolon (λ _. clear-gives) in
    clear-wider narrow (all_in_right (Some LeftBrace ∷ []) (Some Semicolon ∷ behind) (Some Semicolon ∷ behind) (all_in_same (Some Semicolon ∷ behind)))

clear-group : {A B : Type 0} (read_as : List A → Option B) (inner : LibraryGrammar A) → IsClearLibrary inner words behind
    → IsClearLibrary (group_or_nothing read_as inner) later behind
clear-group {A} {B} read_as inner one =
    let narrow : IsClearLibrary (nothing_read {A = B}) (Some Semicolon ∷ behind) behind = clear-then clear-semicolon (λ _. clear-gives) in
    clear-where is_left_brace (clear-then (clear-block inner one) (λ _. clear-gives)) narrow refl refl

clear-entry_of : {A : Type 0} (said : Attribute → Option A) (more : Token LibraryClass → List (List ℕ) → LibraryGrammar (Option A))
    → ((t : Token LibraryClass) (ws : List (List ℕ)) → IsClearLibrary (more t ws) later behind) → IsClearLibrary (entry_of said more) words behind
clear-entry_of said more all =
    clear-then (clear-one_of is_word a_word)
    (λ t. clear-where is_colon (clear-then (clear-then clear-value (λ _. clear-gives)) (λ _. clear-gives))
    (clear-then clear-arguments (λ ws. all t ws)) refl refl)

clear-entry : (depth : ℕ) → IsClearLibrary (entry depth) words behind
unfolding entry
clear-entry zero = clear-entry_of Some (λ _ _. nothing_read) (λ t ws. clear-nothing_read)
clear-entry (suc depth) =
    clear-entry_of Some (λ _ _. group_or_nothing (λ _. None) (entry depth)) (λ t ws. clear-group (λ _. None) (entry depth) (clear-entry depth))

clear-pins : (depth : ℕ) (names : List (List ℕ)) → IsClearLibrary (pins_behind depth names) later behind
clear-pins depth [] = clear-nothing_read
clear-pins depth (name ∷ names) = clear-group _ (entry depth) (clear-entry depth)

clear-cell_entry : (depth : ℕ) → IsClearLibrary (cell_entry depth) words behind
clear-cell_entry depth = clear-entry_of (λ a. Some (Says a)) (cell_behind depth) (λ t ws. by t ws (same_name t.text (codes "pin")))
  where
    by : (t : Token LibraryClass) (ws : List (List ℕ)) (b : Bool)
        → IsClearLibrary {A = Option CellPart} (elim b [
          | true ↦ pins_behind depth (flat_map names_in ws)
          | false ↦ group_or_nothing
              (λ _. None) (entry depth)
        ]) later behind
    by t ws true = clear-pins depth (flat_map names_in ws)
    by t ws false = clear-group (λ _. None) (entry depth) (clear-entry depth)

clear-named_cell : (depth line : ℕ) (ws : List (List ℕ)) → IsClearLibrary (named_cell_behind depth line ws) later behind
clear-named_cell depth line [] = clear-nothing_read
clear-named_cell depth line (name ∷ []) = clear-group _ (cell_entry depth) (clear-cell_entry depth)
clear-named_cell depth line (name ∷ more ∷ ws) = clear-nothing_read

clear-library_entry : (depth : ℕ) → IsClearLibrary (library_entry depth) words behind
clear-library_entry depth = clear-entry_of (λ _. None) (library_behind depth) (λ t ws. by t ws (same_name t.text (codes "cell")))
  where
    by : (t : Token LibraryClass) (ws : List (List ℕ)) (b : Bool)
        → IsClearLibrary {A = Option CellGroup} (elim b [
          | true ↦ named_cell_behind depth t.line ws
          | false ↦ group_or_nothing
              (λ _. None) (entry (suc depth))
        ]) later behind
    by t ws true = clear-named_cell depth t.line ws
    by t ws false = clear-group (λ _. None) (entry (suc depth)) (clear-entry (suc depth))

a_library_word : (t x : Token LibraryClass) → (if is_word t.class && same_name t.text (codes "library") then Some t else None) ≡ Some x
    → IsIn (Some t.class) words
a_library_word t x h = by (is_word t.class) refl h
  where
    by : (b : Bool) → is_word t.class ≡ b → (if b && same_name t.text (codes "library") then Some t else None) ≡ Some x → IsIn (Some t.class) words
    by true e h = a_word t.class e
    by false e h = cc

pub clear-library : IsClear class_of library_group words behind
unfolding library_group
clear-library =
    clear-then (clear-token a_library_word)
    (λ _. clear-then clear-arguments (λ _. clear-then (clear-block (library_entry 97) (clear-library_entry 97)) (λ _. clear-gives)))
