-- Reading, phrase by phrase: what a grammar reads where its parts are read.
use Rattle.std.proofs.Common.{◌≡◌, ◌≢◌, ℕ, Bool, true, false, List, [], ◌∷◌, ◌++◌, map, Option, Some, None, Ok, Err, refl, sym, ap, ◌∙◌, unwrap_or, codes, suc}
use Rattle.std.specs.List.{flat_map}
use Rattle.list_defs.specs.Members.{same_name}
use Rattle.text_defs.specs.Grammar.{Grammar, Reading, read, next, passes, and_then, ◌>>=◌}
use Rattle.text_defs.specs.Tokens.{Token, of_class, one_of}
use Rattle.text_defs.proofs.Found.{ok_same, read-where_yes, read-where_no}
use Rattle.lib_cells.specs.LibraryWords.{LibraryClass}
use Rattle.lib_cells.specs.Groups.{Attribute, CellGroup, CellPart, HasPins, LibraryGrammar, arguments, attribute, block, cell_behind, cell_entry, entry, entry_of, further_argument, goes_on, group_or_nothing, is_colon, is_last_word, is_left_brace, is_open, is_plain_word, is_right_brace, is_shut, is_word, library_behind, library_entry, library_group, library_word, most, named_cell_behind, names_in, nothing_read, pins_behind, present, semicolon, some_arguments, value}
use Rattle.lib_cells.specs.Kept.{behind_entry, behind_word, cell_group, end_of_block}
use Rattle.lib_cells.specs.Marks.{lone}
use Rattle.text_defs.specs.Phrases.{many, option}

abbrev Tokens : Type 0
Tokens = List (Token LibraryClass)

pub then_reads : {K A B : Type 0} (first : Grammar K A) (second : A → Grammar K B) (old rest : List K) (x : A) → read first old ≡ Ok (x, rest)
    → read (first >>= second) old ≡ read (second x) rest
unfolding read
then_reads first second old rest x e = ap (λ r. and_then r (λ y left. read (second y) left)) e

pub gives_reads : {K A : Type 0} (x : A) (old : List K) → read (Grammar.gives x) old ≡ Ok (x, old)
unfolding read
gives_reads x old = refl

-- a phrase of which something else is given
pub made_reads : {K A B : Type 0} (first : Grammar K A) (make : A → B) (old rest : List K) (x : A) → read first old ≡ Ok (x, rest)
    → read (first >>= λ y. Grammar.gives (make y)) old ≡ Ok (make x, rest)
made_reads first make old rest x e = then_reads first (λ y. Grammar.gives (make y)) old rest x e ∙ gives_reads (make x) rest

-- what stands behind nothing that is read
pub nothing_reads : {A : Type 0} (old rest : Tokens) (s : Option (Token LibraryClass)) → read semicolon old ≡ Ok (s, rest) → read (nothing_read {A = A}) old ≡ Ok (None, rest)
nothing_reads {A} old rest s e = made_reads semicolon (λ _. None) old rest s e

-- an entry that is an attribute
pub attribute_reads : {A : Type 0} (said : Attribute → Option A) (behind : Token LibraryClass → List (List ℕ) → LibraryGrammar (Option A)) (old inner rest : Tokens)
    (w : Token LibraryClass) (v : List (List ℕ)) → read (one_of is_word) old ≡ Ok (w, inner) → passes (of_class is_colon) (next inner) ≡ true
    → read value inner ≡ Ok (v, rest) → read (entry_of said behind) old ≡ Ok (said (record { name = w.text; value = v }), rest)
attribute_reads said behind old inner rest w v e colon f =
    then_reads (one_of is_word) (λ name. Grammar.where_next (of_class is_colon) (attribute name >>= λ a. Grammar.gives (said a)) (arguments >>= λ words. behind name words)) old inner w e
    ∙ read-where_yes (of_class is_colon) (attribute w >>= λ a. Grammar.gives (said a)) (arguments >>= λ words. behind w words) inner colon
    ∙ made_reads (attribute w) said inner rest (record { name = w.text; value = v })
    (made_reads value (λ words. record { name = w.text; value = words }) inner rest v f)

-- an entry that is none
pub other_reads : {A : Type 0} (said : Attribute → Option A) (behind : Token LibraryClass → List (List ℕ) → LibraryGrammar (Option A)) (old inner : Tokens)
    (w : Token LibraryClass) → read (one_of is_word) old ≡ Ok (w, inner) → passes (of_class is_colon) (next inner) ≡ false
    → read (entry_of said behind) old ≡ read (arguments >>= λ words. behind w words) inner
other_reads said behind old inner w e colon =
    then_reads (one_of is_word) (λ name. Grammar.where_next (of_class is_colon) (attribute name >>= λ a. Grammar.gives (said a)) (arguments >>= λ words. behind name words)) old inner w e
    ∙ read-where_no (of_class is_colon) (attribute w >>= λ a. Grammar.gives (said a)) (arguments >>= λ words. behind w words) inner colon

-- what is given behind something that was read doesn't tell how far that was
given_other : {K A C D : Type 0} (r : Reading K A) (c : C) (d : D) (rest : List K) → and_then r (λ _ left. Ok (c, left)) ≡ Ok (c, rest)
    → and_then r (λ _ left. Ok (d, left)) ≡ Ok (d, rest)
given_other {K} {A} {C} {D} (Ok p) c d rest e = ap (λ (q : C × List K). Ok (d, q.1)) (ok_same (c, p.1) (c, rest) e)
given_other (Err left) c d rest e = cc

given_behind : {K A B C D : Type 0} (r : Reading K A) (more : List K → Reading K B) (c : C) (d : D) (rest : List K)
    → and_then r (λ _ left. and_then (more left) (λ _ last. Ok (c, last))) ≡ Ok (c, rest) → and_then r (λ _ left. and_then (more left) (λ _ last. Ok (d, last))) ≡ Ok (d, rest)
given_behind (Ok p) more c d rest e = given_other (more p.1) c d rest e
given_behind (Err left) more c d rest e = cc

-- the end of a block, behind which something is given
end_reads : {A : Type 0} (x : A) (old rest : Tokens) → read end_of_block old ≡ Ok (tt, rest)
    → read (one_of is_right_brace >>= λ _. semicolon >>= λ _. Grammar.gives x) old ≡ Ok (x, rest)
unfolding read
end_reads x old rest e = given_behind (read (one_of is_right_brace) old) (λ left. read semicolon left) tt x rest e

-- a block of entries
pub block_reads : {A : Type 0} (entry : LibraryGrammar A) (old inner deep rest : Tokens) (b : Token LibraryClass) (xs : List A)
    → read (one_of is_left_brace) old ≡ Ok (b, inner) → read (many most (of_class is_word) entry) inner ≡ Ok (xs, deep)
    → read end_of_block deep ≡ Ok (tt, rest) → read (block entry) old ≡ Ok (xs, rest)
block_reads {A} entry old inner deep rest b xs e f g =
    let after : List A → LibraryGrammar (List A) = λ entries. one_of is_right_brace >>= λ _. semicolon >>= λ _. Grammar.gives entries in
    then_reads (one_of is_left_brace) (λ _. many most (of_class is_word) entry >>= after) old inner b e
    ∙ then_reads (many most (of_class is_word) entry) after inner deep xs f
    ∙ end_reads xs deep rest g

-- a group, where a brace stands next, else nothing
pub group_reads : {A B : Type 0} (read_as : List A → Option B) (entry : LibraryGrammar A) (old rest : Tokens) (xs : List A) → passes (of_class is_left_brace) (next old) ≡ true
    → read (block entry) old ≡ Ok (xs, rest) → read (group_or_nothing read_as entry) old ≡ Ok (read_as xs, rest)
group_reads read_as entry old rest xs brace e =
    read-where_yes (of_class is_left_brace) (block entry >>= λ entries. Grammar.gives (read_as entries)) nothing_read old brace
    ∙ made_reads (block entry) read_as old rest xs e

-- a group in a group that is passed over
pub behind_reads : (depth inner : ℕ) (old rest : Tokens) (xs : List (Option Attribute)) → depth ≡ suc inner → passes (of_class is_left_brace) (next old) ≡ true
    → read (block (entry inner)) old ≡ Ok (xs, rest) → read (behind_entry depth) old ≡ Ok (None, rest)
behind_reads depth inner old rest xs is brace e = ap (λ (n : ℕ). read (behind_entry n) old) is ∙ group_reads (λ _. None) (entry inner) old rest xs brace e

pub no_group_reads : {A B : Type 0} (read_as : List A → Option B) (entry : LibraryGrammar A) (old rest : Tokens) (s : Option (Token LibraryClass))
    → passes (of_class is_left_brace) (next old) ≡ false → read semicolon old ≡ Ok (s, rest) → read (group_or_nothing read_as entry) old ≡ Ok (None, rest)
no_group_reads read_as entry old rest s brace e =
    read-where_no (of_class is_left_brace) (block entry >>= λ entries. Grammar.gives (read_as entries)) nothing_read old brace ∙ nothing_reads old rest s e

-- one argument or more
pub some_arguments_read : (old inner rest : Tokens) (w : Token LibraryClass) (more : List (List ℕ)) → read (one_of is_word) old ≡ Ok (w, inner)
    → read (many most (of_class goes_on) further_argument) inner ≡ Ok (more, rest) → read some_arguments old ≡ Ok (w.text ∷ more, rest)
some_arguments_read old inner rest w more e f =
    then_reads (one_of is_word) (λ first. many most (of_class goes_on) further_argument >>= λ xs. Grammar.gives (first.text ∷ xs)) old inner w e
    ∙ made_reads (many most (of_class goes_on) further_argument) (λ xs. w.text ∷ xs) inner rest more f

-- words between parentheses
pub arguments_read : (old inner deep rest : Tokens) (o s : Token LibraryClass) (words : Option (List (List ℕ))) → read (one_of is_open) old ≡ Ok (o, inner)
    → read (option (of_class is_word) some_arguments) inner ≡ Ok (words, deep) → read (one_of is_shut) deep ≡ Ok (s, rest)
    → read arguments old ≡ Ok (unwrap_or words [], rest)
arguments_read old inner deep rest o s words e f g =
    let shut : Option (List (List ℕ)) → LibraryGrammar (List (List ℕ)) = λ ws. one_of is_shut >>= λ _. Grammar.gives (unwrap_or ws []) in
    then_reads (one_of is_open) (λ _. option (of_class is_word) some_arguments >>= shut) old inner o e
    ∙ then_reads (option (of_class is_word) some_arguments) shut inner deep words f
    ∙ made_reads (one_of is_shut) (λ _. unwrap_or words []) deep rest s g

-- a phrase that may be left out
pub option_reads : {A : Type 0} (begins : LibraryClass → Bool) (phrase : LibraryGrammar A) (old rest : Tokens) (x : A) → passes (of_class begins) (next old) ≡ true
    → read phrase old ≡ Ok (x, rest) → read (option (of_class begins) phrase) old ≡ Ok (Some x, rest)
option_reads begins phrase old rest x next e =
    read-where_yes (of_class begins) (phrase >>= λ y. Grammar.gives (Some y)) (Grammar.gives None) old next ∙ made_reads phrase (λ y. Some y) old rest x e

pub option_left : {A : Type 0} (begins : LibraryClass → Bool) (phrase : LibraryGrammar A) (old : Tokens) → passes (of_class begins) (next old) ≡ false
    → read (option (of_class begins) phrase) old ≡ Ok (None, old)
option_left begins phrase old next =
    read-where_no (of_class begins) (phrase >>= λ y. Grammar.gives (Some y)) (Grammar.gives None) old next ∙ gives_reads None old

-- the words of a value
pub value_reads : (old inner deep behind rest : Tokens) (o last : Token LibraryClass) (words : List (Token LibraryClass)) (s : Option (Token LibraryClass))
    → read (one_of is_colon) old ≡ Ok (o, inner) → read (many most (of_class is_plain_word) (one_of is_plain_word)) inner ≡ Ok (words, deep)
    → read (one_of is_last_word) deep ≡ Ok (last, behind) → read semicolon behind ≡ Ok (s, rest)
    → read value old ≡ Ok (map (λ (t : Token LibraryClass). t.text) (words ++ last ∷ []), rest)
value_reads old inner deep behind rest o last words s e f g h =
    let given : List (Token LibraryClass) → Token LibraryClass → LibraryGrammar (List (List ℕ)) =
    λ ws l. semicolon >>= λ _. Grammar.gives (map (λ (t : Token LibraryClass). t.text) (ws ++ l ∷ [])) in
    let ending : List (Token LibraryClass) → LibraryGrammar (List (List ℕ)) = λ ws. one_of is_last_word >>= given ws in
    then_reads (one_of is_colon) (λ _. many most (of_class is_plain_word) (one_of is_plain_word) >>= ending) old inner o e
    ∙ then_reads (many most (of_class is_plain_word) (one_of is_plain_word)) ending inner deep words f
    ∙ then_reads (one_of is_last_word) (given words) deep behind last g
    ∙ made_reads semicolon (λ _. map (λ (t : Token LibraryClass). t.text) (words ++ last ∷ [])) behind rest s h

-- pins that have no names
pub pins_unnamed : (depth : ℕ) (names : List (List ℕ)) (old rest : Tokens) (s : Option (Token LibraryClass)) → names ≡ [] → read semicolon old ≡ Ok (s, rest)
    → read (pins_behind depth names) old ≡ Ok (None, rest)
pins_unnamed depth [] old rest s none e = nothing_reads old rest s e
pins_unnamed depth (n ∷ names) old rest s none e = cc

-- names of pins without a block
pub pins_without : (depth : ℕ) (names : List (List ℕ)) (old rest : Tokens) (s : Option (Token LibraryClass)) → names ≢ [] → passes (of_class is_left_brace) (next old) ≡ false
    → read semicolon old ≡ Ok (s, rest) → read (pins_behind depth names) old ≡ Ok (None, rest)
pins_without depth [] old rest s some brace e = absurd (some refl)
pins_without depth (n ∷ names) old rest s some brace e = no_group_reads (λ entries. Some (HasPins (n ∷ names) (present entries))) (entry depth) old rest s brace e

-- pins with their block
pub pins_read : (depth : ℕ) (names : List (List ℕ)) (old rest : Tokens) (xs : List (Option Attribute)) → names ≢ [] → passes (of_class is_left_brace) (next old) ≡ true
    → read (block (entry depth)) old ≡ Ok (xs, rest) → read (pins_behind depth names) old ≡ Ok (Some (HasPins names (present xs)), rest)
pins_read depth [] old rest xs some brace e = absurd (some refl)
pins_read depth (n ∷ names) old rest xs some brace e = group_reads (λ entries. Some (HasPins (n ∷ names) (present entries))) (entry depth) old rest xs brace e

-- behind `pin` in a cell
pub pins_in_cell : (depth : ℕ) (head : Token LibraryClass) (words names : List (List ℕ)) (old : Tokens) → same_name head.text (codes "pin") ≡ true
    → names ≡ flat_map names_in words → read (cell_behind depth head words) old ≡ read (pins_behind depth names) old
pins_in_cell depth head words names old pin is =
    ap (λ (b : Bool). read (elim b [ true ↦ pins_behind depth (flat_map names_in words) | false ↦ group_or_nothing (λ _. None) (entry depth) ]) old) pin
    ∙ ap (λ (l : List (List ℕ)). read (pins_behind depth l) old) (sym is)

forget_fault : {K A B C : Type 0} (r : Reading K A) (rest : List K) → and_then r (λ _ left. Ok (let none : Option B = None in none, left)) ≡ Err rest
    → and_then r (λ _ left. Ok (let none : Option C = None in none, left)) ≡ Err rest
forget_fault (Ok p) rest e = cc
forget_fault {K} {A} {B} {C} (Err left) rest e = let same : left ≡ rest = cc in ap (λ (l : List K). Err l) same

-- a group of which nothing is read, whatever it might be read as
pub passed_over : {A B C : Type 0} (entry : LibraryGrammar A) (old rest : Tokens) → read (group_or_nothing {A = A} {B = B} (λ _. None) entry) old ≡ Ok (None, rest)
    → read (group_or_nothing {A = A} {B = C} (λ _. None) entry) old ≡ Ok (None, rest)
unfolding read
passed_over {A} {B} {C} entry old rest e = by (passes (of_class is_left_brace) (next old)) refl
  where
    by : (b : Bool) → passes (of_class is_left_brace) (next old) ≡ b → read (group_or_nothing {A = A} {B = C} (λ _. None) entry) old ≡ Ok (None, rest)
    by true t =
        read-where_yes (of_class is_left_brace) (block entry >>= λ _. Grammar.gives None) nothing_read old t
        ∙ given_other (read (block entry) old) (let none : Option B = None in none) (let none : Option C = None in none) rest (sym (read-where_yes (of_class is_left_brace) (block entry >>= λ _. Grammar.gives None) nothing_read old t) ∙ e)
    by false t =
        read-where_no (of_class is_left_brace) (block entry >>= λ _. Grammar.gives None) nothing_read old t
        ∙ given_other (read semicolon old) (let none : Option B = None in none) (let none : Option C = None in none) rest (sym (read-where_no (of_class is_left_brace) (block entry >>= λ _. Grammar.gives None) nothing_read old t) ∙ e)

pub passed_fault : {A B C : Type 0} (entry : LibraryGrammar A) (old rest : Tokens) → read (group_or_nothing {A = A} {B = B} (λ _. None) entry) old ≡ Err rest
    → read (group_or_nothing {A = A} {B = C} (λ _. None) entry) old ≡ Err rest
unfolding read
passed_fault {A} {B} {C} entry old rest e = by (passes (of_class is_left_brace) (next old)) refl
  where
    by : (b : Bool) → passes (of_class is_left_brace) (next old) ≡ b → read (group_or_nothing {A = A} {B = C} (λ _. None) entry) old ≡ Err rest
    by true t =
        read-where_yes (of_class is_left_brace) (block entry >>= λ _. Grammar.gives None) nothing_read old t
        ∙ forget_fault {B = B} (read (block entry) old) rest (sym (read-where_yes (of_class is_left_brace) (block entry >>= λ _. Grammar.gives None) nothing_read old t) ∙ e)
    by false t =
        read-where_no (of_class is_left_brace) (block entry >>= λ _. Grammar.gives None) nothing_read old t
        ∙ forget_fault {B = B} (read semicolon old) rest (sym (read-where_no (of_class is_left_brace) (block entry >>= λ _. Grammar.gives None) nothing_read old t) ∙ e)

other_chosen : (depth : ℕ) (head : Token LibraryClass) (words : List (List ℕ)) (old : Tokens) → same_name head.text (codes "pin") ≡ false
    → read (cell_behind depth head words) old ≡ read (group_or_nothing (λ _. None) (entry depth)) old
other_chosen depth head words old other =
    ap (λ (b : Bool). read (elim b [ true ↦ pins_behind depth (flat_map names_in words) | false ↦ group_or_nothing (λ _. None) (entry depth) ]) old) other

-- behind another word in a cell
pub other_in_cell : (depth : ℕ) (head : Token LibraryClass) (words : List (List ℕ)) (old rest : Tokens) → same_name head.text (codes "pin") ≡ false
    → read (behind_entry (suc depth)) old ≡ Ok (None, rest) → read (cell_behind depth head words) old ≡ Ok (None, rest)
other_in_cell depth head words old rest other e = other_chosen depth head words old other ∙ passed_over {B = Attribute} (entry depth) old rest e

pub other_in_cell_fault : (depth : ℕ) (head : Token LibraryClass) (words : List (List ℕ)) (old rest : Tokens) → same_name head.text (codes "pin") ≡ false
    → read (behind_entry (suc depth)) old ≡ Err rest → read (cell_behind depth head words) old ≡ Err rest
other_in_cell_fault depth head words old rest other e = other_chosen depth head words old other ∙ passed_fault {B = Attribute} (entry depth) old rest e

pub then_fails : {K A B : Type 0} (first : Grammar K A) (second : A → Grammar K B) (old rest : List K) → read first old ≡ Err rest → read (first >>= second) old ≡ Err rest
unfolding read
then_fails first second old rest e = ap (λ r. and_then r (λ y left. read (second y) left)) e

-- behind `cell` in a library, by the one argument
pub cell_by_lone : (depth line : ℕ) (words : List (List ℕ)) (old : Tokens) → read (named_cell_behind depth line words) old ≡ read (cell_group depth line (lone words)) old
cell_by_lone depth line [] old = refl
cell_by_lone depth line (name ∷ []) old = refl
cell_by_lone depth line (name ∷ more ∷ words) old = refl

-- behind a word in a library
pub word_by_lone : (depth : ℕ) (head : Token LibraryClass) (words : List (List ℕ)) (name : Option (List ℕ)) (old : Tokens) → name ≡ lone words
    → read (library_behind depth head words) old ≡ read (behind_word depth head name) old
word_by_lone depth head words name old is = by (same_name head.text (codes "cell"))
  where
    by : (b : Bool) → read (elim b [ true ↦ named_cell_behind depth head.line words | false ↦ group_or_nothing {B = CellGroup} (λ _. None) (entry (suc depth)) ]) old
        ≡ read (elim b [ true ↦ cell_group depth head.line name | false ↦ group_or_nothing {B = CellGroup} (λ _. None) (entry (suc depth)) ]) old
    by true = cell_by_lone depth head.line words old ∙ ap (λ (n : Option (List ℕ)). read (cell_group depth head.line n) old) (sym is)
    by false = refl

pub cell_chosen : (depth : ℕ) (head : Token LibraryClass) (name : Option (List ℕ)) (old : Tokens) → same_name head.text (codes "cell") ≡ true
    → read (behind_word depth head name) old ≡ read (cell_group depth head.line name) old
cell_chosen depth head name old e =
    ap (λ (b : Bool). read (elim b [ true ↦ cell_group depth head.line name | false ↦ group_or_nothing (λ _. None) (entry (suc depth)) ]) old) e

pub word_passed : (depth : ℕ) (head : Token LibraryClass) (name : Option (List ℕ)) (old : Tokens) → same_name head.text (codes "cell") ≡ false
    → read (behind_word depth head name) old ≡ read (group_or_nothing (λ _. None) (entry (suc depth))) old
word_passed depth head name old e =
    ap (λ (b : Bool). read (elim b [ true ↦ cell_group depth head.line name | false ↦ group_or_nothing (λ _. None) (entry (suc depth)) ]) old) e

-- a library
pub library_reads : (old named inner rest : Tokens) (w : Token LibraryClass) (words : List (List ℕ)) (entries : List (Option CellGroup))
    → read library_word old ≡ Ok (w, named) → read arguments named ≡ Ok (words, inner) → read (block (library_entry 97)) inner ≡ Ok (entries, rest)
    → read library_group old ≡ Ok (present entries, rest)
unfolding library_group
library_reads old named inner rest w words entries e f g =
    let cells : LibraryGrammar (List CellGroup) = block (library_entry 97) >>= λ found. Grammar.gives (present found) in
    then_reads library_word (λ _. arguments >>= λ _. cells) old named w e
    ∙ then_reads arguments (λ _. cells) named inner words f
    ∙ made_reads (block (library_entry 97)) (λ found. present found) inner rest entries g

-- a group of a cell that has no name
pub group_unnamed : (depth line : ℕ) (o : Option (List ℕ)) (old rest : Tokens) (s : Option (Token LibraryClass)) → o ≡ None → read semicolon old ≡ Ok (s, rest)
    → read (cell_group depth line o) old ≡ Ok (None, rest)
group_unnamed depth line o old rest s is e = ap (λ (n : Option (List ℕ)). read (cell_group depth line n) old) is ∙ nothing_reads old rest s e

-- a cell's name without a block
pub group_without : (depth line : ℕ) (o : Option (List ℕ)) (name : List ℕ) (old rest : Tokens) (s : Option (Token LibraryClass)) → o ≡ Some name
    → passes (of_class is_left_brace) (next old) ≡ false → read semicolon old ≡ Ok (s, rest) → read (cell_group depth line o) old ≡ Ok (None, rest)
group_without depth line o name old rest s is brace e =
    ap (λ (n : Option (List ℕ)). read (cell_group depth line n) old) is
    ∙ no_group_reads (λ parts. Some (record { name = name; line = line; parts = present parts })) (cell_entry depth) old rest s brace e

-- a cell's name with its block
pub group_named : (depth line : ℕ) (o : Option (List ℕ)) (name : List ℕ) (old rest : Tokens) (xs : List (Option CellPart)) → o ≡ Some name
    → passes (of_class is_left_brace) (next old) ≡ true → read (block (cell_entry depth)) old ≡ Ok (xs, rest)
    → read (cell_group depth line o) old ≡ Ok (Some (record { name = name; line = line; parts = present xs }), rest)
group_named depth line o name old rest xs is brace e =
    ap (λ (n : Option (List ℕ)). read (cell_group depth line n) old) is
    ∙ group_reads (λ parts. Some (record { name = name; line = line; parts = present parts })) (cell_entry depth) old rest xs brace e
