-- Lines that are shown to be commands by a test. The test says yes to common lines alone.
use Rattle.std.proofs.Common.{◌≡◌, ℕ, Bool, true, false, not, ◌&&◌, ◌||◌, cond, List, [], ◌∷◌, ◌++◌, inl, inr, map, Option, Some, None, Result, Ok, Err, bytes_eq, find, refl, sym, ◌∙◌, ap, subst}
use Rattle.std.proofs.lemmas.Bool.{false≢true, true≢false}
use Rattle.std.specs.Cmp.Lexicographic.{bytes_decides}
use Rattle.std.specs.List.{list_any, AllZip}
use Rattle.list_defs.specs.Members.{IsIn}
use Rattle.pw_defs.specs.declared.faults.TclFault.{TclFault}
use Rattle.pw_defs.specs.declared.script.Command.{Command}
use Rattle.pw_defs.specs.declared.script.Line.{Line}
use Rattle.tcl_words.proofs.VariableNames.{and_first, and_second}
use Rattle.tcl_words.proofs.ListLaws.{parting, only_parts}
use Rattle.upf_commands.specs.CommandRows.{OptionRow, CommandRow}
use Rattle.upf_commands.specs.CommandWords.{Item, own, given, unknown, lacking, row_of}
use Rattle.upf_commands.specs.Commands.{IsCommand, passes, IsGood, good_own, good_option, may_own, may_give, RepeatsKey, HasKey, unknown_words, missing, command_of, passed_command}
use Rattle.upf_commands.specs.Forms.{WordForm}
use Rattle.upf_commands.specs.CommandTable.{commands}
use Rattle.upf_commands.proofs.CommandReading.{items_of, AreGood, reads_command}
use Rattle.upf_commands.proofs.FormReading.{is_form, form_so, is_word_of, word_so}

not_so : (t : Bool) → not t ≡ true → t ≡ false
not_so true h = absurd (false≢true h)
not_so false h = refl

-- the key that a value begins with
abbrev first_of : Result (List (List ℕ)) TclFault → Option (List ℕ)
first_of (Ok []) = None
first_of (Ok (key ∷ more)) = Some key
first_of (Err fault) = None

key_first : (text key : List ℕ) → HasKey text key → first_of (parting text) ≡ Some key
key_first text key h = ap first_of (only_parts text (key ∷ h.0) h.1)

abbrev same_key : Option (List ℕ) → Option (List ℕ) → Bool
same_key None other = false
same_key (Some key) None = false
same_key (Some key) (Some other) = bytes_eq key other

-- whether the item gives the option with the same key
abbrev gives_key : OptionRow → List ℕ → Item → Bool
gives_key o text (own other) = false
gives_key o text (given p earlier) = bytes_eq p.kept o.kept && same_key (first_of (parting earlier)) (first_of (parting text))
gives_key o text (unknown other) = false
gives_key o text (lacking p) = false

some_passes : (test : Item → Bool) (i : Item) (items : List Item) → IsIn i items → test i ≡ true → list_any test items ≡ true
some_passes test i [] there h = absurd there
some_passes test i (j ∷ items) (inl e) h = rw (subst (λ k. test k ≡ true) e h) refl
some_passes test i (j ∷ items) (inr later) h = by (test j) (some_passes test i items later h)
  where
    by : (t : Bool) → list_any test items ≡ true → (t || list_any test items) ≡ true
    by true g = refl
    by false g = g

not_repeated : (o : OptionRow) (text : List ℕ) (before : List Item) → list_any (gives_key o text) before ≡ false → ¬ RepeatsKey before o text
not_repeated o text before none h =
    let p = h.1.0 in
    let earlier = h.1.1 in
    let key = h.1.2 in
    let names : bytes_eq p.kept o.kept ≡ true = (bytes_decides p.kept o.kept).1 h.1.4 in
    let first : first_of (parting earlier) ≡ Some key = key_first earlier key h.1.5 in
    let second : first_of (parting text) ≡ Some key = key_first text key h.1.6 in
    let keys : bytes_eq key key ≡ true = (bytes_decides key key).1 refl in
    let gives : gives_key o text (given p earlier) ≡ true = rw (names, first, second) keys in
    true≢false (sym (some_passes (gives_key o text) (given p earlier) before h.1.3 gives) ∙ none)

abbrev own_fits : Option WordForm → List ℕ → Bool
own_fits None text = false
own_fits (Some form) text = is_word_of form text

-- whether an item is good behind those before it, as far as it is tested
abbrev is_good : CommandRow → List Item → Item → Bool
is_good row before (own text) = may_own row before && own_fits row.own text
is_good row before (given o text) = (may_give row before o && not (list_any (gives_key o text) before)) && is_form o.form text
is_good row before (unknown text) = false
is_good row before (lacking o) = false

good_so : (row : CommandRow) (before : List Item) (item : Item) → is_good row before item ≡ true → IsGood row before item
good_so row before (own text) h = by row.own refl (and_second (may_own row before) (own_fits row.own text) h)
  where
    by : (form : Option WordForm) → row.own ≡ form → own_fits form text ≡ true → IsGood row before (own text)
    by None e fits = absurd (false≢true fits)
    by (Some form) e fits = good_own text form (and_first (may_own row before) (own_fits row.own text) h) e (word_so form text fits)
good_so row before (given o text) h =
    let may = and_first (may_give row before o && not (list_any (gives_key o text) before)) (is_form o.form text) h in
    good_option o text (and_first (may_give row before o) (not (list_any (gives_key o text) before)) may)
    (not_repeated o text before (not_so _ (and_second (may_give row before o) (not (list_any (gives_key o text) before)) may)))
    (form_so o.form text (and_second (may_give row before o && not (list_any (gives_key o text) before)) (is_form o.form text) h))
good_so row before (unknown text) h = absurd (false≢true h)
good_so row before (lacking o) h = absurd (false≢true h)

abbrev are_good : CommandRow → List Item → List Item → Bool
are_good row before [] = true
are_good row before (item ∷ items) = is_good row before item && are_good row (before ++ item ∷ []) items

all_good : (row : CommandRow) (before items : List Item) → are_good row before items ≡ true → AreGood row before items
all_good row before [] h = tt
all_good row before (item ∷ items) h = (
  good_so row before item (and_first (is_good row before item) (are_good row (before ++ item ∷ []) items) h),
  all_good row (before ++ item ∷ []) items (and_second (is_good row before item) (are_good row (before ++ item ∷ []) items) h),
)

abbrev has_none : List (List ℕ) → Bool
has_none [] = true
has_none (word ∷ more) = false

none_so : (words : List (List ℕ)) → has_none words ≡ true → words ≡ []
none_so [] h = refl
none_so (word ∷ more) h = absurd (false≢true h)

-- whether the words behind the name of a command are well, as far as they are tested
abbrev are_well : CommandRow → List Item → Bool
are_well row items = (has_none (unknown_words items) && has_none (missing row items)) && are_good row [] items

abbrev read_row : Line → CommandRow → List (List ℕ) → Bool → Option Command
read_row line row words true = Some (passed_command line row)
read_row line row words false = cond (are_well row (items_of row words)) (Some (command_of line row (items_of row words))) None

abbrev read_named : Line → List (List ℕ) → Option CommandRow → Option Command
read_named line words None = None
read_named line words (Some row) = read_row line row words row.passed

abbrev read_words : Line → List (List ℕ) → Option Command
read_words line [] = None
read_words line (name ∷ words) = read_named line words (row_of name)

-- the command that a line is, as far as lines are tested
abbrev pub command_in : Line → Option Command
command_in line = read_words line line.words

found_passes : {X : Type 0} (test : X → Bool) (xs : List X) (x : X) → find test xs ≡ Some x → test x ≡ true
found_passes test [] x e = cc
found_passes {X} test (y ∷ ys) x e = by (test y) refl e (found_passes test ys x)
  where
    by : (t : Bool) → test y ≡ t → cond t (Some y) (find test ys) ≡ Some x → (find test ys ≡ Some x → test x ≡ true) → test x ≡ true
    by true f e later = let same : y ≡ x = cc in subst (λ z. test z ≡ true) same f
    by false f e later = later e

-- the row that a name finds has this name
row_name : (name : List ℕ) (row : CommandRow) → row_of name ≡ Some row → row.name ≡ name
unfolding row_of
row_name name row e = (bytes_decides row.name name).0 (found_passes (λ r. bytes_eq r.name name) commands row e)

pub command_so : (line : Line) (c : Command) → command_in line ≡ Some c → IsCommand line c
command_so line c e = by line.words refl e
  where
    by_row : (words : List (List ℕ)) (row : CommandRow) → line.words ≡ row.name ∷ words → row_of row.name ≡ Some row → (t : Bool) → row.passed ≡ t
        → read_row line row words t ≡ Some c → IsCommand line c
    by_row words row split is true passed e = let same : passed_command line row ≡ c = cc in subst (IsCommand line) same (passes row words split is passed)
    by_row words row split is false runs e = well (are_well row (items_of row words)) refl e
      where
        well : (t : Bool) → are_well row (items_of row words) ≡ t → cond t (Some (command_of line row (items_of row words))) None ≡ Some c → IsCommand line c
        well true h e =
            let names =
            and_first (has_none (unknown_words (items_of row words)) && has_none (missing row (items_of row words))) (are_good row [] (items_of row words)) h in
            let good =
            and_second (has_none (unknown_words (items_of row words)) && has_none (missing row (items_of row words))) (are_good row [] (items_of row words)) h in
            let same : command_of line row (items_of row words) ≡ c = cc in
            subst (IsCommand line) same
            (
            reads_command line row words split is runs
            (none_so (unknown_words (items_of row words)) (and_first (has_none (unknown_words (items_of row words))) (has_none (missing row (items_of row words))) names))
            (none_so (missing row (items_of row words)) (and_second (has_none (unknown_words (items_of row words))) (has_none (missing row (items_of row words))) names))
            (all_good row [] (items_of row words) good)
            )
        well false h e = cc

    by_name : (name : List ℕ) (words : List (List ℕ)) → line.words ≡ name ∷ words → (found : Option CommandRow) → row_of name ≡ found
        → read_named line words found ≡ Some c → IsCommand line c
    by_name name words split None is e = cc
    by_name name words split (Some row) is e =
        let same : row.name ≡ name = row_name name row is in
        by_row words row (subst (λ n. line.words ≡ n ∷ words) (sym same) split) (subst (λ n. row_of n ≡ Some row) (sym same) is) row.passed refl e

    by : (words : List (List ℕ)) → line.words ≡ words → read_words line words ≡ Some c → IsCommand line c
    by [] split e = cc
    by (name ∷ words) split e = by_name name words split (row_of name) refl e

-- the lines are these commands, one each
pub commands_so : (lines : List Line) (commands : List Command) → map command_in lines ≡ map Some commands → AllZip IsCommand lines commands
commands_so [] [] e = tt
commands_so [] (c ∷ more) e = cc
commands_so (line ∷ lines) [] e = cc
commands_so (line ∷ lines) (c ∷ more) e =
    let first : command_in line ≡ Some c = cc in
    let rest : map command_in lines ≡ map Some more = cc in
    (command_so line c first, commands_so lines more rest)
