-- A line is one command or has one first fault, and never both.
use Rattle.std.proofs.Common.{◌≡◌, ℕ, true, List, [], ◌∷◌, ◌++◌, inl, inr, Some, None, codes, refl, sym, ◌∙◌, ap, subst}
use Rattle.std.proofs.lemmas.Bool.{false≢true, true≢false}
use Rattle.list_defs.specs.Members.{IsIn}
use Rattle.pw_defs.specs.declared.faults.CmdFault.{CmdFault}
use Rattle.pw_defs.specs.declared.faults.CmdFault.TheVariants.{U1, U2, U3, U4, T1, T2}
use Rattle.pw_defs.specs.declared.script.Command.{Command}
use Rattle.pw_defs.specs.declared.script.Line.{Line}
use Rattle.upf_commands.specs.CommandFaults.{shown, IsBad, surplus, own_form, again, key, form, IsFirstBad, HasUnclosed, HasAfterWord, named, HasCommandFault, no_command, no_option, absent, misformed, unclosed, after_word}
use Rattle.upf_commands.specs.CommandRows.{OptionRow, CommandRow}
use Rattle.upf_commands.specs.CommandWords.{Item, given, row_of, AreItems}
use Rattle.upf_commands.specs.Commands.{HasItems, IsWhole, IsGood, good_own, good_option, IsCommand, runs, passes, command_of, passed_command, unknown_words, missing}
use Rattle.upf_commands.specs.Forms.{HasForm, IsWordOf}
use Rattle.upf_commands.specs.Laws.{LinesReadInOneWay}
use Rattle.upf_commands.proofs.FormLaws.{form_or_other, form_or_fault}
use Rattle.upf_commands.proofs.ItemReading.{one_items}
use Rattle.upf_commands.proofs.Splits.{Compared, same, earlier, later, compared}

-- a line names one row of the table
one_row : (line : Line) (row other : CommandRow) (words more : List (List ℕ)) → line.words ≡ row.name ∷ words → line.words ≡ other.name ∷ more
    → row_of row.name ≡ Some row → row_of other.name ≡ Some other → row ≡ other
one_row line row other words more split split' is is' =
    let names : row.name ≡ other.name = cc in
    let rows : Some row ≡ Some other = sym is ∙ ap row_of names ∙ is' in
    cc

rest_same : (line : Line) (row other : CommandRow) (words more : List (List ℕ)) → line.words ≡ row.name ∷ words → line.words ≡ other.name ∷ more → words ≡ more
rest_same line row other words more split split' = cc

-- it has one list of items
record AreSame (row other : CommandRow) (items others : List Item) : Type 0 where
  rows : row ≡ other
  lists : items ≡ others

one_line : (line : Line) (row other : CommandRow) (items others : List Item) → HasItems line row items → HasItems line other others
    → AreSame row other items others
one_line line row other items others h k =
    let rows : row ≡ other = one_row line row other h.words k.words h.split k.split h.row_is k.row_is in
    let words : h.words ≡ k.words = rest_same line row other h.words k.words h.split k.split in
    record {
      rows = rows;
      lists = one_items other k.words items others
          (subst (λ ws. AreItems other ws items) words (subst (λ r. AreItems r h.words items) rows h.items_are)) k.items_are;
    }

pub one_command : (line : Line) (c d : Command) → IsCommand line c → IsCommand line d → c ≡ d
one_command line c d (runs row items h whole) (runs other others k more) =
    let e = one_line line row other items others h k in
    ap (λ r. command_of line r items) e.rows ∙ ap (command_of line other) e.lists
one_command line c d (runs row items h whole) (passes other words split is passed) =
    let rows : row ≡ other = one_row line row other h.words words h.split split h.row_is is in
    absurd (false≢true (sym h.runs ∙ ap (λ (r : CommandRow). r.passed) rows ∙ passed))
one_command line c d (passes row words split is passed) (runs other others k more) =
    let rows : row ≡ other = one_row line row other words k.words split k.split is k.row_is in
    absurd (false≢true (sym k.runs ∙ ap (λ (r : CommandRow). r.passed) (sym rows) ∙ passed))
one_command line c d (passes row words split is passed) (passes other more split' is' passed') =
    ap (passed_command line) (one_row line row other words more split split' is is')

-- a good item isn't bad
pub good_or_bad : (row : CommandRow) (before : List Item) (item : Item) → IsGood row before item → IsBad row before item → ⊥
good_or_bad row before item (good_own text f may is h) (surplus t not_may) = true≢false (sym may ∙ not_may)
good_or_bad row before item (good_own text f may is h) (own_form t g is' other) =
    let forms : Some f ≡ Some g = sym is ∙ is' in
    let one : f ≡ g = cc in
    other (subst (λ k. IsWordOf k text) one h)
good_or_bad row before item (good_option o text may once h) (again p t not_may) = true≢false (sym may ∙ not_may)
good_or_bad row before item (good_option o text may once h) (key p t twice) = once twice
good_or_bad row before item (good_option o text may once h) (form p t other) = form_or_other o.form text h other

split_of : (items : List Item) (item : Item) → IsIn item items → (before : List Item) × (after : List Item) × (items ≡ before ++ item ∷ after)
split_of [] item there = absurd there
split_of (i ∷ items) item (inl e) = ([], items, ap (λ j. j ∷ items) (sym e))
split_of (i ∷ items) item (inr there) = let found = split_of items item there in (i ∷ found.0, found.1, ap (λ is. i ∷ is) found.2)

good_form : (row : CommandRow) (before : List Item) (o : OptionRow) (text : List ℕ) → IsGood row before (given o text) → HasForm o.form text
good_form row before o text (good_option p t may once h) = h

-- in a command each option's value has its form
value_form : (row : CommandRow) (items : List Item) → IsWhole row items → (o : OptionRow) (text : List ℕ) → IsIn (given o text) items → HasForm o.form text
value_form row items whole o text there =
    let found = split_of items (given o text) there in
    good_form row found.0 o text (whole.good found.0 (given o text) found.1 found.2)

whole_or_fault : (line : Line) (row : CommandRow) (items : List Item) (f : CmdFault) → HasItems line row items → IsWhole row items → HasCommandFault line f → ⊥
whole_or_fault line row items f h whole (no_command name words split none) =
    let names : row.name ≡ name = (let split' : line.words ≡ row.name ∷ h.words = h.split in cc) in
    let found : Some row ≡ None = sym h.row_is ∙ ap row_of names ∙ none in
    cc
whole_or_fault line row items f h whole (no_option other others name more k unknowns) =
    let e = one_line line row other items others h k in
    let none : [] ≡ name ∷ more = sym whole.known ∙ ap unknown_words e.lists ∙ unknowns in
    cc
whole_or_fault line row items f h whole (absent other others name more k unknowns lack) =
    let e = one_line line row other items others h k in
    let none : [] ≡ name ∷ more = sym whole.there ∙ ap (λ r. missing r items) e.rows ∙ ap (missing other) e.lists ∙ lack in
    cc
whole_or_fault line row items f h whole (misformed other others item k unknowns lack bad) =
    let e = one_line line row other items others h k in
    let split : items ≡ bad.before ++ item ∷ bad.after = e.lists ∙ bad.split in
    good_or_bad other bad.before item (subst (λ r. IsGood r bad.before item) e.rows (whole.good bad.before item bad.after split)) bad.bad
whole_or_fault line row items f h whole (unclosed other others k unknowns lack none open_list) =
    let e = one_line line row other items others h k in
    form_or_fault open_list.0.form open_list.1 _
    (value_form row items whole open_list.0 open_list.1 (subst (IsIn (given open_list.0 open_list.1)) (sym e.lists) open_list.3)) open_list.4
whole_or_fault line row items f h whole (after_word other others k unknowns lack none closed more) =
    let e = one_line line row other items others h k in
    form_or_fault more.0.form more.1 _ (value_form row items whole more.0 more.1 (subst (IsIn (given more.0 more.1)) (sym e.lists) more.3)) more.4

-- a command that is passed over has no items
passed_or_items : (line : Line) (row : CommandRow) (words : List (List ℕ)) → line.words ≡ row.name ∷ words → row_of row.name ≡ Some row → row.passed ≡ true
    → (other : CommandRow) (items : List Item) → HasItems line other items → ⊥
passed_or_items line row words split is passed other items h =
    let rows : row ≡ other = one_row line row other words h.words split h.split is h.row_is in
    false≢true (sym h.runs ∙ ap (λ (r : CommandRow). r.passed) (sym rows) ∙ passed)

passed_or_fault : (line : Line) (row : CommandRow) (words : List (List ℕ)) (f : CmdFault) → line.words ≡ row.name ∷ words → row_of row.name ≡ Some row
    → row.passed ≡ true
    → HasCommandFault line f → ⊥
passed_or_fault line row words f split is passed (no_command name more split' none) =
    let names : row.name ≡ name = cc in
    let found : Some row ≡ None = sym is ∙ ap row_of names ∙ none in
    cc
passed_or_fault line row words f split is passed (no_option other others name more k unknowns) = passed_or_items line row words split is passed other others k
passed_or_fault line row words f split is passed (absent other others name more k unknowns lack) = passed_or_items line row words split is passed other others k
passed_or_fault line row words f split is passed (misformed other others item k unknowns lack bad) =
    passed_or_items line row words split is passed other others k
passed_or_fault line row words f split is passed (unclosed other others k unknowns lack none open_list) =
    passed_or_items line row words split is passed other others k
passed_or_fault line row words f split is passed (after_word other others k unknowns lack none closed more) =
    passed_or_items line row words split is passed other others k

pub command_or_fault : (line : Line) (c : Command) (f : CmdFault) → IsCommand line c → HasCommandFault line f → ⊥
command_or_fault line c f (runs row items h whole) fault = whole_or_fault line row items f h whole fault
command_or_fault line c f (passes row words split is passed) fault = passed_or_fault line row words f split is passed fault

-- the first bad item is one
one_bad : (row : CommandRow) (items : List Item) (item other : Item) → IsFirstBad row items item → IsFirstBad row items other → item ≡ other
one_bad row items item other h k = by (compared h.before item h.after k.before other k.after (sym h.split ∙ k.split))
  where
    by : Compared h.before item k.before other → item ≡ other
    by (same e f) = f
    by (earlier more e) = absurd (k.first h.before item more e h.bad)
    by (later more e) = absurd (h.first k.before other more e k.bad)

-- the fault that the items have where nothing is unknown or missing
data ItemFault (line : Line) (row : CommandRow) (items : List Item) : CmdFault → Type 0 where
  bad_item : (item : Item) → IsFirstBad row items item → ItemFault line row items (U4 (named line (shown row item)))
  open_item : ((item : Item) → ¬ IsFirstBad row items item) → HasUnclosed items → ItemFault line row items (T1 (named line (codes "-")))
  after_item : ((item : Item) → ¬ IsFirstBad row items item) → ¬ HasUnclosed items → HasAfterWord items → ItemFault line row items (T2 (named line (codes "-")))

one_item_fault : (line : Line) (row : CommandRow) (items : List Item) (f g : CmdFault) → ItemFault line row items f → ItemFault line row items g → f ≡ g
one_item_fault line row items f g (bad_item i h) (bad_item j k) = ap (λ item. U4 (named line (shown row item))) (one_bad row items i j h k)
one_item_fault line row items f g (bad_item i h) (open_item none k) = absurd (none i h)
one_item_fault line row items f g (bad_item i h) (after_item none closed k) = absurd (none i h)
one_item_fault line row items f g (open_item none h) (bad_item j k) = absurd (none j k)
one_item_fault line row items f g (open_item none h) (open_item none' k) = refl
one_item_fault line row items f g (open_item none h) (after_item none' closed k) = absurd (closed h)
one_item_fault line row items f g (after_item none closed h) (bad_item j k) = absurd (none j k)
one_item_fault line row items f g (after_item none closed h) (open_item none' k) = absurd (closed k)
one_item_fault line row items f g (after_item none closed h) (after_item none' closed' k) = refl

-- the fault of the line by what is unknown and what is missing
abbrev FaultBy : Line → CommandRow → List Item → List (List ℕ) → List (List ℕ) → CmdFault → Type 0
FaultBy line row items (name ∷ more) lacks f = f ≡ U2 (named line name)
FaultBy line row items [] (name ∷ more) f = f ≡ U3 (named line name)
FaultBy line row items [] [] f = ItemFault line row items f

one_by : (line : Line) (row : CommandRow) (items : List Item) (unknowns lacks : List (List ℕ)) (f g : CmdFault)
    → FaultBy line row items unknowns lacks f → FaultBy line row items unknowns lacks g → f ≡ g
one_by line row items (name ∷ more) lacks f g h k = h ∙ sym k
one_by line row items [] (name ∷ more) f g h k = h ∙ sym k
one_by line row items [] [] f g h k = one_item_fault line row items f g h k

-- the fault of a line whose items are these
abbrev FaultHere : Line → CommandRow → List Item → CmdFault → Type 0
FaultHere line row items f = FaultBy line row items (unknown_words items) (missing row items) f

moved : (line : Line) (row other : CommandRow) (items others : List Item) (f : CmdFault) → HasItems line row items → HasItems line other others
    → FaultHere line other others f → FaultHere line row items f
moved line row other items others f h k fault =
    let e = one_line line row other items others h k in
    subst (λ r. FaultHere line r items f) (sym e.rows) (subst (λ is. FaultHere line other is f) (sym e.lists) fault)

fault_here : (line : Line) (row : CommandRow) (items : List Item) (f : CmdFault) → HasItems line row items → HasCommandFault line f → FaultHere line row items f
fault_here line row items f h (no_command name words split none) =
    let names : row.name ≡ name = (let split' : line.words ≡ row.name ∷ h.words = h.split in cc) in
    let found : Some row ≡ None = sym h.row_is ∙ ap row_of names ∙ none in
    absurd (cc)
fault_here line row items f h (no_option other others name more k unknowns) =
    moved line row other items others _ h k (rw (unknowns) refl)
fault_here line row items f h (absent other others name more k unknowns lack) =
    moved line row other items others _ h k (rw (unknowns, lack) refl)
fault_here line row items f h (misformed other others item k unknowns lack bad) =
    moved line row other items others _ h k (rw (unknowns, lack) (bad_item item bad))
fault_here line row items f h (unclosed other others k unknowns lack none open_list) =
    moved line row other items others _ h k (rw (unknowns, lack) (open_item none open_list))
fault_here line row items f h (after_word other others k unknowns lack none closed more) =
    moved line row other items others _ h k (rw (unknowns, lack) (after_item none closed more))

-- two faults of a line whose command is there
one_here : (line : Line) (row : CommandRow) (items : List Item) (f g : CmdFault) → HasItems line row items → HasCommandFault line f → HasCommandFault line g
    → f ≡ g
one_here line row items f g h fault other =
    one_by line row items (unknown_words items) (missing row items) f g (fault_here line row items f h fault) (fault_here line row items g h other)

-- a line of an unknown command has no items
unnamed : (line : Line) (name : List ℕ) (words : List (List ℕ)) → line.words ≡ name ∷ words → row_of name ≡ None → (row : CommandRow) (items : List Item)
    → HasItems line row items → ⊥
unnamed line name words split none row items k =
    let names : row.name ≡ name = (let split' : line.words ≡ row.name ∷ k.words = k.split in cc) in
    let found : Some row ≡ None = sym k.row_is ∙ ap row_of names ∙ none in
    cc

one_unknown : (line : Line) (name : List ℕ) (words : List (List ℕ)) → line.words ≡ name ∷ words → row_of name ≡ None → (g : CmdFault)
    → HasCommandFault line g → U1 (named line name) ≡ g
one_unknown line name words split none g (no_command other more split' none') = let names : name ≡ other = cc in ap (λ n. U1 (named line n)) names
one_unknown line name words split none g (no_option row items other more k unknowns) = absurd (unnamed line name words split none row items k)
one_unknown line name words split none g (absent row items other more k unknowns lack) = absurd (unnamed line name words split none row items k)
one_unknown line name words split none g (misformed row items item k unknowns lack bad) = absurd (unnamed line name words split none row items k)
one_unknown line name words split none g (unclosed row items k unknowns lack none' open_list) = absurd (unnamed line name words split none row items k)
one_unknown line name words split none g (after_word row items k unknowns lack none' closed more) = absurd (unnamed line name words split none row items k)

pub one_command_fault : (line : Line) (f g : CmdFault) → HasCommandFault line f → HasCommandFault line g → f ≡ g
one_command_fault line f g (no_command name words split none) other = one_unknown line name words split none g other
one_command_fault line f g (no_option row items name more k unknowns) other = one_here line row items _ g k (no_option row items name more k unknowns) other
one_command_fault line f g (absent row items name more k unknowns lack) other = one_here line row items _ g k (absent row items name more k unknowns lack) other
one_command_fault line f g (misformed row items item k unknowns lack bad) other =
    one_here line row items _ g k (misformed row items item k unknowns lack bad) other
one_command_fault line f g (unclosed row items k unknowns lack none open_list) other =
    one_here line row items _ g k (unclosed row items k unknowns lack none open_list) other
one_command_fault line f g (after_word row items k unknowns lack none closed more) other =
    one_here line row items _ g k (after_word row items k unknowns lack none closed more) other

pub lines_read_in_one_way : LinesReadInOneWay
lines_read_in_one_way = record { one_command = one_command; one_fault = one_command_fault; not_both = command_or_fault }
