-- A text is read as one list of cells, or has one fault, and never both.
use Rattle.std.proofs.Common.{◌≡◌, ℕ, Bool, true, false, not, List, ◌∷◌, Ok, Err, ◌⊎◌, inl, inr, refl, sym, ap, ◌∙◌, subst}
use Rattle.std.specs.Prelude.{map, IsTrue}
use Rattle.std.specs.List.{list_all}
use Rattle.list_defs.specs.Members.{IsIn}
use Rattle.list_defs.proofs.Members.{IsIn-append_right}
use Rattle.pw_defs.specs.declared.cells.Cells.{Cells}
use Rattle.pw_defs.specs.declared.faults.LibFault.{LibFault}
use Rattle.pw_defs.specs.declared.faults.LibFault.TheVariants.{L1, L2, L3, Memory}
use Rattle.text_defs.specs.Grammar.{read_whole, IsPhrase}
use Rattle.text_defs.specs.FirstFault.{IsFirstFault}
use Rattle.text_defs.specs.FirstPlace.{IsFirstPlace, HasNoPlace, firsts}
use Rattle.text_defs.specs.Tokens.{Token, line_left}
use Rattle.text_defs.proofs.FirstPlaces.{one_first_place, no_first_place}
use Rattle.text_defs.proofs.Whole.{one_value, value_or_fault, whole_value, whole_fault, no_fault, one_fault}
use Rattle.text_defs.proofs.ClearTokens.{class_of}
use Rattle.text_defs.proofs.Clear.{passed}
use Rattle.lib_cells.specs.LibraryWords.{LibraryClass, library_tokens}
use Rattle.lib_cells.specs.Groups.{CellGroup, library_group}
use Rattle.lib_cells.specs.CellsMeant.{cell_of, is_odd}
use Rattle.lib_cells.specs.Joins.{JoinsTo, HasJoinFault, IsGivenOtherwise, same_cell_name}
use Rattle.lib_cells.specs.LibraryFaults.{HasGroups, IsOddGroup, IsOtherGroup, ReadsAsCells, HasLibraryFault, at_group}
use Rattle.lib_cells.proofs.LibraryClear.{behind, words, clear-library}
use Rattle.lib_cells.proofs.LibraryEnds.{ends-library}

-- a text has its groups in one way
pub one_list_of_groups : (text : List ℕ) (a b : List CellGroup) → HasGroups text a → HasGroups text b → a ≡ b
one_list_of_groups text a b = one_value class_of library_group words behind clear-library (inr (inr (inr (inl refl)))) (library_tokens text) a b

-- each text has its groups, or a first fault
pub groups_or_fault : (text : List ℕ)
    → ((groups : List CellGroup) × HasGroups text groups) ⊎ ((left : List _) × IsFirstFault (IsPhrase library_group) (library_tokens text) left)
groups_or_fault text = value_or_fault class_of library_group words behind clear-library (inr (inr (inr (inl refl)))) ends-library (library_tokens text)

-- what is read of the tokens are the groups of the text
pub groups_read : (text : List ℕ) (groups : List CellGroup) → read_whole library_group (library_tokens text) ≡ Ok groups → HasGroups text groups
groups_read text groups = whole_value class_of library_group words behind clear-library (inr (inr (inr (inl refl)))) (library_tokens text) groups

-- where reading stops is the first fault
pub fault_read : (text : List ℕ) (left : List (Token LibraryClass)) → read_whole library_group (library_tokens text) ≡ Err left
    → IsFirstFault (IsPhrase library_group) (library_tokens text) left
fault_read text left = whole_fault class_of library_group words behind clear-library (inr (inr (inr (inl refl)))) ends-library (library_tokens text) left

-- where no group has an odd cell, none stands anywhere
pub none_odd : (groups : List CellGroup) → list_all (λ g. not (is_odd (cell_of g))) groups ≡ true → HasNoPlace IsOddGroup groups
none_odd groups all front y rest split odd =
    let there : IsIn y groups = subst (IsIn y) (sym split) (IsIn-append_right y front (y ∷ rest) (inl refl)) in
    let straight : not (is_odd (cell_of y)) ≡ true = passed (λ g. not (is_odd (cell_of g))) y groups there all in
    differ (is_odd (cell_of y)) straight odd
  where
    differ : (b : Bool) → not b ≡ true → IsTrue b → ⊥
    differ true h t = cc
    differ false h t = cc

-- at most one list of cells
pub one_reading : (text : List ℕ) (a b : Cells) → ReadsAsCells text a → ReadsAsCells text b → a ≡ b
one_reading text a b p q =
    let cells : List CellGroup → Cells = λ groups. record { cells = firsts same_cell_name (map cell_of groups) } in
    p.value ∙ ap cells (one_list_of_groups text p.groups q.groups p.reads q.reads) ∙ sym q.value

-- not both
pub no_reading_and_fault : (text : List ℕ) (cells : Cells) (f : LibFault) → ReadsAsCells text cells → ¬ HasLibraryFault text f
no_reading_and_fault text cells (L1 at) p h =
    no_fault (IsPhrase library_group) (library_tokens text) h.left (p.groups, p.reads) h.fault
no_reading_and_fault text cells (L2 at) p h =
    let same = one_list_of_groups text h.groups p.groups h.reads p.reads in
    no_first_place IsOtherGroup p.groups h.group p.alike (subst (λ g. IsFirstPlace IsOtherGroup g h.group) same h.first)
no_reading_and_fault text cells (L3 at) p h =
    let same = one_list_of_groups text h.groups p.groups h.reads p.reads in
    no_first_place IsOddGroup p.groups h.group p.straight (subst (λ g. IsFirstPlace IsOddGroup g h.group) same h.first)
no_reading_and_fault text cells Memory p h = h

-- at most one fault
pub one_library_fault : (text : List ℕ) (f g : LibFault) → HasLibraryFault text f → HasLibraryFault text g → f ≡ g
one_library_fault text (L1 a) (L1 b) p q =
    let same = one_fault (IsPhrase library_group) (library_tokens text) p.left q.left p.fault q.fault in
    ap L1 (p.place ∙ ap (λ left. record { line = line_left text left; name = _ }) same ∙ sym q.place)
one_library_fault text (L1 a) (L2 b) p q = absurd (no_fault (IsPhrase library_group) (library_tokens text) p.left (q.groups, q.reads) p.fault)
one_library_fault text (L1 a) (L3 b) p q = absurd (no_fault (IsPhrase library_group) (library_tokens text) p.left (q.groups, q.reads) p.fault)
one_library_fault text (L2 a) (L1 b) p q = absurd (no_fault (IsPhrase library_group) (library_tokens text) q.left (p.groups, p.reads) q.fault)
one_library_fault text (L3 a) (L1 b) p q = absurd (no_fault (IsPhrase library_group) (library_tokens text) q.left (p.groups, p.reads) q.fault)
one_library_fault text (L2 a) (L2 b) p q =
    let same = one_list_of_groups text p.groups q.groups p.reads q.reads in
    let group = one_first_place IsOtherGroup q.groups p.group q.group (subst (λ g. IsFirstPlace IsOtherGroup g p.group) same p.first) q.first in
    ap L2 (p.place ∙ ap at_group group ∙ sym q.place)
one_library_fault text (L3 a) (L3 b) p q =
    let same = one_list_of_groups text p.groups q.groups p.reads q.reads in
    let group = one_first_place IsOddGroup q.groups p.group q.group (subst (λ g. IsFirstPlace IsOddGroup g p.group) same p.first) q.first in
    ap L3 (p.place ∙ ap at_group group ∙ sym q.place)
one_library_fault text (L2 a) (L3 b) p q =
    let same = one_list_of_groups text q.groups p.groups q.reads p.reads in
    absurd (no_first_place IsOddGroup p.groups q.group p.straight (subst (λ g. IsFirstPlace IsOddGroup g q.group) same q.first))
one_library_fault text (L3 a) (L2 b) p q =
    let same = one_list_of_groups text p.groups q.groups p.reads q.reads in
    absurd (no_first_place IsOddGroup q.groups p.group q.straight (subst (λ g. IsFirstPlace IsOddGroup g p.group) same p.first))
one_library_fault text Memory g p q = absurd p
one_library_fault text f Memory p q = absurd q

-- two lists of cells have one joined list
pub one_join : (all more a b : Cells) → JoinsTo all more a → JoinsTo all more b → a ≡ b
one_join all more a b p q = p.value ∙ sym q.value

pub no_join_and_fault : (all more joined : Cells) (f : LibFault) → JoinsTo all more joined → ¬ HasJoinFault all more f
no_join_and_fault all more joined (L1 at) p h = h
no_join_and_fault all more joined (L2 at) p h = no_first_place IsGivenOtherwise _ h.0 p.alike h.1
no_join_and_fault all more joined (L3 at) p h = h
no_join_and_fault all more joined Memory p h = h

pub one_join_fault : (all more : Cells) (f g : LibFault) → HasJoinFault all more f → HasJoinFault all more g → f ≡ g
one_join_fault all more (L2 a) (L2 b) p q =
    ap L2 (p.2 ∙ ap (λ c. record { line = 0; name = c.name }) (one_first_place IsGivenOtherwise _ p.0 q.0 p.1 q.1) ∙ sym q.2)
one_join_fault all more (L1 a) g p q = absurd p
one_join_fault all more (L3 a) g p q = absurd p
one_join_fault all more Memory g p q = absurd p
one_join_fault all more f (L1 b) p q = absurd q
one_join_fault all more f (L3 b) p q = absurd q
one_join_fault all more f Memory p q = absurd q
