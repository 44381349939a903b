-- What small libraries are read as, and their faults.
use Rattle.std.proofs.Common.{◌≡◌, ◌≢◌, ℕ, ◌<◌, List, [], ◌∷◌, ◌++◌, codes, length, refl, ap, ◌∙◌, inl, inr, arith}
use Rattle.std.specs.Prelude.{map}
use Rattle.std.proofs.lemmas.Bool.{true≢false}
use Rattle.list_defs.specs.Members.{same_name}
use Rattle.pw_defs.specs.declared.cells.Pin.{Pin}
use Rattle.pw_defs.specs.declared.cells.Cell.{Cell}
use Rattle.pw_defs.specs.declared.cells.Cells.{Cells}
use Rattle.pw_defs.specs.declared.faults.LibFault.TheVariants.{L1, L2, L3}
use Rattle.text_defs.specs.Lines.{line_at}
use Rattle.text_defs.specs.Pieces.{pieces_from, closed_by}
use Rattle.text_defs.specs.Grammar.{read}
use Rattle.text_defs.specs.Phrases.{many}
use Rattle.text_defs.specs.FirstPlace.{HasNoPlace, firsts}
use Rattle.text_defs.proofs.FirstPlaces.{first_behind}
use Rattle.lib_cells.specs.LibraryWords.{library_piece, word_size, quoted_size, tokens_from}
use Rattle.lib_cells.specs.Groups.{Attribute, Says, HasPins, CellGroup, library_group, entry, from_ink}
use Rattle.lib_cells.specs.CellsMeant.{cell_of, is_odd}
use Rattle.lib_cells.specs.Joins.{JoinsTo, HasJoinFault, IsGivenOtherwise}
use Rattle.lib_cells.specs.LibraryFaults.{IsOddGroup, IsOtherGroup, ReadsAsCells, HasLibraryFault}
use Rattle.lib_cells.specs.Worked.{alike_text, otherwise_text, two_data_pins_text, two_names_text, cut_text, lone_colon_text, unclosed_text, enabled_text, one_pin, other_pin, enabled}
use Rattle.lib_cells.proofs.LibraryLaws.{groups_read, fault_read, none_odd}
use Rattle.lib_cells.proofs.Apart.{none_otherwise, none_other_group}

-- all that reading a library computes with
unfoldable pub computing : Unit {0}
unfolding line_at pieces_from closed_by library_piece word_size quoted_size tokens_from library_group entry from_ink read many cell_of is_odd firsts
computing = tt

abbrev given : List ℕ → List (List ℕ) → Attribute
given name value = record { name = name; value = value }

-- a library is cut short at its end, on the last line
pub cut_library_ends_too_soon : HasLibraryFault cut_text (L1 (record { line = 3; name = codes "-" }))
unfolding computing
cut_library_ends_too_soon = record { left = []; fault = fault_read cut_text [] refl; place = refl }

-- nothing closes the quotes
pub unclosed_quotes_end_too_soon : HasLibraryFault unclosed_text (L1 (record { line = 4; name = codes "-" }))
unfolding computing
unclosed_quotes_end_too_soon = record { left = _; fault = fault_read unclosed_text _ refl; place = refl }

-- a value begins on the line of its colon
pub a_value_is_on_its_line : HasLibraryFault lone_colon_text (L1 (record { line = 2; name = codes "-" }))
unfolding computing
a_value_is_on_its_line = record { left = _; fault = fault_read lone_colon_text _ refl; place = refl }

-- two names of a cell may be an attribute, but open no group
pub two_names_open_no_cell : HasLibraryFault two_names_text (L1 (record { line = 3; name = codes "-" }))
unfolding computing
two_names_open_no_cell = record { left = _; fault = fault_read two_names_text _ refl; place = refl }

-- the group of an isolation cell with two data pins
abbrev odd_group : CellGroup
odd_group =
    record {
      name = codes "I";
      line = 2;
      parts =
          Says (given (codes "is_isolation_cell") (codes "true" ∷ []))
          ∷ HasPins (codes "D" ∷ codes "E" ∷ []) (given (codes "direction") (codes "input" ∷ [])
          ∷ given (codes "isolation_cell_data_pin") (codes "true" ∷ []) ∷ [])
          ∷ HasPins (codes "Y" ∷ []) (given (codes "direction") (codes "output" ∷ []) ∷ []) ∷ [];
    }

pub two_data_pins_are_odd : HasLibraryFault two_data_pins_text (L3 (record { line = 2; name = codes "I" }))
unfolding computing
two_data_pins_are_odd =
    record {
      groups = odd_group ∷ [];
      reads = groups_read two_data_pins_text (odd_group ∷ []) refl;
      group = odd_group;
      first = first_behind IsOddGroup [] odd_group [] refl (λ front y rest split less. absurd (let none : ¬ (length front < 0) = omega arith in none less));
      place = refl;
    }

abbrev input : Attribute
input = given (codes "direction") (codes "input" ∷ [])

abbrev flag : List ℕ → Attribute
flag name = given name (codes "true" ∷ [])

-- the group of a cell that has one input pin
abbrev one_pin_group : ℕ → List ℕ → CellGroup
one_pin_group line pin = record { name = codes "B"; line = line; parts = HasPins (pin ∷ []) (input ∷ []) ∷ [] }

-- Pins in one quoted text are several, a later group of a pin adds to it, the last direction counts, and a shifter with an
-- enable pin is an isolation cell too. A pin of another direction is none.
pub enabled_shifter_is_read : ReadsAsCells enabled_text (record { cells = enabled ∷ [] })
unfolding computing
enabled_shifter_is_read =
    let group : CellGroup =
    record {
      name = codes "S";
      line = 2;
      parts =
          Says (flag (codes "is_level_shifter"))
          ∷ HasPins (codes "A" ∷ codes "E" ∷ []) (input ∷ [])
          ∷ HasPins (codes "A" ∷ []) (flag (codes "level_shifter_data_pin") ∷ [])
          ∷ HasPins (codes "E" ∷ []) (flag (codes "level_shifter_enable_pin") ∷ [])
          ∷ HasPins (codes "Y" ∷ []) (input ∷ given (codes "direction") (codes "output" ∷ []) ∷ [])
          ∷ HasPins (codes "V" ∷ []) (given (codes "direction") (codes "inout" ∷ []) ∷ []) ∷ [];
    } in
    record {
      groups = group ∷ [];
      reads = groups_read enabled_text (group ∷ []) refl;
      straight = none_odd (group ∷ []) refl;
      alike = none_other_group (group ∷ []) (none_otherwise (enabled ∷ []) refl);
      value = refl;
    }

-- nothing stands behind the second of two
second_of_two : {X : Type 0} (a b : X) (front : List X) (y : X) (rest : List X) → a ∷ b ∷ [] ≡ front ++ y ∷ rest → length front < 1 → (front ≡ []) × (y ≡ a)
second_of_two a b [] y rest split less = (refl, (let head : y ≡ a = cc in head))
second_of_two a b (z ∷ front) y rest split less = absurd (omega arith)

-- a cell that stands twice is not given otherwise
same_cell_is_alike : HasNoPlace IsGivenOtherwise (one_pin ∷ one_pin ∷ [])
same_cell_is_alike [] y rest split g = g.1
same_cell_is_alike (z ∷ []) y rest split g = elim g.1 [ inl e ↦ g.3 (let same : z ≡ y = cc in e ∙ same) | inr i ↦ i ]
same_cell_is_alike (z ∷ w ∷ []) y rest split g = cc
same_cell_is_alike (z ∷ w ∷ v ∷ front) y rest split g = cc

-- a cell that is given twice alike stands once
pub alike_cells_stand_once : ReadsAsCells alike_text (record { cells = one_pin ∷ [] })
unfolding computing
alike_cells_stand_once =
    record {
      groups = one_pin_group 2 (codes "A") ∷ one_pin_group 3 (codes "A") ∷ [];
      reads = groups_read alike_text (one_pin_group 2 (codes "A") ∷ one_pin_group 3 (codes "A") ∷ []) refl;
      straight = none_odd (one_pin_group 2 (codes "A") ∷ one_pin_group 3 (codes "A") ∷ []) refl;
      alike = none_other_group (one_pin_group 2 (codes "A") ∷ one_pin_group 3 (codes "A") ∷ []) same_cell_is_alike;
      value = refl;
    }

-- the name of a cell's first pin
abbrev first_name : Cell → List ℕ
first_name cell = join (map (λ (p : Pin). p.name) cell.pins)
  where
    join : List (List ℕ) → List ℕ
    join [] = []
    join (name ∷ _) = name

pins_differ : one_pin ≢ other_pin
pins_differ e = true≢false (ap (λ cell. same_name (codes "A") (first_name cell)) e)

-- a cell that is given with another pin goes wrong where it is given again
pub another_pin_is_refused : HasLibraryFault otherwise_text (L2 (record { line = 3; name = codes "B" }))
unfolding computing
another_pin_is_refused =
    record {
      groups = one_pin_group 2 (codes "A") ∷ one_pin_group 3 (codes "C") ∷ [];
      reads = groups_read otherwise_text (one_pin_group 2 (codes "A") ∷ one_pin_group 3 (codes "C") ∷ []) refl;
      straight = none_odd (one_pin_group 2 (codes "A") ∷ one_pin_group 3 (codes "C") ∷ []) refl;
      group = one_pin_group 3 (codes "C");
      first =
          first_behind IsOtherGroup (one_pin_group 2 (codes "A") ∷ []) (one_pin_group 3 (codes "C")) []
          (one_pin, inl refl, refl, pins_differ)
          (λ front y rest split less g. first_has_none front y g (second_of_two _ _ front y rest split less).0);
      place = refl;
    }
  where
    first_has_none : (front : List CellGroup) (y : CellGroup) → IsOtherGroup front y [] → front ≡ [] → ⊥
    first_has_none [] y g none = g.1
    first_has_none (z ∷ front) y g none = cc

abbrev enabled_alone : Cells
enabled_alone = record { cells = enabled ∷ [] }

-- cells of other names join, in order
pub other_cells_join : JoinsTo enabled_alone (record { cells = one_pin ∷ [] }) (record { cells = enabled ∷ one_pin ∷ [] })
unfolding computing
other_cells_join = record { alike = none_otherwise (enabled ∷ one_pin ∷ []) refl; value = refl }

-- a cell of both lists that is alike stands once
pub a_cell_joins_itself : JoinsTo (record { cells = one_pin ∷ [] }) (record { cells = one_pin ∷ [] }) (record { cells = one_pin ∷ [] })
unfolding computing
a_cell_joins_itself = record { alike = same_cell_is_alike; value = refl }

-- a cell of both lists with another pin is refused at line 0
pub another_cell_does_not_join : HasJoinFault (record { cells = one_pin ∷ [] }) (record { cells = other_pin ∷ [] }) (L2 (record {
  line = 0;
  name = codes "B";
}))
another_cell_does_not_join = (
  other_pin,
  first_behind IsGivenOtherwise (one_pin ∷ []) other_pin [] (one_pin, inl refl, refl, pins_differ)
      (λ front y rest split less g. first_cell_has_none front y g (second_of_two one_pin other_pin front y rest split less).0),
  refl,
)
  where
    first_cell_has_none : (front : List Cell) (y : Cell) → IsGivenOtherwise front y [] → front ≡ [] → ⊥
    first_cell_has_none [] y g none = g.1
    first_cell_has_none (z ∷ front) y g none = cc
