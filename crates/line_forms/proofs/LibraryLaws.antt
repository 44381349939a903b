-- A library that is read is spelled so, and a library that is spelled so is read.
use Rattle.std.proofs.Common.{◌≡◌, ℕ, ◌<◌, Bool, true, false, not, eqb, List, [], ◌∷◌, ◌++◌, length, Option, Some, None, refl, sym, subst, arith}
use Rattle.std.specs.Prelude.{codes}
use Rattle.std.specs.List.{flat_map}
use Rattle.pw_defs.specs.declared.cells.Dir.{Dir}
use Rattle.line_forms.specs.LibraryForm.{role_text, pin_text, kind_text, cell_text, library_text, IsPin, IsCell, IsLibrary}
use Rattle.line_forms.specs.Reading.{behind}
use Rattle.line_forms.specs.LibraryReading.{role_at, pin_of, pin_at, kind_at, is_open, cell_of, cell_at, library_of, library_at}
use Rattle.line_forms.specs.declared.library_lines.Role.{Role}
use Rattle.line_forms.specs.declared.library_lines.Role.TheVariants.{IsolationData, IsolationEnable, ShifterData, ShifterEnable}
use Rattle.line_forms.specs.declared.library_lines.CellKind.{CellKind}
use Rattle.line_forms.specs.declared.library_lines.CellKind.TheVariants.{Plain, Isolation, Shifter}
use Rattle.line_forms.specs.declared.library_lines.PinLine.{PinLine}
use Rattle.line_forms.specs.declared.library_lines.CellLines.{CellLines}
use Rattle.line_forms.specs.declared.library_lines.Library.{Library}
use Rattle.line_forms.proofs.Laws.{Finds, Again, Always, Anything, nothing_finds, word_finds, word_again, before_finds, before_again, both_finds, both_again, map_finds, map_again, choice_finds, InARow, many_finds, many_again}
use Rattle.line_forms.proofs.NameLaws.{not_true, name_finds, name_again, dir_finds, dir_again}

-- a role stands before a brace
abbrev Brace : List ℕ → Type 0
Brace rest = (more : List ℕ) × (rest ≡ 125 ∷ more)

pub role_finds : Finds role_at role_text Always
unfolding role_at
role_finds =
    choice_finds _ (Some IsolationData) refl tt
    (choice_finds _ (Some IsolationEnable) refl tt (choice_finds _ (Some ShifterData) refl tt (choice_finds _ (Some ShifterEnable) refl tt (nothing_finds role_text Always None refl tt))))

role_before : (role : Option Role) (more : List ℕ) → role_at (role_text role ++ 125 ∷ more) ≡ Some (role, 125 ∷ more)
unfolding role_at behind
role_before None more = refl
role_before (Some IsolationData) more = refl
role_before (Some IsolationEnable) more = refl
role_before (Some ShifterData) more = refl
role_before (Some ShifterEnable) more = refl

pub role_again : Again role_at role_text Always Brace
role_again = record { again = λ role rest is brace. subst (λ (t : List ℕ). role_at (role_text role ++ t) ≡ Some (role, t)) (sym brace.1) (role_before role brace.0) }

pub pin_finds : Finds pin_at pin_text IsPin
unfolding pin_at
pin_finds =
    map_finds pin_of pin_text IsPin (word_finds (codes "pin(") (both_finds name_finds (word_finds (codes ") { direction : ") (both_finds dir_finds (word_finds (codes "; ") (before_finds (codes "}\n") role_finds))))))
    (λ p. refl) (λ p is. is.0)

abbrev pin_parts : PinLine → List ℕ × (Dir × Option Role)
pin_parts pin = (pin.name, (pin.dir, pin.role))

pub pin_again : Again pin_at pin_text IsPin Anything
unfolding pin_at
pin_again =
    map_again pin_of pin_parts pin_text IsPin
    (word_again (codes "pin(")
    (both_again name_again
    (word_again (codes ") { direction : ")
    (both_again dir_again (word_again (codes "; ") (before_again (codes "}\n") role_again (λ rest. (10 ∷ rest, refl)))) (λ role rest is follows. tt)))
    (λ p rest is follows. refl)))
    (λ pin. refl) (λ pin is. (is, (tt, tt))) (λ pin. refl)

pub pin_size : (pin : PinLine) → IsPin pin → 0 < length (pin_text pin)
pin_size pin is = omega arith

-- ---- cells

abbrev no_flag : List ℕ → Bool
no_flag [] = true
no_flag (b ∷ bs) = not (eqb b 105)

-- behind the first line of a cell stands no flag
abbrev NoFlag : List ℕ → Type 0
NoFlag rest = no_flag rest ≡ true

pub kind_finds : Finds kind_at kind_text Always
unfolding kind_at
kind_finds = choice_finds _ Isolation refl tt (choice_finds _ Shifter refl tt (nothing_finds kind_text Always Plain refl tt))

plain_before : (rest : List ℕ) → NoFlag rest → kind_at rest ≡ Some (Plain, rest)
unfolding kind_at behind
plain_before [] free = refl
plain_before (b ∷ rest) free = rw (not_true (eqb b 105) free) refl

kind_before : (kind : CellKind) (rest : List ℕ) → NoFlag rest → kind_at (kind_text kind ++ rest) ≡ Some (kind, rest)
unfolding kind_at behind
kind_before Plain rest free = plain_before rest free
kind_before Isolation rest free = refl
kind_before Shifter rest free = refl

pub kind_again : Again kind_at kind_text Always NoFlag
kind_again = record { again = λ kind rest is free. kind_before kind rest free }

pub cell_finds : Finds cell_at cell_text IsCell
unfolding cell_at
cell_finds =
    map_finds cell_of cell_text IsCell
    (both_finds (word_finds (codes "cell(") (before_finds (codes ") {\n") name_finds)) (both_finds kind_finds (before_finds (codes "}\n") (many_finds pin_at pin_text IsPin is_open pin_finds)))) (λ p. refl)
    (λ p is. record { name = is.0; pins = is.1.1 })

pins_in_a_row : InARow pin_at pin_text IsPin is_open Anything
unfolding behind
pins_in_a_row = record { size = pin_size; goes = λ pin rest is. refl; next = λ pin rest is. tt }

no_flag_before : (pins : List PinLine) (rest : List ℕ) → NoFlag ((flat_map pin_text pins ++ codes "}\n") ++ rest)
no_flag_before [] rest = refl
no_flag_before (pin ∷ pins) rest = refl

closes : (rest : List ℕ) → is_open (codes "}\n" ++ rest) ≡ false
unfolding behind
closes rest = refl

abbrev cell_parts : CellLines → List ℕ × (CellKind × List PinLine)
cell_parts cell = (cell.name, (cell.kind, cell.pins))

pub cell_again : Again cell_at cell_text IsCell Anything
unfolding cell_at
cell_again =
    map_again cell_of cell_parts cell_text IsCell
    (both_again (word_again (codes "cell(") (before_again (codes ") {\n") name_again (λ rest. refl)))
    (both_again kind_again (before_again (codes "}\n") (many_again pin_at pin_text IsPin is_open Anything pin_again pins_in_a_row) (λ rest. (tt, closes rest))) (λ pins rest is follows. no_flag_before pins rest))
    (λ p rest is follows. tt))
    (λ cell. refl) (λ cell is. (is.name, (tt, is.pins))) (λ cell. refl)

pub cell_size : (cell : CellLines) → IsCell cell → 0 < length (cell_text cell)
cell_size cell is = omega arith

-- ---- the library

pub library_finds : Finds library_at library_text IsLibrary
unfolding library_at
library_finds =
    map_finds library_of library_text IsLibrary
    (both_finds (word_finds (codes "library(") (before_finds (codes ") {\n") name_finds)) (before_finds (codes "}\n") (many_finds cell_at cell_text IsCell is_open cell_finds))) (λ p. refl)
    (λ p is. record { name = is.0; cells = is.1 })

cells_in_a_row : InARow cell_at cell_text IsCell is_open Anything
unfolding behind
cells_in_a_row = record { size = cell_size; goes = λ cell rest is. refl; next = λ cell rest is. tt }

abbrev library_parts : Library → List ℕ × List CellLines
library_parts library = (library.name, library.cells)

pub library_again : Again library_at library_text IsLibrary Anything
unfolding library_at
library_again =
    map_again library_of library_parts library_text IsLibrary
    (both_again (word_again (codes "library(") (before_again (codes ") {\n") name_again (λ rest. refl)))
    (before_again (codes "}\n") (many_again cell_at cell_text IsCell is_open Anything cell_again cells_in_a_row) (λ rest. (tt, closes rest))) (λ p rest is follows. tt))
    (λ library. refl) (λ library is. (is.name, is.cells)) (λ library. refl)
