-- Two cells compare as equal exactly where they are the same, and a copy of a cell is the cell.
use Rattle.std.proofs.Common.{◌≡◌, ℕ, Bool, true, false, eqb, List, Option, Some, None, refl, sym, ap, subst}
use Rattle.std.specs.Bool.{Decides, beq}
use Rattle.std.specs.Option.{option_eq}
use Rattle.std.specs.Cmp.Lexicographic.{pointwise, same_text}
use Rattle.std.proofs.lemmas.Bool.{and_parts, and_from, eqb-true, eq-eqb}
use Rattle.std.proofs.lemmas.Slice.Eq.{slice_eq-Decides}
use Rattle.list_defs.proofs.NameLemmas.{same_name-itself}
use Rattle.pw_defs.specs.declared.cells.Cell.{Cell}
use Rattle.pw_defs.specs.declared.cells.Dir.{Dir}
use Rattle.pw_defs.specs.declared.cells.Dir.TheVariants.{Input, Output}
use Rattle.pw_defs.specs.declared.cells.Pin.{Pin}
use Rattle.pw_defs.specs.contracts.cells.CellPartialEq.TheImpl.{eq-value}
use Rattle.pw_defs.specs.contracts.cells.DirPartialEq.TheImpl.{eq-value as dir-value}
use Rattle.pw_defs.specs.contracts.cells.PinPartialEq.TheImpl.{eq-value as pin-value}
use Rattle.lib_cells.proofs.CellsTold.{cell_of_parts, pin_of_parts}

abbrev pub cell_eq : Cell → Cell → Bool
cell_eq = eq-value.it

abbrev dir_eq : Dir → Dir → Bool
dir_eq = dir-value.it

abbrev pin_eq : Pin → Pin → Bool
pin_eq = pin-value.it

same_dir : (a b : Dir) → dir_eq a b ≡ true → a ≡ b
same_dir Input Input e = refl
same_dir Input Output e = cc
same_dir Output Input e = cc
same_dir Output Output e = refl

dir_itself : (a : Dir) → dir_eq a a ≡ true
dir_itself Input = refl
dir_itself Output = refl

same_pin : (a b : Pin) → Decides (pin_eq a b) (a ≡ b)
same_pin a b = (same, λ e. subst (λ x. pin_eq a x ≡ true) e itself)
  where
    itself : pin_eq a a ≡ true
    itself = and_from _ _ (same_name-itself a.name) (dir_itself a.dir)

    same : pin_eq a b ≡ true → a ≡ b
    same e =
        let parts = and_parts _ _ e in
        pin_of_parts a b (same_text a.name b.name (sym parts.0)) (same_dir a.dir b.dir parts.1)

same_pins : (a b : List Pin) → Decides (pointwise pin_eq a b) (a ≡ b)
same_pins a b = slice_eq-Decides same_pin a b (pointwise pin_eq a b) refl

bool_itself : (a : Bool) → beq a a ≡ true
bool_itself true = refl
bool_itself false = refl

same_flag : (a b : Bool) → beq a b ≡ true → a ≡ b
same_flag true true e = refl
same_flag true false e = cc
same_flag false true e = cc
same_flag false false e = refl

same_place : (a b : Option ℕ) → option_eq eqb a b ≡ true → a ≡ b
same_place None None e = refl
same_place None (Some y) e = cc
same_place (Some x) None e = cc
same_place (Some x) (Some y) e = ap Some (eqb-true x y e)

place_itself : (a : Option ℕ) → option_eq eqb a a ≡ true
place_itself None = refl
place_itself (Some x) = eq-eqb x x refl

pub same_cell : (a b : Cell) → Decides (cell_eq a b) (a ≡ b)
same_cell a b = (same, λ e. subst (λ x. cell_eq a x ≡ true) e itself)
  where
    itself : cell_eq a a ≡ true
    itself =
        and_from _ _ (same_name-itself a.name) (and_from _ _ ((same_pins a.pins a.pins).1 refl) (and_from _ _ (bool_itself a.iso)
        (and_from _ _ (bool_itself a.shift) (and_from _ _ (place_itself a.through) (place_itself a.enable)))))

    same : cell_eq a b ≡ true → a ≡ b
    same e =
        let name = and_parts _ _ e in
        let pins = and_parts _ _ name.1 in
        let iso = and_parts _ _ pins.1 in
        let shift = and_parts _ _ iso.1 in
        let places = and_parts _ _ shift.1 in
        cell_of_parts a b (same_text a.name b.name (sym name.0)) ((same_pins a.pins b.pins).0 pins.0) (same_flag a.iso b.iso iso.0) (same_flag a.shift b.shift shift.0)
        (same_place a.through b.through places.0) (same_place a.enable b.enable places.1)
