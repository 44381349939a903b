-- How a line is read as a command.
use Rattle.std.proofs.Common.{◌≡◌, ℕ, Bool, true, false, cond, List, [], ◌∷◌, ◌++◌, Option, Some, None, map, filter_map, find, bytes_eq, refl, sym, ap, ◌∙◌, subst}
use Rattle.std.specs.Cmp.Lexicographic.{bytes_decides}
use Rattle.pw_defs.specs.declared.faults.At.{At}
use Rattle.pw_defs.specs.declared.faults.CmdFault.TheVariants.{U1}
use Rattle.pw_defs.specs.declared.script.Command.{Command}
use Rattle.pw_defs.specs.declared.script.Line.{Line}
use Rattle.upf_commands.specs.CommandFaults.{HasCommandFault, no_command, named}
use Rattle.upf_commands.specs.CommandRows.{CommandRow}
use Rattle.upf_commands.specs.CommandTable.{commands}
use Rattle.upf_commands.specs.CommandWords.{Item, row_of, AreItems}
use Rattle.upf_commands.specs.Commands.{HasItems, IsWhole, IsCommand, runs, passes, command_of, passed_command}
use Rattle.std.proofs.lemmas.List.{map-append}
use Rattle.std.proofs.lemmas.List.Elements.{filter_map-append}
use Rattle.upf_reader.specs.Parts.{IsLineOf, part_view}
use Rattle.upf_reader.specs.declared.parts.Part.{Part}

found_passes : {X : Type 0} (test : X → Bool) (xs : List X) (x : X) → find test xs ≡ Some x → test x ≡ true
found_passes test [] x e = cc
found_passes {X} test (y ∷ xs) x e = by (test y) refl e (found_passes test xs x)
  where
    by : (t : Bool) → test y ≡ t → cond t (Some y) (find test xs) ≡ Some x → (find test xs ≡ Some x → test x ≡ true) → test x ≡ true
    by true f e later = let same : y ≡ x = cc in subst (λ z. test z ≡ true) same f
    by false f e later = later e

-- the row that a name finds has this name
pub row_name : (name : List ℕ) (row : CommandRow) → row_of name ≡ Some row → row.name ≡ name
unfolding row_of
row_name name row e = (bytes_decides row.name name).0 (found_passes (λ r. bytes_eq r.name name) commands row e)

pub line_of : (line : Line) (name : List ℕ) (words : List (List ℕ)) (row : CommandRow) → line.words ≡ name ∷ words → row_of name ≡ Some row → row.passed ≡ false
    → IsLineOf line row words
line_of line name words row split is live =
    let same : row.name ≡ name = row_name name row is in
    record { split = split ∙ ap (λ n. n ∷ words) (sym same); row_is = ap row_of same ∙ is; runs = live }

pub passed_so : (line : Line) (name : List ℕ) (words : List (List ℕ)) (row : CommandRow) (c : Command) → line.words ≡ name ∷ words → row_of name ≡ Some row
    → row.passed ≡ true → c ≡ passed_command line row → IsCommand line c
passed_so line name words row c split is passed e =
    let same : row.name ≡ name = row_name name row is in
    subst (IsCommand line) (sym e) (passes row words (split ∙ ap (λ n. n ∷ words) (sym same)) (ap row_of same ∙ is) passed)

pub unknown_so : (line : Line) (name : List ℕ) (words : List (List ℕ)) (at : At) → line.words ≡ name ∷ words → row_of name ≡ None → at ≡ named line name
    → HasCommandFault line (U1 at)
unknown_so line name words at split none e = subst (λ a. HasCommandFault line (U1 a)) (sym e) (no_command name words split none)

pub items_of_line : (line : Line) (row : CommandRow) (words : List (List ℕ)) (items : List Item) → IsLineOf line row words → AreItems row words items
    → HasItems line row items
items_of_line line row words items h k = record { words = words; split = h.split; row_is = h.row_is; runs = h.runs; items_are = k }

pub command_so : (line : Line) (row : CommandRow) (items : List Item) (c : Command) → HasItems line row items → IsWhole row items → c ≡ command_of line row items
    → IsCommand line c
command_so line row items c h w e = subst (IsCommand line) (sym e) (runs row items h w)

-- what the parts say, with one part more
pub gathered : {Y : Type 0} (f : Item → Option Y) (parts : List Part) (part : Part) (old new : List Y) → old ≡ filter_map f (map part_view parts)
    → new ≡ old ++ filter_map f (part_view part ∷ []) → new ≡ filter_map f (map part_view (parts ++ part ∷ []))
gathered f parts part old new e g =
    g ∙ ap (λ ys. ys ++ filter_map f (part_view part ∷ [])) e ∙ sym (filter_map-append f (map part_view parts) (part_view part ∷ []))
    ∙ ap (filter_map f) (sym (map-append part_view parts (part ∷ [])))
