-- How a row is found in the groups of the table.
use Rattle.std.proofs.Common.{◌≡◌, ℕ, suc, ◌+◌, ◌<◌, Bool, true, false, cond, List, [], ◌∷◌, ◌++◌, Option, Some, None, find, bytes_eq, refl, sym, ap, ◌∙◌, map, length, get_or, drop, drop-cons, add-one, Bor}
use Rattle.upf_reader.specs.Rows.{command_view, rows_of}
use Rattle.upf_reader.specs.declared.table.CommandLine.{CommandLine}
use Rattle.upf_commands.specs.CommandRows.{OptionRow, CommandRow}
use Rattle.upf_commands.specs.CommandTable.{commands}
use Rattle.upf_commands.specs.CommandWords.{row_of}

-- the row of this name among some rows
abbrev pub named_row : List ℕ → List CommandRow → Option CommandRow
named_row name rows = find (λ row. bytes_eq row.name name) rows

-- the option that this word gives among some options
abbrev pub named_option : List ℕ → List OptionRow → Option OptionRow
named_option word options = find (λ o. bytes_eq o.spelled word) options

pub all_rows : (name : List ℕ) → row_of name ≡ named_row name commands
unfolding row_of
all_rows name = refl

pub found_before : {X : Type 0} (test : X → Bool) (xs ys : List X) (x : X) → find test xs ≡ Some x → find test (xs ++ ys) ≡ Some x
found_before test [] ys x e = cc
found_before {X} test (z ∷ xs) ys x e = by (test z) (found_before test xs ys x) e
  where
    by : (t : Bool) → (find test xs ≡ Some x → find test (xs ++ ys) ≡ Some x) → cond t (Some z) (find test xs) ≡ Some x
        → cond t (Some z) (find test (xs ++ ys)) ≡ Some x
    by true later e = e
    by false later e = later e

pub found_behind : {X : Type 0} (test : X → Bool) (xs ys : List X) → find test xs ≡ None → find test (xs ++ ys) ≡ find test ys
found_behind test [] ys e = refl
found_behind {X} test (z ∷ xs) ys e = by (test z) (found_behind test xs ys) e
  where
    by : (t : Bool) → (find test xs ≡ None → find test (xs ++ ys) ≡ find test ys) → cond t (Some z) (find test xs) ≡ None
        → cond t (Some z) (find test (xs ++ ys)) ≡ find test ys
    by true later e = cc
    by false later e = later e

-- the name is found in the group that comes next
pub found_next : (name : List ℕ) (groups : List (Bor (List CommandLine))) (j : ℕ) (d : Bor (List CommandLine)) (row : CommandRow) → j < length groups
    → named_row name (map command_view (get_or groups j d).now) ≡ Some row → named_row name (rows_of (drop j groups)) ≡ Some row
found_next name groups j d row within e =
    ap (λ gs. named_row name (rows_of gs)) (drop-cons groups j d within)
    ∙ found_before (λ row. bytes_eq row.name name) (map command_view (get_or groups j d).now) (rows_of (drop (suc j) groups)) row e

-- it isn't found there
pub passed_next : (name : List ℕ) (groups : List (Bor (List CommandLine))) (j : ℕ) (d : Bor (List CommandLine)) → j < length groups
    → named_row name (map command_view (get_or groups j d).now) ≡ None
    → named_row name (rows_of (drop (j + 1) groups)) ≡ named_row name (rows_of (drop j groups))
passed_next name groups j d within e =
    ap (λ k. named_row name (rows_of (drop k groups))) (add-one j)
    ∙ sym (found_behind (λ row. bytes_eq row.name name) (map command_view (get_or groups j d).now) (rows_of (drop (suc j) groups)) e)
    ∙ ap (λ gs. named_row name (rows_of gs)) (sym (drop-cons groups j d within))
