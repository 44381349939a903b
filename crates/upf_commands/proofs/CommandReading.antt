-- How a line is shown to be a command, or to have a fault: its items are computed, and each is looked at in turn.
use Rattle.std.proofs.Common.{◌≡◌, ℕ, suc, false, List, [], ◌∷◌, ◌++◌, Option, Some, None, length, arith, refl, sym, subst, append_assoc, append-nil}
use Rattle.pw_defs.specs.declared.script.Line.{Line}
use Rattle.upf_commands.specs.CommandFaults.{IsBad, IsFirstBad}
use Rattle.upf_commands.specs.CommandRows.{CommandRow, passed_over}
use Rattle.upf_commands.specs.CommandWords.{Item, row_of}
use Rattle.upf_commands.specs.Commands.{HasItems, IsGood, IsWhole, unknown_words, missing, IsCommand, runs, command_of}
use Rattle.upf_commands.proofs.CommandLaws.{good_or_bad}
use Rattle.upf_commands.proofs.ItemReading.{read_items, items_so}

-- the items of words
abbrev pub items_of : CommandRow → List (List ℕ) → List Item
items_of row words = read_items row (suc (length words)) words

pub has_items : (line : Line) (row : CommandRow) (words : List (List ℕ)) → line.words ≡ row.name ∷ words → row_of row.name ≡ Some row → row.passed ≡ false
    → HasItems line row (items_of row words)
has_items line row words split is live =
    record { words = words; split = split; row_is = is; runs = live; items_are = items_so row (suc (length words)) words (omega arith) }

-- each item has P behind those before it
abbrev pub EachBehind : (List Item → Item → Type 0) → List Item → List Item → Type 0
EachBehind P before [] = Unit {0}
EachBehind P before (item ∷ items) = P before item × EachBehind P (before ++ item ∷ []) items

nth_behind : (P : List Item → Item → Type 0) (front items : List Item) → EachBehind P front items → (before : List Item) (item : Item) (after : List Item)
    → items ≡ before ++ item ∷ after → P (front ++ before) item
nth_behind P front [] each [] item after e = cc
nth_behind P front [] each (b ∷ before) item after e = cc
nth_behind P front (i ∷ items) each [] item after e =
    let same : i ≡ item = cc in
    subst (P (front ++ [])) same (subst (λ f. P f i) (sym (append-nil front)) each.0)
nth_behind P front (i ∷ items) each (b ∷ before) item after e =
    let same : i ≡ b = cc in
    let rest : items ≡ before ++ item ∷ after = cc in
    let later : P ((front ++ i ∷ []) ++ before) item = nth_behind P (front ++ i ∷ []) items each.1 before item after rest in
    subst (λ j. P (front ++ j ∷ before) item) same (subst (λ f. P f item) (append_assoc front (i ∷ []) before) later)

-- each item is good behind those before it
abbrev pub AreGood : CommandRow → List Item → List Item → Type 0
AreGood row = EachBehind (IsGood row)

-- where no item is bad, none is the first
pub none_bad : (row : CommandRow) (items : List Item) → EachBehind (λ before item. ¬ IsBad row before item) [] items → (item : Item)
    → ¬ IsFirstBad row items item
none_bad row items each item h = nth_behind (λ before i. ¬ IsBad row before i) [] items each h.before item h.after h.split h.bad

pub whole : (row : CommandRow) (items : List Item) → unknown_words items ≡ [] → missing row items ≡ [] → AreGood row [] items → IsWhole row items
whole row items known there good = record { known = known; there = there; good = nth_behind (IsGood row) [] items good }

-- the first bad item, where those before it are good
pub first_bad : (row : CommandRow) (before : List Item) (item : Item) (after : List Item) → AreGood row [] before → IsBad row before item
    → IsFirstBad row (before ++ item ∷ after) item
first_bad row before item after good bad =
    record {
      before = before;
      after = after;
      split = refl;
      bad = bad;
      first = λ front other rest e h. good_or_bad row front other (nth_behind (IsGood row) [] before good front other rest e) h;
    }

pub reads_command : (line : Line) (row : CommandRow) (words : List (List ℕ)) → line.words ≡ row.name ∷ words → row_of row.name ≡ Some row → row.passed ≡ false
    → unknown_words (items_of row words) ≡ [] → missing row (items_of row words) ≡ [] → AreGood row [] (items_of row words)
    → IsCommand line (command_of line row (items_of row words))
reads_command line row words split is not_passed known there good =
    runs row (items_of row words) (has_items line row words split is not_passed) (whole row (items_of row words) known there good)

-- the row that was found
abbrev pub found : Option CommandRow → CommandRow
found None = passed_over []
found (Some row) = row
