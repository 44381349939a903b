-- A name that the index has already stands twice in the list.
use Rattle.std.proofs.Common.{◌≡◌, ◌<◌, ◌+◌, ◌∙◌, ℕ, List, ◌∷◌, ◌++◌, true, false, map, take, drop, get_or, length, sym, ap, take-append-drop, arith}
use Rattle.std.proofs.lemmas.Bool.{not-false}
use Rattle.std.proofs.lemmas.List.{drop_more, map-append}
use Rattle.std.specs.List.{list_any}
use Rattle.list_defs.specs.Members.{all_differ, same_name}
use Rattle.list_defs.proofs.NameLemmas.{all_differ-again}
use Rattle.name_index.proofs.index.NameIndex.from_names.Goals as goal

all_differ-repeats : {X : Type 0} (f : X → List ℕ) (xs : List X) (i : ℕ) (d : X) (front : List (List ℕ)) → i < length xs → front ≡ map f (take i xs) → list_any (same_name (f (get_or xs i d))) front ≡ true → all_differ same_name (map f xs) ≡ false
all_differ-repeats f xs i d front within so_far there =
    let behind = map f (drop (i + 1) xs) in
    let split : map f xs ≡ front ++ f (get_or xs i d) ∷ behind =
    ap (map f) (sym (take-append-drop i xs)) ∙ map-append f (take i xs) (drop i xs) ∙ ap (λ ys. map f (take i xs) ++ map f ys) (drop_more xs i d within) ∙ ap (λ ys. ys ++ f (get_or xs i d) ∷ behind) (sym so_far) in
    ap (all_differ same_name) split ∙ all_differ-again front (f (get_or xs i d)) behind there

pub returns-then-not-branch : goal.returns-then-not-branch
returns-then-not-branch c =
    let there = not-false _ (sym c.in_ok-add.ensures.new ∙ c.if-not-branch.true) in
    all_differ-repeats (λ name. name.now) c.args.names.now c.loop-name.name-index _ c.loop-name.index (omega arith) c.loop-name.invariant.0 there
