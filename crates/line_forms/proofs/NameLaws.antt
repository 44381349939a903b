-- Names, each the longest run of its bytes, and directions.
use Rattle.std.proofs.Common.{◌≡◌, ℕ, suc, ◌+◌, Bool, true, false, not, cond, eqb, ◌&&◌, ◌||◌, List, [], ◌∷◌, ◌++◌, length, take, drop, Some, None, refl, sym, ap, subst, ◌∙◌, arith}
use Rattle.std.specs.List.{list_all, prefix_len}
use Rattle.std.proofs.lemmas.Bool.{eqb-true}
use Rattle.std.proofs.lemmas.List.{take_at, drop_at, take-append-drop}
use Rattle.std.specs.Prelude.{codes}
use Rattle.pw_defs.specs.declared.cells.Dir.TheVariants.{Input, Output}
use Rattle.line_forms.specs.Lines.{dir_text}
use Rattle.line_forms.specs.Names.{is_letter, is_name_byte, is_id, IsId, is_reserved, IsPlainName}
use Rattle.line_forms.specs.Reading.{behind, starts_name, name_at, plain_at, dir_at}
use Rattle.line_forms.proofs.Words.{let_through}
use Rattle.line_forms.proofs.Laws.{Finds, Again, Always, Anything, none_finds, choice_finds, some_is, bind_some}

-- whether no name goes on here
abbrev pub stops : List ℕ → Bool
stops [] = true
stops (b ∷ bs) = not (is_name_byte b)

abbrev pub Stops : List ℕ → Type 0
Stops rest = stops rest ≡ true

pub not_true : (b : Bool) → not b ≡ true → b ≡ false
not_true true e = absurd cc
not_true false e = refl

or_true : (a b : Bool) → a ≡ true → (a || b) ≡ true
or_true true b e = refl
or_true false b e = absurd cc

pub both_true : (a b : Bool) → (a && b) ≡ true → (a ≡ true) × (b ≡ true)
both_true true b e = (refl, e)
both_true false b e = absurd cc

run_passes : (p : ℕ → Bool) (xs : List ℕ) → list_all p (take (prefix_len p xs) xs) ≡ true
run_passes p [] = refl
run_passes p (x ∷ xs) = by_test (p x) refl (run_passes p xs)
  where
    by_test : (b : Bool) → p x ≡ b → list_all p (take (prefix_len p xs) xs) ≡ true → list_all p (take (prefix_len p (x ∷ xs)) (x ∷ xs)) ≡ true
    by_test true e others =
        let n : 1 + prefix_len p xs ≡ suc (prefix_len p xs) = omega arith in
        rw (e, n, e) others
    by_test false e others = rw e refl

pub run_len : (p : ℕ → Bool) (xs rest : List ℕ) → list_all p xs ≡ true → (prefix_len p rest ≡ 0) → prefix_len p (xs ++ rest) ≡ length xs
run_len p [] rest all stop = stop
run_len p (x ∷ xs) rest all stop =
    let b = both_true (p x) (list_all p xs) all in
    let ih = run_len p xs rest b.1 stop in
    rw (b.0, ih) (omega arith)

no_run : (rest : List ℕ) → Stops rest → prefix_len is_name_byte rest ≡ 0
no_run [] stop = refl
no_run (b ∷ rest) stop = rw (not_true (is_name_byte b) stop) refl

abbrev name_of : List ℕ → List ℕ
name_of text = take (prefix_len is_name_byte text) text

abbrev rest_of : List ℕ → List ℕ
rest_of text = drop (prefix_len is_name_byte text) text

name_is : (text : List ℕ) → starts_name text ≡ true → is_id (name_of text) ≡ true
name_is [] starts = absurd cc
name_is (b ∷ bs) starts =
    let letter : is_name_byte b ≡ true = or_true (is_letter b) _ starts in
    let n : 1 + prefix_len is_name_byte bs ≡ suc (prefix_len is_name_byte bs) = omega arith in
    rw (letter, n, starts) (run_passes is_name_byte bs)

pub name_finds : Finds name_at (λ name. name) IsId
unfolding name_at
name_finds = record {
  found = λ text x rest e.
      let p = let_through (starts_name text) (Some (name_of text, rest_of text)) (x, rest) e in
      subst (λ (z : List ℕ × List ℕ). (text ≡ z.0 ++ z.1) × IsId z.0) (some_is (name_of text, rest_of text) (x, rest) p.1) (sym (take-append-drop (prefix_len is_name_byte text) text), name_is text p.0);
}

name_parts : (name : List ℕ) → IsId name → (starts_name name ≡ true) × (list_all is_name_byte name ≡ true)
name_parts [] is = absurd cc
name_parts (b ∷ bs) is =
    let p = both_true (is_letter b) (list_all is_name_byte bs) is in
    let letter : is_name_byte b ≡ true = or_true (is_letter b) _ p.0 in
    (p.0, rw letter p.1)

starts_so : (name rest : List ℕ) → starts_name name ≡ true → starts_name (name ++ rest) ≡ true
starts_so [] rest starts = absurd cc
starts_so (b ∷ bs) rest starts = starts

pub name_again : Again name_at (λ name. name) IsId Stops
unfolding name_at
name_again = record {
  again = λ name rest is stop.
      let p = name_parts name is in
      let n = run_len is_name_byte name rest p.1 (no_run rest stop) in
      rw (starts_so name rest p.0, n, take_at name rest (length name) refl, drop_at name rest (length name) refl) refl;
}

pub plain_finds : Finds plain_at (λ name. name) IsPlainName
unfolding plain_at
plain_finds = record {
  found = λ text x rest e.
      let b = bind_some (name_at text) (λ y. cond (is_reserved y.0) None (Some y)) (x, rest) e in
      let f = name_finds.found text b.0.0 b.0.1 b.1 in
      let p = kept (is_reserved b.0.0) b.0 (x, rest) b.2 in
      subst (λ (z : List ℕ × List ℕ). (text ≡ z.0 ++ z.1) × IsPlainName z.0) p.1 (f.0, record { id = f.1; plain = rw p.0 refl });
}
  where
    kept : (b : Bool) (y z : List ℕ × List ℕ) → cond b None (Some y) ≡ Some z → (b ≡ false) × (y ≡ z)
    kept true y z e = absurd cc
    kept false y z e = (refl, cc)

pub plain_again : Again plain_at (λ name. name) IsPlainName Stops
unfolding plain_at
plain_again = record {
  again = λ name rest is stop.
      let free : is_reserved name ≡ false = not_true (is_reserved name) is.plain in
      rw (name_again.again name rest is.id stop, free) refl;
}

pub dir_finds : Finds dir_at dir_text Always
unfolding dir_at
dir_finds = choice_finds (codes "input") Input refl tt (choice_finds (codes "output") Output refl tt (none_finds dir_text Always))

pub dir_again : Again dir_at dir_text Always Anything
unfolding dir_at behind
dir_again = record { again = λ dir rest is follows. elim dir as (λ d. dir_at (dir_text d ++ rest) ≡ Some (d, rest)) [ Input ↦ refl | Output ↦ refl ] }

-- a text that begins with a name doesn't begin with a byte that is no letter
pub name_is_not : (name : List ℕ) (c : ℕ) (word rest : List ℕ) → IsId name → is_letter c ≡ false → behind (c ∷ word) (name ++ rest) ≡ None
unfolding behind
name_is_not [] c word rest is other = absurd cc
name_is_not (b ∷ bs) c word rest is other =
    let p = both_true (is_letter b) (list_all is_name_byte bs) is in
    rw (differ (eqb b c) refl p.0) refl
  where
    true_not_false : true ≡ false → ⊥
    true_not_false h = cc

    differ : (t : Bool) → eqb b c ≡ t → is_letter b ≡ true → eqb b c ≡ false
    differ false e letter = e
    differ true e letter = let same : is_letter b ≡ is_letter c = ap is_letter (eqb-true b c e) in absurd (true_not_false (sym letter ∙ same ∙ other))
