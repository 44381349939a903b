-- Grammars that are clear: the next token alone tells how to go on, so that a phrase is read whatever stands behind it that may.
-- Tokens fall into classes; `None` is the end of the text. What may begin a phrase and what may follow it are lists of classes.
use Rattle.std.proofs.Common.{◌≡◌, Bool, true, false, not, ◌&&◌, List, [], ◌∷◌, ◌++◌, Option, Some, None, inl, inr, Ok, refl, sym, ap, ◌∙◌, subst}
use Rattle.std.specs.List.{list_all, AllByRecursion}
use Rattle.std.specs.Option.{option_map}
use Rattle.std.proofs.lemmas.List.{append_assoc}
use Rattle.list_defs.specs.Members.{IsIn}
use Rattle.list_defs.proofs.Members.{IsIn-append_left, IsIn-append_right}
use Rattle.text_defs.specs.Grammar.{Grammar, Reads, next, passes, taken_or, read, ◌>>=◌}
use Rattle.text_defs.proofs.Found.{read-where_yes, read-where_no}

-- the class of the next token, if there is one
abbrev pub next_class : {K C : Type 0} → (K → C) → List K → Option C
next_class class tokens = option_map class (next tokens)

-- Each phrase of the grammar, with something behind it that may follow, begins with a class that may, and is read again.
pub record IsClear {K C A : Type 0} (class : K → C) (g : Grammar K A) (starts follows : List (Option C)) : Type 0 where
  pub start : (front rest : List K) (x : A) → Reads g front x → IsIn (next_class class rest) follows → IsIn (next_class class (front ++ rest)) starts
  pub again : (front rest : List K) (x : A) → Reads g front x → IsIn (next_class class rest) follows → read g (front ++ rest) ≡ Ok (x, rest)

-- whether a class passes a test, and whether it doesn't
abbrev pub yes_of : {C : Type 0} → (C → Bool) → Option C → Bool
yes_of test None = false
yes_of test (Some c) = test c

abbrev pub no_of : {C : Type 0} → (C → Bool) → Option C → Bool
no_of test c = not (yes_of test c)

and_left : (a b : Bool) → (a && b) ≡ true → a ≡ true
and_left true b h = refl
and_left false b h = h

and_right : (a b : Bool) → (a && b) ≡ true → b ≡ true
and_right true b h = h
and_right false b h = absurd (let no : false ≡ true = h in cc)

-- a test that all of a list pass is passed by each of it
pub passed : {X : Type 0} (test : X → Bool) (x : X) (xs : List X) → IsIn x xs → list_all test xs ≡ true → test x ≡ true
passed test x [] i h = absurd i
passed test x (y ∷ ys) (inl e) h = ap test e ∙ and_left (test y) (list_all test ys) h
passed test x (y ∷ ys) (inr i) h = passed test x ys i (and_right (test y) (list_all test ys) h)

-- each of the one list is in the other
abbrev pub AreIn : {X : Type 0} → List X → List X → Type 0
AreIn xs ys = AllByRecursion (λ x. IsIn x ys) xs

pub within : {X : Type 0} (x : X) (xs ys : List X) → AreIn xs ys → IsIn x xs → IsIn x ys
within x [] ys all i = absurd i
within {X} x (z ∷ xs) ys all (inl e) = let P : X → Type 0 = λ w. IsIn w ys in subst P (sym e) all.0
within x (z ∷ xs) ys all (inr i) = within x xs ys all.1 i

pub clear-gives : {K C A : Type 0} {class : K → C} {x : A} {follows : List (Option C)} → IsClear class (Grammar.gives x) follows follows
unfolding Reads read
clear-gives {K} {class = class} {follows = follows} =
    record {
      start = λ front rest y r i.
          let P : List K → Type 0 = λ l. IsIn (next_class class l) follows in
          subst P (ap (λ l. l ++ rest) (sym r.0)) i;
      again = λ front rest y r i. rw r.0 (ap (λ z. Ok (z, rest)) r.1);
    }

pub clear-token : {K C A : Type 0} {class : K → C} {taken : K → Option A} {starts follows : List (Option C)}
    → ((k : K) (x : A) → taken k ≡ Some x → IsIn (Some (class k)) starts) → IsClear class (Grammar.token taken) starts follows
unfolding Reads read
clear-token {K} {class = class} {taken = taken} {starts = starts} classes =
    record {
      start = λ front rest y r i.
          let P : List K → Type 0 = λ l. IsIn (next_class class (l ++ rest)) starts in
          subst P (sym r.1) (classes r.0 y r.2);
      again = λ front rest y r i. rw r.1 (ap (taken_or r.0 rest) r.2);
    }

pub clear-then : {K C A B : Type 0} {class : K → C} {first : Grammar K A} {second : A → Grammar K B} {starts middle follows : List (Option C)}
    → IsClear class first starts middle → ((x : A) → IsClear class (second x) middle follows) → IsClear class (first >>= second) starts follows
unfolding Reads read
clear-then {K} {class = class} {starts = starts} one two =
    record {
      start = λ front rest y r i.
          let P : List K → Type 0 = λ l. IsIn (next_class class l) starts in
          let at = (two r.0).start r.2 rest y r.5 i in
          subst P (sym (ap (λ l. l ++ rest) r.3 ∙ append_assoc r.1 r.2 rest)) (one.start r.1 (r.2 ++ rest) r.0 r.4 at);
      again = λ front rest y r i.
          let at = (two r.0).start r.2 rest y r.5 i in
          rw (r.3, append_assoc r.1 r.2 rest, one.again r.1 (r.2 ++ rest) r.0 r.4 at) ((two r.0).again r.2 rest y r.5 i);
    }

passes-class : {K C : Type 0} (class : K → C) (test : C → Bool) (tokens : List K)
    → passes (λ k. test (class k)) (next tokens) ≡ yes_of test (next_class class tokens)
passes-class class test [] = refl
passes-class class test (k ∷ tokens) = refl

not_true : (b : Bool) → not b ≡ true → b ≡ false
not_true false h = refl
not_true true h = sym h

-- A choice: all that begins the one phrase passes the test, and nothing that begins the other does.
pub clear-where : {K C A : Type 0} {class : K → C} (test : C → Bool) {this other : Grammar K A} {starts others follows : List (Option C)}
    → IsClear class this starts follows → IsClear class other others follows → list_all (yes_of test) starts ≡ true → list_all (no_of test) others ≡ true
    → IsClear class (Grammar.where_next (λ k. test (class k)) this other) (starts ++ others) follows
unfolding Reads
clear-where {class = class} test {this} {other} {starts} {others} one two all none =
    record {
      start = λ front rest y r i.
          elim r [
            | inl r ↦ IsIn-append_left (next_class class (front ++ rest)) starts others (one.start front rest y r i)
            | inr r ↦ IsIn-append_right (next_class class (front ++ rest)) starts others (two.start front rest y r i)
          ];
      again = λ front rest y r i.
          elim r [
            | inl r ↦
                (let here = passed (yes_of test) (next_class class (front ++ rest)) starts (one.start front rest y r i) all in
                read-where_yes (λ k. test (class k)) this other (front ++ rest) (passes-class class test (front ++ rest) ∙ here) ∙ one.again front rest y r i)
            | inr r ↦
                (let here = passed (no_of test) (next_class class (front ++ rest)) others (two.start front rest y r i) none in
                let shut = not_true (yes_of test (next_class class (front ++ rest))) here in
                read-where_no (λ k. test (class k)) this other (front ++ rest) (passes-class class test (front ++ rest) ∙ shut) ∙ two.again front rest y r i)
          ];
    }

-- more may begin, and fewer may follow
pub clear-wider : {K C A : Type 0} {class : K → C} {g : Grammar K A} {starts more follows : List (Option C)} → IsClear class g starts follows
    → AreIn starts more → IsClear class g more follows
clear-wider {class = class} {starts = starts} {more = more} c all =
    record {
      start = λ front rest x r i. within (next_class class (front ++ rest)) starts more all (c.start front rest x r i);
      again = c.again;
    }

pub clear-fewer : {K C A : Type 0} {class : K → C} {g : Grammar K A} {starts follows fewer : List (Option C)} → IsClear class g starts follows
    → AreIn fewer follows → IsClear class g starts fewer
clear-fewer {class = class} {follows = follows} {fewer = fewer} c all =
    record {
      start = λ front rest x r i. c.start front rest x r (within (next_class class rest) fewer follows all i);
      again = λ front rest x r i. c.again front rest x r (within (next_class class rest) fewer follows all i);
    }
