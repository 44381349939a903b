-- Phrases that may be left out, and lists, are clear where what follows them begins none of their phrases.
use Rattle.std.proofs.Common.{◌≡◌, ℕ, zero, suc, Bool, true, List, [], ◌∷◌, ◌++◌, Option, inl, inr, refl}
use Rattle.std.specs.List.{list_all}
use Rattle.list_defs.proofs.Members.{IsIn-append_left, IsIn-append_right}
use Rattle.text_defs.specs.Grammar.{Grammar, CanEnd}
use Rattle.text_defs.specs.Phrases.{option, many, listed}
use Rattle.text_defs.proofs.Clear.{IsClear, AreIn, yes_of, no_of, clear-gives, clear-then, clear-where, clear-wider}

pub all_in_right : {X : Type 0} (xs ys zs : List X) → AreIn zs ys → AreIn zs (xs ++ ys)
all_in_right xs ys [] h = tt
all_in_right xs ys (z ∷ zs) h = (IsIn-append_right z xs ys h.0, all_in_right xs ys zs h.1)

pub all_in_left : {X : Type 0} (xs ys zs : List X) → AreIn zs xs → AreIn zs (xs ++ ys)
all_in_left xs ys [] h = tt
all_in_left xs ys (z ∷ zs) h = (IsIn-append_left z xs ys h.0, all_in_left xs ys zs h.1)

all_in_more : {X : Type 0} (z : X) (xs ys : List X) → AreIn ys xs → AreIn ys (z ∷ xs)
all_in_more z xs [] h = tt
all_in_more z xs (y ∷ ys) h = (inr h.0, all_in_more z xs ys h.1)

pub all_in_same : {X : Type 0} (xs : List X) → AreIn xs xs
all_in_same [] = tt
all_in_same (x ∷ xs) = (inl refl, all_in_more x xs xs (all_in_same xs))

pub clear-option : {K C A : Type 0} {class : K → C} (test : C → Bool) {phrase : Grammar K A} {starts follows : List (Option C)}
    → IsClear class phrase starts follows → list_all (yes_of test) starts ≡ true → list_all (no_of test) follows ≡ true
    → IsClear class (option (λ k. test (class k)) phrase) (starts ++ follows) follows
clear-option test one all none = clear-where test (clear-then one (λ x. clear-gives)) clear-gives all none

-- A list: what follows its phrases begins another, or follows the list.
pub clear-many : {K C A : Type 0} {class : K → C} (most : ℕ) (test : C → Bool) {phrase : Grammar K A} {starts follows : List (Option C)}
    → IsClear class phrase starts (starts ++ follows) → list_all (yes_of test) starts ≡ true → list_all (no_of test) follows ≡ true
    → IsClear class (many most (λ k. test (class k)) phrase) (starts ++ follows) follows
unfolding many
clear-many zero test {starts = starts} {follows = follows} one all none =
    clear-wider clear-gives (all_in_right starts follows follows (all_in_same follows))
clear-many (suc most) test one all none =
    let rest = clear-many most test one all none in
    clear-where test (clear-then one (λ x. clear-then rest (λ xs. clear-gives))) clear-gives all none

-- A list with separators: what follows its phrases is a separator, or follows the list.
pub clear-listed : {K C A B : Type 0} {class : K → C} (most : ℕ) (test : C → Bool) {separator : Grammar K B}
    {phrase : Grammar K A} {marks starts follows : List (Option C)}
    → IsClear class separator marks starts → IsClear class phrase starts (marks ++ follows)
    → list_all (yes_of test) marks ≡ true → list_all (no_of test) follows ≡ true
    → IsClear class (listed most (λ k. test (class k)) separator phrase) starts follows
clear-listed most test one two all none =
    let further = clear-many most test (clear-then one (λ _. two)) all none in
    clear-then two (λ x. clear-then further (λ xs. clear-gives))

-- each list that was begun can be ended
pub can_end-many : {K A : Type 0} (most : ℕ) (begins : K → Bool) (phrase : Grammar K A) → CanEnd phrase → CanEnd (many most begins phrase)
unfolding CanEnd many
can_end-many zero begins phrase c = tt
can_end-many (suc most) begins phrase c = ((c, λ x. (can_end-many most begins phrase c, λ xs. tt)), tt)
