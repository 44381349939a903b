-- A list is put in order in one way.
use Rattle.std.proofs.Common.{◌≡◌, ℕ, suc, ◌+◌, Bool, true, false, List, [], ◌∷◌, filter, refl, sym, ap, subst, ◌∙◌, arith, inl, inr}
use Rattle.std.specs.Prelude.{slice_index_or}
use Rattle.std.specs.Cmp.{IsTotalOrder, IsStrictWeakOrder}
use Rattle.std.specs.List.Sorted.{IsSortedBy, ties}
use Rattle.std.specs.Ordering.{is_lt}
use Rattle.std.specs.declared.cmp.Ordering.{Ordering}
use Rattle.std.proofs.lemmas.List.Sorted.{ranks_by}
use Rattle.list_defs.specs.Members.{IsIn}
use Rattle.list_defs.specs.Orders.{IsPutInOrder}
use Rattle.list_defs.proofs.Members.{IsIn-filter, IsIn-filter_from}

not_itself : {X : Type 0} (lt : X → X → Bool) → IsStrictWeakOrder lt → (x : X) → lt x x ≡ false
not_itself lt o x = by (lt x x) refl
  where
    by : (b : Bool) → lt x x ≡ b → lt x x ≡ false
    by true less = o.one_way x x less
    by false less = less

tied : {X : Type 0} (lt : X → X → Bool) (x y : X) → lt x y ≡ false → lt y x ≡ false → ties lt x y ≡ true
tied lt x y p q = rw (p, q) refl

-- the rest of a sorted list is sorted
rest_sorted : {X : Type 0} (lt : X → X → Bool) (y : X) (ys : List X) → IsSortedBy lt (y ∷ ys) → IsSortedBy lt ys
rest_sorted lt y ys up k d low below =
    subst (λ (n : ℕ). lt (slice_index_or (y ∷ ys) n d) (slice_index_or ys k d) ≡ false) {x = suc k + 1} {y = suc (k + 1)} (omega arith) (up (suc k) d (omega arith) (omega arith))

-- nothing behind the first of a sorted list is less than it
first_least : {X : Type 0} (lt : X → X → Bool) → IsStrictWeakOrder lt → (y : X) (ys : List X) → IsSortedBy lt (y ∷ ys) → (z : X) → IsIn z ys → lt z y ≡ false
first_least lt o y [] up z there = absurd there
first_least lt o y (x ∷ xs) up z (inl same) = ap (λ w. lt w y) same ∙ up 0 y (omega arith) (omega arith)
first_least lt o y (x ∷ xs) up z (inr later) = o.chain z x y (first_least lt o x xs (rest_sorted lt y (x ∷ xs) up) z later) (up 0 y (omega arith) (omega arith))

-- what passes a test stands first among what passes
passing_first : {X : Type 0} (p : X → Bool) (x : X) (xs : List X) → p x ≡ true → filter p (x ∷ xs) ≡ x ∷ filter p xs
passing_first p x xs passes = rw passes refl

failing_first : {X : Type 0} (p : X → Bool) (x : X) (xs : List X) → p x ≡ false → filter p (x ∷ xs) ≡ filter p xs
failing_first p x xs fails = rw fails refl

-- two lists with the same ties have the same things
is_there : {X : Type 0} (lt : X → X → Bool) → IsStrictWeakOrder lt → (y : X) (ys zs : List X) → ((x : X) → filter (ties lt x) (y ∷ ys) ≡ filter (ties lt x) zs) → IsIn y zs
is_there lt o y ys zs same =
    let here : IsIn y (filter (ties lt y) (y ∷ ys)) = IsIn-filter (ties lt y) y (y ∷ ys) (inl refl) (tied lt y y (not_itself lt o y) (not_itself lt o y)) in
    (IsIn-filter_from (ties lt y) y zs (subst (IsIn y) (same y) here)).0

same_firsts : {X : Type 0} (lt : X → X → Bool) → IsStrictWeakOrder lt → (y : X) (ys : List X) (z : X) (zs : List X) → IsSortedBy lt (y ∷ ys) → IsSortedBy lt (z ∷ zs)
    → ((x : X) → filter (ties lt x) (y ∷ ys) ≡ filter (ties lt x) (z ∷ zs)) → y ≡ z
same_firsts {X} lt o y ys z zs up_y up_z same = by (is_there lt o y ys (z ∷ zs) same) (is_there lt o z zs (y ∷ ys) (λ x. sym (same x)))
  where
    both : lt y z ≡ false → lt z y ≡ false → y ≡ z
    both p q =
        let heads : y ∷ filter (ties lt y) ys ≡ z ∷ filter (ties lt y) zs =
        sym (passing_first (ties lt y) y ys (tied lt y y (not_itself lt o y) (not_itself lt o y))) ∙ same y ∙ passing_first (ties lt y) z zs (tied lt y z p q) in
        cc

    by : IsIn y (z ∷ zs) → IsIn z (y ∷ ys) → y ≡ z
    by (inl is) other = is
    by (inr later) (inl is) = sym is
    by (inr later) (inr other) = both (first_least lt o z zs up_z y later) (first_least lt o y ys up_y z other)

same_rests : {X : Type 0} (p : X → Bool) (y : X) (ys zs : List X) → filter p (y ∷ ys) ≡ filter p (y ∷ zs) → filter p ys ≡ filter p zs
same_rests p y ys zs same = by (p y) refl
  where
    by : (b : Bool) → p y ≡ b → filter p ys ≡ filter p zs
    by true passes =
        let heads : y ∷ filter p ys ≡ y ∷ filter p zs = sym (passing_first p y ys passes) ∙ same ∙ passing_first p y zs passes in
        cc
    by false fails = sym (failing_first p y ys fails) ∙ same ∙ failing_first p y zs fails

once : {X : Type 0} (lt : X → X → Bool) → IsStrictWeakOrder lt → (ys zs : List X) → IsSortedBy lt ys → IsSortedBy lt zs
    → ((x : X) → filter (ties lt x) ys ≡ filter (ties lt x) zs) → ys ≡ zs
once lt o [] [] up_y up_z same = refl
once lt o [] (z ∷ zs) up_y up_z same = absurd (is_there lt o z zs [] (λ x. sym (same x)))
once lt o (y ∷ ys) [] up_y up_z same = absurd (is_there lt o y ys [] same)
once {X} lt o (y ∷ ys) (z ∷ zs) up_y up_z same =
    let first : y ≡ z = same_firsts lt o y ys z zs up_y up_z same in
    let rests : ys ≡ zs = once lt o ys zs (rest_sorted lt y ys up_y) (rest_sorted lt z zs up_z)
    (λ x. same_rests (ties lt x) y ys zs (same x ∙ ap (λ (w : X). filter (ties lt x) (w ∷ zs)) (sym first))) in
    cc

-- two lists that are the same list put in order are the same
pub put_once : {X : Type 0} (cmp : X → X → Ordering) → IsTotalOrder cmp → (xs ys zs : List X) → IsPutInOrder cmp xs ys → IsPutInOrder cmp xs zs → ys ≡ zs
put_once cmp o xs ys zs a b = once (λ x y. is_lt (cmp x y)) (ranks_by o (λ x. x)) ys zs a.sorted b.sorted (λ x. a.stable x ∙ sym (b.stable x))
