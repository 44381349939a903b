-- The two sides of an assignment, run by run.
use Rattle.std.proofs.Common.{◌≡◌, ℕ, ◌+◌, ◌-◌, ◌^◌, ◌<◌, ◌≤◌, ◌⊎◌, inl, inr, min, List, [], ◌∷◌, ◌++◌, length, map, take, drop, reverse, refl, sym, ap, ◌∙◌, subst, arith, append-nil, append_assoc}
use Rattle.std.specs.Prelude.{Option, Some, None}
use Rattle.std.specs.List.{AllByRecursion, range_with_len, zip}
use Rattle.std.proofs.Math.Nat.{min-eq_left, min-eq_right, min-le_left, min-le_right}
use Rattle.std.proofs.lemmas.Bool.{cases_lt}
use Rattle.std.proofs.lemmas.List.{drop-map, drop_all, length-take-le, map-append, reverse-append, reverse-reverse, take-append-drop}
use Rattle.std.proofs.lemmas.List.FromFn.{take-map-range_with_len}
use Rattle.net_runs.specs.declared.runs.Run.{Run}
use Rattle.net_runs.specs.declared.runs.Run.TheVariants.{Bits, Constants}
use Rattle.net_runs.specs.Leaves.{runs_bits}
use Rattle.net_runs.specs.LocalNumbers.{run_bits, count_of}
use Rattle.net_links.specs.LocalLinks.{LocalLink, end_after, links_of_row}
use Rattle.net_links.specs.RunLinks.{AreFew, AreFewOwn, IsFewBit, IsFewOwn, IsNarrow, bits_back, end_of_run, local_across, locals_of_sides, own_end, row_across}
use Rattle.net_links.proofs.RunLemmas.{bit_at, drop_range, end_is, few_of_own, few_run, narrow_run, not_cut, own_run, run_is, shifted, zip_append, zipped}
use Rattle.list_defs.proofs.Rising.{each_front, each_behind}
use Rattle.net_runs.proofs.RunLemmas.{run_length}

-- a run is added in front of those that are given from the last one on
back_more : (runs : List Run) (run : Run) → bits_back (runs ++ run ∷ []) ≡ run_bits run ++ bits_back runs
back_more runs run = ap runs_bits (reverse-append runs (run ∷ []))

-- what is behind some bits of a run
behind_bits : (first count used : ℕ) → used ≤ count → drop used (run_bits (Bits first count)) ≡ run_bits (Bits (first + used) (count - used))
behind_bits first count used within =
    drop-map (λ (k : ℕ). Some (first + k)) used (range_with_len 0 count) ∙ ap (map (λ (k : ℕ). Some (first + k))) (drop_range 0 count used within)
    ∙ shifted (λ (k : ℕ). Some (first + k)) (λ (k : ℕ). Some (first + used + k)) (0 + used) 0 (count - used) (λ i j same. ap Some (omega (arith, same)))

behind_constants : (count used : ℕ) → used ≤ count → drop used (run_bits (Constants count)) ≡ run_bits (Constants (count - used))
behind_constants count used within =
    drop-map (λ (k : ℕ). None) used (range_with_len 0 count) ∙ ap (map (λ (k : ℕ). None)) (drop_range 0 count used within)
    ∙ shifted (λ (k : ℕ). None) (λ (k : ℕ). None) (0 + used) 0 (count - used) (λ i j same. refl)

behind_all : (run : Run) (used : ℕ) → count_of run ≤ used → drop used (run_bits run) ≡ []
behind_all run used all = drop_all used (run_bits run) (omega (arith, all, run_length run))

-- the runs with which both sides begin make a row
abbrev shorter : Run → Run → ℕ
shorter left right = min (count_of left) (count_of right)

front_is : (run : Run) (n : ℕ) → n ≤ count_of run → take n (run_bits run) ≡ map (bit_at run) (range_with_len 0 n)
front_is run n within = ap (take n) (run_is run) ∙ take-map-range_with_len (bit_at run) 0 (count_of run) n within

across_links : (line : ℕ) (left right : Run) → locals_of_sides line (take (shorter left right) (run_bits left)) (take (shorter left right) (run_bits right)) ≡ links_of_row (row_across line left right)
across_links line left right =
    let n = shorter left right in
    ap (λ bits. locals_of_sides line bits (take n (run_bits right))) (front_is left n (min-le_left (count_of left) (count_of right)))
    ∙ ap (λ bits. locals_of_sides line (map (bit_at left) (range_with_len 0 n)) bits) (front_is right n (min-le_right (count_of left) (count_of right)))
    ∙ zipped (local_across line) (bit_at left) (bit_at right) (λ k. record { fed = end_after (end_of_run left) k; source = end_after (end_of_run right) k; line = line })
    (λ k. ap (λ fed. record { fed = fed; source = own_end (bit_at right k); line = line }) (end_is left k)
    ∙ ap (λ source. record { fed = end_after (end_of_run left) k; source = source; line = line }) (end_is right k)) 0 n

front_length : (run : Run) (n : ℕ) → n ≤ count_of run → length (take n (run_bits run)) ≡ n
front_length run n within = length-take-le n (run_bits run) (omega (arith, within, run_length run))

split_front : (bits rest : List (Option ℕ)) (n : ℕ) → bits ++ rest ≡ take n bits ++ (drop n bits ++ rest)
split_front bits rest n = ap (λ all. all ++ rest) (sym (take-append-drop n bits)) ∙ append_assoc (take n bits) (drop n bits) rest

sides_split : (line : ℕ) (left right : Run) (us vs : List (Option ℕ))
    → locals_of_sides line (run_bits left ++ us) (run_bits right ++ vs)
    ≡ links_of_row (row_across line left right) ++ locals_of_sides line (drop (shorter left right) (run_bits left) ++ us) (drop (shorter left right) (run_bits right) ++ vs)
sides_split line left right us vs =
    let n = shorter left right in
    let a = take n (run_bits left) in
    let b = take n (run_bits right) in
    let more_left = drop n (run_bits left) ++ us in
    let more_right = drop n (run_bits right) ++ vs in
    let same : length a ≡ length b = front_length left n (min-le_left (count_of left) (count_of right)) ∙ sym (front_length right n (min-le_right (count_of left) (count_of right))) in
    ap (λ bits. locals_of_sides line bits (run_bits right ++ vs)) (split_front (run_bits left) us n)
    ∙ ap (λ bits. locals_of_sides line (a ++ more_left) bits) (split_front (run_bits right) vs n)
    ∙ ap (map (local_across line)) (zip_append a more_left b more_right same)
    ∙ map-append (local_across line) (zip a b) (zip more_left more_right)
    ∙ ap (λ links. links ++ locals_of_sides line more_left more_right) (across_links line left right)

-- a row more, and what is behind it on both sides, are the links of what was there
sides_more : (line : ℕ) (left right : Run) (us vs more_us more_vs : List (Option ℕ)) (old new : List LocalLink)
    → new ≡ old ++ links_of_row (row_across line left right)
    → more_us ≡ drop (min (count_of left) (count_of right)) (run_bits left) ++ us
    → more_vs ≡ drop (min (count_of left) (count_of right)) (run_bits right) ++ vs
    → new ++ locals_of_sides line more_us more_vs ≡ old ++ locals_of_sides line (run_bits left ++ us) (run_bits right ++ vs)
sides_more line left right us vs more_us more_vs old new grown back_left back_right =
    let n = shorter left right in
    let row = links_of_row (row_across line left right) in
    let rest = locals_of_sides line (drop n (run_bits left) ++ us) (drop n (run_bits right) ++ vs) in
    ap (λ links. links ++ locals_of_sides line more_us more_vs) grown
    ∙ ap (λ bits. (old ++ row) ++ locals_of_sides line bits more_vs) back_left
    ∙ ap (λ bits. (old ++ row) ++ locals_of_sides line (drop n (run_bits left) ++ us) bits) back_right
    ∙ append_assoc old row rest ∙ ap (λ links. old ++ links) (sym (sides_split line left right us vs))

-- what is behind the bits that a row takes
behind_holds : (P : Option ℕ → Type 0) (run : Run) (n : ℕ) (us : List (Option ℕ)) → AllByRecursion P (run_bits run ++ us) → AllByRecursion P (drop n (run_bits run) ++ us)
behind_holds P run n us all =
    let bits = run_bits run in
    let whole : bits ++ us ≡ take n bits ++ (drop n bits ++ us) = split_front bits us n in
    each_behind P (take n bits) (drop n bits ++ us) (subst (AllByRecursion P) whole all)

across_narrow : (line : ℕ) (left right : Run) → AreFewOwn (run_bits left) → AreFew (run_bits right) → 0 < min (count_of left) (count_of right)
    → IsNarrow (row_across line left right)
across_narrow line left right few_left few_right some =
    let short_left : min (count_of left) (count_of right) ≤ count_of left = min-le_left (count_of left) (count_of right) in
    let short_right : min (count_of left) (count_of right) ≤ count_of right = min-le_right (count_of left) (count_of right) in
    let count : count_of left ≤ 4294967295 = own_run left few_left (omega (arith, some, short_left)) in
    record {
      fed = narrow_run left (few_of_own (run_bits left) few_left) (omega (arith, some, short_left));
      source = narrow_run right few_right (omega (arith, some, short_right));
      count = omega (arith, count, short_left);
    }

-- with nothing on the right side there are no links
none_right : (line : ℕ) (bits : List (Option ℕ)) → locals_of_sides line bits [] ≡ []
none_right line [] = refl
none_right line (x ∷ bits) = refl

-- what is put back is what is behind the bits that are used
pub bits_put_back : (first count used sum : ℕ) (old new : List Run) → new ≡ old ++ Bits sum (count - used) ∷ [] → sum ≡ min (first + used) (2 ^ 64 - 1) → used < count
    → AreFew (run_bits (Bits first count)) → bits_back new ≡ drop used (run_bits (Bits first count)) ++ bits_back old
bits_put_back first count used sum old new grown is some few =
    let fits : first + count ≤ 4294967295 = few_run first count few (omega (arith, some)) in
    let begins : sum ≡ first + used = not_cut first used used sum is refl (omega (arith, fits, some)) in
    ap bits_back grown ∙ back_more old (Bits sum (count - used)) ∙ ap (λ (n : ℕ). run_bits (Bits n (count - used)) ++ bits_back old) begins
    ∙ ap (λ bits. bits ++ bits_back old) (sym (behind_bits first count used (omega (arith, some))))

pub constants_put_back : (count used : ℕ) (old new : List Run) → new ≡ old ++ Constants (count - used) ∷ [] → used < count
    → bits_back new ≡ drop used (run_bits (Constants count)) ++ bits_back old
constants_put_back count used old new grown some =
    ap bits_back grown ∙ back_more old (Constants (count - used)) ∙ ap (λ bits. bits ++ bits_back old) (sym (behind_constants count used (omega (arith, some))))

pub none_put_back : (run : Run) (used : ℕ) (old : List Run) → count_of run ≤ used → bits_back old ≡ drop used (run_bits run) ++ bits_back old
none_put_back run used old all = sym (ap (λ bits. bits ++ bits_back old) (behind_all run used all))

-- what is left of both sides behind a row
pub more_fed : (fed source : Run) (n : ℕ) (us more : List (Option ℕ)) → n ≡ min (count_of fed) (count_of source) → AreFewOwn (run_bits fed ++ us)
    → (AreFew (run_bits fed) → n ≤ count_of fed → more ≡ drop n (run_bits fed) ++ us) → (more ≡ drop (min (count_of fed) (count_of source)) (run_bits fed) ++ us) × AreFewOwn more
more_fed fed source n us more is few back =
    let short : min (count_of fed) (count_of source) ≤ count_of fed = min-le_left (count_of fed) (count_of source) in
    let same : more ≡ drop n (run_bits fed) ++ us = back (few_of_own (run_bits fed) (each_front IsFewOwn (run_bits fed) us few)) (omega (arith, is, short)) in
    (same ∙ ap (λ (k : ℕ). drop k (run_bits fed) ++ us) is, subst AreFewOwn (sym same) (behind_holds IsFewOwn fed n us few))

pub more_source : (fed source : Run) (n : ℕ) (vs more : List (Option ℕ)) → n ≡ min (count_of fed) (count_of source) → AreFew (run_bits source ++ vs)
    → (AreFew (run_bits source) → n ≤ count_of source → more ≡ drop n (run_bits source) ++ vs)
    → (more ≡ drop (min (count_of fed) (count_of source)) (run_bits source) ++ vs) × AreFew more
more_source fed source n vs more is few back =
    let short : min (count_of fed) (count_of source) ≤ count_of source = min-le_right (count_of fed) (count_of source) in
    let same : more ≡ drop n (run_bits source) ++ vs = back (each_front IsFewBit (run_bits source) vs few) (omega (arith, is, short)) in
    (same ∙ ap (λ (k : ℕ). drop k (run_bits source) ++ vs) is, subst AreFew (sym same) (behind_holds IsFewBit source n vs few))

-- a row and what is put back have the links of both sides
pub across_more : (line : ℕ) (fed source : Run) (n : ℕ) (us vs more_us more_vs : List (Option ℕ)) (old new : List LocalLink) → n ≡ min (count_of fed) (count_of source)
    → AreFewOwn (run_bits fed ++ us) → AreFew (run_bits source ++ vs)
    → ((0 < n → IsNarrow (row_across line fed source)) → new ≡ old ++ links_of_row (row_across line fed source))
    → (AreFew (run_bits fed) → n ≤ count_of fed → more_us ≡ drop n (run_bits fed) ++ us)
    → (AreFew (run_bits source) → n ≤ count_of source → more_vs ≡ drop n (run_bits source) ++ vs)
    → new ++ locals_of_sides line more_us more_vs ≡ old ++ locals_of_sides line (run_bits fed ++ us) (run_bits source ++ vs)
across_more line fed source n us vs more_us more_vs old new is few_fed few_source put back_fed back_source =
    sides_more line fed source us vs more_us more_vs old new
    (put (λ some. across_narrow line fed source (each_front IsFewOwn (run_bits fed) us few_fed) (each_front IsFewBit (run_bits source) vs few_source) (omega (arith, some, is))))
    (more_fed fed source n us more_us is few_fed back_fed).0 (more_source fed source n vs more_vs is few_source back_source).0

-- where nothing is left of the right side, all rows are there
pub right_done : (line : ℕ) (left right : List Run) (links all : List LocalLink) → length right ≡ 0 → links ++ locals_of_sides line (bits_back left) (bits_back right) ≡ all → links ≡ all
right_done line left [] links all e known = sym (append-nil links) ∙ ap (λ more. links ++ more) (sym (none_right line (bits_back left))) ∙ known
right_done line left (run ∷ right) links all e known = absurd (omega (arith, e))

-- a list from which nothing can be taken is empty
pub none_popped : (old new : List Run) (n : ℕ) → old ≡ new ++ [] → new ≡ take (n - 1) old → n ≡ 0 → length old ≡ 0
none_popped old new n is rest none = ap length (is ∙ append-nil new ∙ rest ∙ ap (λ (k : ℕ). take (k - 1) old) none)

-- runs that were turned are given from the last one on
pub turned : (runs back : List Run) → back ≡ reverse runs → bits_back back ≡ runs_bits runs
turned runs back is = ap bits_back is ∙ ap runs_bits (reverse-reverse runs)

-- of two runs one is used up
pub fewer_runs : (n a b left left_new right right_new : ℕ) → n ≡ min a b → (n ≡ a → left_new ≡ left) → (n ≡ b → right_new ≡ right) → left_new ≤ left + 1
    → right_new ≤ right + 1 → left_new + right_new ≤ left + right + 1
fewer_runs n a b left left_new right right_new is all_left all_right one_left one_right = by (cases_lt a b)
  where
    by : (a < b) ⊎ (b ≤ a) → left_new + right_new ≤ left + right + 1
    by (inl less) = let same : left_new ≡ left = all_left (is ∙ min-eq_left (omega (arith, less))) in omega (arith, same, one_right)
    by (inr more) = let same : right_new ≡ right = all_right (is ∙ min-eq_right more) in omega (arith, same, one_left)
