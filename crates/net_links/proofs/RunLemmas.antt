-- Rows that runs of bits make, and the links that are in them.
use Rattle.std.proofs.Common.{◌≡◌, ℕ, zero, suc, ◌+◌, ◌-◌, ◌^◌, ◌<◌, ◌≤◌, min, List, [], ◌∷◌, ◌++◌, length, get_or, map, take, drop, refl, sym, ap, ◌∙◌, arith, append_assoc}
use Rattle.std.specs.Prelude.{Option, Some, None}
use Rattle.std.specs.List.{enumerate_from, filter_map, range_with_len, zip}
use Rattle.std.proofs.Math.Nat.{min-eq_left}
use Rattle.std.proofs.lemmas.Grind.{flat_map-append}
use Rattle.std.proofs.lemmas.List.{length-append, map-append, take-append-drop}
use Rattle.std.proofs.lemmas.List.Elements.{filter_map-append}
use Rattle.pw_defs.specs.declared.cells.Dir.{Dir}
use Rattle.pw_defs.specs.declared.cells.Dir.TheVariants.{Input, Output}
use Rattle.net_places.proofs.Steps.{flat_more}
use Rattle.net_runs.specs.declared.runs.Run.{Run}
use Rattle.net_runs.specs.declared.runs.Run.TheVariants.{Bits, Constants}
use Rattle.net_runs.specs.Leaves.{runs_bits}
use Rattle.net_runs.specs.LocalNumbers.{run_bits, count_of}
use Rattle.net_runs.proofs.RunLemmas.{run_length}
use Rattle.net_links.specs.declared.rows.LinkEnd.TheVariants.{Own, Child}
use Rattle.net_links.specs.LocalLinks.{LocalLink, end_after, links_of_row}
use Rattle.net_links.specs.RunLinks.{AreFew, AreFewOwn, IsFewBit, IsNarrow, IsNarrowEnd, end_of_run, local_in, local_out, locals_of_port, own_end, row_in, row_out}
use Rattle.list_defs.proofs.Rising.{each_front, each_behind}

-- LISTS of numbers, and what is made from them
-- what is made from numbers of things that are made from numbers
numbered : {X Y : Type 0} (f : ℕ × X → Y) (g : ℕ → X) (h : ℕ → Y) (p : ℕ) → ((k : ℕ) → f (p + k, g k) ≡ h k) → (a e n : ℕ) → e ≡ p + a
    → map f (enumerate_from e (map g (range_with_len a n))) ≡ map h (range_with_len a n)
numbered f g h p each a e zero same = refl
numbered f g h p each a e (suc n) same =
    let first : f (e, g a) ≡ h a = ap (λ (k : ℕ). f (k, g a)) same ∙ each a in
    ap (λ y. y ∷ map f (enumerate_from (e + 1) (map g (range_with_len (a + 1) n)))) first
    ∙ ap (λ ys. h a ∷ ys) (numbered f g h p each (a + 1) (e + 1) n (omega arith))

numbered_if : {X Y : Type 0} (f : ℕ × X → Option Y) (g : ℕ → X) (h : ℕ → Y) (p : ℕ) → ((k : ℕ) → f (p + k, g k) ≡ Some (h k)) → (a e n : ℕ) → e ≡ p + a
    → filter_map f (enumerate_from e (map g (range_with_len a n))) ≡ map h (range_with_len a n)
numbered_if {X} {Y} f g h p each a e zero same = refl
numbered_if {X} {Y} f g h p each a e (suc n) same =
    let first : f (e, g a) ≡ Some (h a) = ap (λ (k : ℕ). f (k, g a)) same ∙ each a in
    rw first (ap (λ ys. h a ∷ ys) (numbered_if f g h p each (a + 1) (e + 1) n (omega arith)))

numbered_none : {X Y : Type 0} (f : ℕ × X → Option Y) (g : ℕ → X) → ((e k : ℕ) → f (e, g k) ≡ None) → (a e n : ℕ)
    → filter_map f (enumerate_from e (map g (range_with_len a n))) ≡ []
numbered_none f g each a e zero = refl
numbered_none f g each a e (suc n) = rw (each e a) (numbered_none f g each (a + 1) (e + 1) n)

-- the same numbers from another one on
pub shifted : {X : Type 0} (f g : ℕ → X) (a b n : ℕ) → ((i j : ℕ) → i + b ≡ j + a → f i ≡ g j) → map f (range_with_len a n) ≡ map g (range_with_len b n)
shifted f g a b zero same = refl
shifted f g a b (suc n) same =
    ap (λ y. y ∷ map f (range_with_len (a + 1) n)) (same a b (omega arith))
    ∙ ap (λ ys. g b ∷ ys) (shifted f g (a + 1) (b + 1) n (λ i j e. same i j (omega arith)))

pub drop_range : (a n k : ℕ) → k ≤ n → drop k (range_with_len a n) ≡ range_with_len (a + k) (n - k)
drop_range a n zero within =
    let start : a ≡ a + 0 = omega arith in
    let count : n ≡ n - 0 = omega arith in
    ap (λ (b : ℕ). range_with_len b n) start ∙ ap (λ (m : ℕ). range_with_len (a + 0) m) count
drop_range a zero (suc k) within = absurd (omega arith)
drop_range a (suc n) (suc k) within =
    let start : a + 1 + k ≡ a + suc k = omega arith in
    let count : n - k ≡ suc n - suc k = omega arith in
    drop_range (a + 1) n k (omega arith) ∙ ap (λ (b : ℕ). range_with_len b (n - k)) start ∙ ap (λ (m : ℕ). range_with_len (a + suc k) m) count

enumerate_append : {X : Type 0} (e : ℕ) (xs ys : List X) → enumerate_from e (xs ++ ys) ≡ enumerate_from e xs ++ enumerate_from (e + length xs) ys
enumerate_append e [] ys = let same : e ≡ e + 0 = omega arith in ap (λ (k : ℕ). enumerate_from k ys) same
enumerate_append e (x ∷ xs) ys =
    let same : e + 1 + length xs ≡ e + length (x ∷ xs) = omega arith in
    ap (λ rest. (e, x) ∷ rest) (enumerate_append (e + 1) xs ys ∙ ap (λ (k : ℕ). enumerate_from (e + 1) xs ++ enumerate_from k ys) same)

pub zip_append : {X Y : Type 0} (xs us : List X) (ys vs : List Y) → length xs ≡ length ys → zip (xs ++ us) (ys ++ vs) ≡ zip xs ys ++ zip us vs
zip_append [] us [] vs same = refl
zip_append [] us (y ∷ ys) vs same = absurd (omega (arith, same))
zip_append (x ∷ xs) us [] vs same = absurd (omega (arith, same))
zip_append (x ∷ xs) us (y ∷ ys) vs same = ap (λ rest. (x, y) ∷ rest) (zip_append xs us ys vs (omega (arith, same)))

pub zipped : {X Y Z : Type 0} (f : X × Y → Z) (g : ℕ → X) (h : ℕ → Y) (q : ℕ → Z) → ((k : ℕ) → f (g k, h k) ≡ q k) → (a n : ℕ)
    → map f (zip (map g (range_with_len a n)) (map h (range_with_len a n))) ≡ map q (range_with_len a n)
zipped f g h q each a zero = refl
zipped f g h q each a (suc n) =
    ap (λ z. z ∷ map f (zip (map g (range_with_len (a + 1) n)) (map h (range_with_len (a + 1) n)))) (each a) ∙ ap (λ zs. q a ∷ zs) (zipped f g h q each (a + 1) n)

-- RUNS
-- a bit of a run
abbrev pub bit_at : Run → ℕ → Option ℕ
bit_at (Bits first count) k = Some (first + k)
bit_at (Constants count) k = None

pub run_is : (run : Run) → run_bits run ≡ map (bit_at run) (range_with_len 0 (count_of run))
run_is (Bits first count) = refl
run_is (Constants count) = refl

pub end_is : (run : Run) (k : ℕ) → own_end (bit_at run k) ≡ end_after (end_of_run run) k
end_is (Bits first count) k = refl
end_is (Constants count) k = refl

pub few_of_own : (xs : List (Option ℕ)) → AreFewOwn xs → AreFew xs
few_of_own [] few = tt
few_of_own (None ∷ xs) few = absurd few.0
few_of_own (Some k ∷ xs) few = (few.0, few_of_own xs few.1)

-- the last of bits with numbers one behind another
few_last : (first a n : ℕ) → AreFew (map (λ k. Some (first + k)) (range_with_len a n)) → 0 < n → first + a + n ≤ 4294967295
few_last first a zero few some = absurd (omega arith)
few_last first a (suc zero) few some = let last : first + a < 4294967295 = few.0 in omega arith
few_last first a (suc (suc n)) few some = let rest : first + (a + 1) + suc n ≤ 4294967295 = few_last first (a + 1) (suc n) few.1 (omega arith) in omega arith

pub few_run : (first count : ℕ) → AreFew (run_bits (Bits first count)) → 0 < count → first + count ≤ 4294967295
few_run first count few some = let all : first + 0 + count ≤ 4294967295 = few_last first 0 count few some in omega arith

pub narrow_run : (run : Run) → AreFew (run_bits run) → 0 < count_of run → IsNarrowEnd (end_of_run run)
narrow_run (Bits first count) few some = let all : first + count ≤ 4294967295 = few_run first count few some in omega arith
narrow_run (Constants count) few some = tt

pub own_run : (run : Run) → AreFewOwn (run_bits run) → 0 < count_of run → count_of run ≤ 4294967295
own_run (Bits first count) few some = let all : first + count ≤ 4294967295 = few_run first count (few_of_own (run_bits (Bits first count)) few) some in omega arith
own_run (Constants zero) few some = omega arith
own_run (Constants (suc count)) few some = absurd few.0

-- ROWS of ports
pub in_narrow : (inst line bit : ℕ) (run : Run) → AreFew (run_bits run) → bit + count_of run ≤ 4294967295 → 0 < count_of run → IsNarrow (row_in inst line bit run)
in_narrow inst line bit run few fits some = record { fed = omega arith; source = narrow_run run few some; count = omega arith }

pub out_narrow : (inst line bit first count : ℕ) → AreFew (run_bits (Bits first count)) → bit + count ≤ 4294967295 → 0 < count → IsNarrow (row_out inst line bit first count)
out_narrow inst line bit first count few fits some = record { fed = narrow_run (Bits first count) few some; source = omega arith; count = omega arith }

pub in_links : (inst line bit : ℕ) (run : Run) → links_of_row (row_in inst line bit run) ≡ locals_of_port Input inst line bit (run_bits run)
in_links inst line bit run =
    sym (ap (λ bits. map (local_in inst line) (enumerate_from bit bits)) (run_is run)
    ∙ numbered (local_in inst line) (bit_at run) (λ k. record { fed = end_after (Child inst bit) k; source = end_after (end_of_run run) k; line = line }) bit each 0 bit (count_of run) (omega arith))
  where
    each : (k : ℕ) → local_in inst line (bit + k, bit_at run k) ≡ record { fed = end_after (Child inst bit) k; source = end_after (end_of_run run) k; line = line }
    each k = ap (λ source. record { fed = end_after (Child inst bit) k; source = source; line = line }) (end_is run k)

pub out_links : (inst line bit first count : ℕ) → links_of_row (row_out inst line bit first count) ≡ locals_of_port Output inst line bit (run_bits (Bits first count))
out_links inst line bit first count =
    sym (numbered_if (local_out inst line) (λ k. Some (first + k)) (λ k. record { fed = end_after (Own first) k; source = end_after (Child inst bit) k; line = line }) bit (λ k. refl)
    0 bit count (omega arith))

pub out_none : (inst line bit count : ℕ) → locals_of_port Output inst line bit (run_bits (Constants count)) ≡ []
out_none inst line bit count = numbered_none (local_out inst line) (λ k. None) (λ e k. refl) 0 bit count

-- RUNS one behind another
few_at : (runs : List Run) (i : ℕ) (d : Run) → i < length runs → AreFew (runs_bits runs) → AreFew (run_bits (get_or runs i d))
few_at [] i d within few = absurd (omega arith)
few_at (run ∷ runs) zero d within few = each_front IsFewBit (run_bits run) (runs_bits runs) few
few_at (run ∷ runs) (suc i) d within few = few_at runs i d (omega arith) (each_behind IsFewBit (run_bits run) (runs_bits runs) few)

front_short : (runs : List Run) (n : ℕ) → length (runs_bits (take n runs)) ≤ length (runs_bits runs)
front_short runs n =
    let whole : runs_bits runs ≡ runs_bits (take n runs) ++ runs_bits (drop n runs) = ap runs_bits (sym (take-append-drop n runs)) ∙ flat_map-append run_bits (take n runs) (drop n runs) in
    omega (arith, ap length whole, length-append (runs_bits (take n runs)) (runs_bits (drop n runs)))

one_more : (dir : Dir) (inst line first : ℕ) (front more : List (Option ℕ))
    → locals_of_port dir inst line first (front ++ more) ≡ locals_of_port dir inst line first front ++ locals_of_port dir inst line (first + length front) more
one_more Input inst line first front more =
    ap (map (local_in inst line)) (enumerate_append first front more)
    ∙ map-append (local_in inst line) (enumerate_from first front) (enumerate_from (first + length front) more)
one_more Output inst line first front more =
    ap (filter_map (local_out inst line)) (enumerate_append first front more)
    ∙ filter_map-append (local_out inst line) (enumerate_from first front) (enumerate_from (first + length front) more)

-- What is known behind some runs that are connected to a port: where the next one begins, and the links so far.
pub record IsPutTo (dir : Dir) (inst line first : ℕ) (runs : List Run) (n bit : ℕ) (old new : List LocalLink) : Type 0 where
  pub begins : bit ≡ first + length (runs_bits (take n runs))
  pub links : new ≡ old ++ locals_of_port dir inst line first (runs_bits (take n runs))

pub put_more : (dir : Dir) (inst line first bit next : ℕ) (runs : List Run) (i : ℕ) (d : Run) (old mid new : List LocalLink) → i < length runs → AreFew (runs_bits runs)
    → first + length (runs_bits runs) ≤ 4294967295 → IsPutTo dir inst line first runs i bit old mid
    → (AreFew (run_bits (get_or runs i d)) → bit + count_of (get_or runs i d) ≤ 4294967295 → new ≡ mid ++ locals_of_port dir inst line bit (run_bits (get_or runs i d)))
    → (bit + count_of (get_or runs i d) ≤ 4294967295 → next ≡ bit + count_of (get_or runs i d))
    → IsPutTo dir inst line first runs (i + 1) next old new
put_more dir inst line first bit next runs i d old mid new within few fits is put further =
    let run = get_or runs i d in
    let front = runs_bits (take i runs) in
    let whole : runs_bits (take (i + 1) runs) ≡ front ++ run_bits run = flat_more run_bits runs i d within in
    let long : length (runs_bits (take (i + 1) runs)) ≡ length front + count_of run = ap length whole ∙ length-append front (run_bits run) ∙ ap (λ (n : ℕ). length front + n) (run_length run) in
    let inside : bit + count_of run ≤ 4294967295 = omega (arith, is.begins, long, front_short runs (i + 1), fits) in
    record {
      begins = omega (arith, further inside, is.begins, long);
      links =
          put (few_at runs i d within few) inside ∙ ap (λ links. links ++ locals_of_port dir inst line bit (run_bits run)) is.links
          ∙ append_assoc old (locals_of_port dir inst line first front) (locals_of_port dir inst line bit (run_bits run))
          ∙ ap (λ (n : ℕ). old ++ (locals_of_port dir inst line first front ++ locals_of_port dir inst line n (run_bits run))) is.begins
          ∙ ap (λ links. old ++ links) (sym (one_more dir inst line first front (run_bits run)))
          ∙ ap (λ bits. old ++ locals_of_port dir inst line first bits) (sym whole);
    }

-- a sum that stays within 64 bits
pub not_cut : (a b c next : ℕ) → next ≡ min (a + b) (2 ^ 64 - 1) → b ≡ c → a + c ≤ 4294967295 → next ≡ a + c
not_cut a b c next is same fits = is ∙ min-eq_left (omega (arith, fits, same)) ∙ omega (arith, same)
