-- What one link does to bits.
use Rattle.std.proofs.Common.{◌≡◌, ℕ, zero, suc, ◌+◌, ◌<◌, ◌≤◌, ◌==◌, Bool, true, false, cond, not, ◌&&◌, ◌||◌, List, [], ◌∷◌, ◌++◌, append_assoc, Some, None, length, map, drop, slice_get, slice_set, refl, sym, ap, subst, ◌∙◌, arith, add-one, eq-eqb}
use Rattle.std.proofs.Math.Dec.{eqb-suc-zero, eqb-zero-suc, eqb-suc-suc}
use Rattle.std.proofs.Math.Seq.{drop-cons}
use Rattle.std.proofs.lemmas.Bool.{ne_eqb, false≢true, true≢false}
use Rattle.std.proofs.lemmas.List.{at_drop_all}
use Rattle.std.proofs.lemmas.Option.{slice_get_within, get_or_from_slice_get}
use Rattle.std.specs.List.{list_any, list_all, enumerate_from, find}
use Rattle.pw_defs.specs.declared.design.Bit.{Bit}
use Rattle.pw_defs.specs.declared.design.Feeder.TheVariants.{Bit as BitFeeder}
use Rattle.list_defs.specs.Members.{all_differ}
use Rattle.form_design.specs.Hierarchy.{fed, linked_bits, linked}
use Rattle.form_design.specs.Fits.{is_free, feeds_once}

-- what is left of a list from an item on
pub drop_at : {X : Type 0} (xs : List X) (i : ℕ) (x : X) → slice_get xs i ≡ Some x → drop i xs ≡ x ∷ drop (i + 1) xs
drop_at xs i x h = rw add-one (drop-cons xs i x (slice_get_within xs i x h) ∙ ap (λ y. y ∷ drop (suc i) xs) (get_or_from_slice_get xs i x x h))

-- one more item made of a numbered list goes to the end, and what is left is made after it
pub made_more : {A B : Type 0} (f : ℕ × A → B) (xs : List A) (i : ℕ) (x : A) (out new whole : List B) (y : B) → slice_get xs i ≡ Some x → y ≡ f (i, x) → new ≡ out ++ y ∷ []
    → out ++ map f (enumerate_from i (drop i xs)) ≡ whole → new ++ map f (enumerate_from (i + 1) (drop (i + 1) xs)) ≡ whole
made_more {A} {B} f xs i x out new whole y at made push before =
    let rest : List B = map f (enumerate_from (i + 1) (drop (i + 1) xs)) in
    ap (λ zs. zs ++ rest) push ∙ append_assoc out (y ∷ []) rest ∙ ap (λ z. out ++ z ∷ rest) made
    ∙ ap (λ zs. out ++ map f (enumerate_from i zs)) (sym (drop_at xs i x at)) ∙ before

-- a bit that another one feeds
abbrev pub fed_by : Bit → ℕ → Bit
fed_by b m = record { name = b.name; owner = b.owner; port = b.port; feeder = BitFeeder m }

-- the bits after the bit m feeds that at n
abbrev fed_at : List Bit → ℕ → ℕ → List Bit
fed_at [] n m = []
fed_at (b ∷ bs) zero m = fed_by b m ∷ bs
fed_at (b ∷ bs) (suc n) m = b ∷ fed_at bs n m

set_fed : (bits : List Bit) (n : ℕ) (b : Bit) (m : ℕ) → slice_get bits n ≡ Some b → slice_set bits n (fed_by b m) ≡ fed_at bits n m
set_fed [] n b m h = cc
set_fed (x ∷ xs) zero b m h = let e : x ≡ b = cc in ap (λ y. fed_by y m ∷ xs) (sym e)
set_fed (x ∷ xs) (suc n) b m h = ap (λ ys. x ∷ ys) (set_fed xs n b m h)

and_false : (b : Bool) → (not b && false) ≡ false
and_false true = refl
and_false false = refl

-- a bit that is fed is free no more, and the others are as before
free_after : (bits : List Bit) (n m k : ℕ) → is_free (slice_get (fed_at bits n m) k) ≡ (not (n == k) && is_free (slice_get bits k))
free_after [] n m k = sym (and_false (n == k))
free_after (b ∷ bs) zero m zero = refl
free_after (b ∷ bs) zero m (suc k) = rw eqb-zero-suc refl
free_after (b ∷ bs) (suc n) m zero = rw eqb-suc-zero refl
free_after (b ∷ bs) (suc n) m (suc k) = rw eqb-suc-suc (free_after bs n m k)

abbrev fed_numbers : List (ℕ × ℕ) → List ℕ
fed_numbers links = map (λ (l : ℕ × ℕ). l.0) links

abbrev all_free : List (ℕ × ℕ) → List Bit → Bool
all_free links bits = list_all (λ (l : ℕ × ℕ). is_free (slice_get bits l.0)) links

shuffle : (a b c d : Bool) → ((not a && b) && (not c && d)) ≡ (not (a || c) && (b && d))
shuffle true b c d = refl
shuffle false true c d = refl
shuffle false false true d = refl
shuffle false false false d = refl

all_free_after : (links : List (ℕ × ℕ)) (bits : List Bit) (n m : ℕ) → all_free links (fed_at bits n m) ≡ (not (list_any (λ k. n == k) (fed_numbers links)) && all_free links bits)
all_free_after [] bits n m = refl
all_free_after (l ∷ ls) bits n m =
    ap (λ b. b && all_free ls (fed_at bits n m)) (free_after bits n m l.0)
    ∙ ap (λ b. (not (n == l.0) && is_free (slice_get bits l.0)) && b) (all_free_after ls bits n m)
    ∙ shuffle (n == l.0) (is_free (slice_get bits l.0)) (list_any (λ k. n == k) (fed_numbers ls)) (all_free ls bits)

regroup : (differ any free here : Bool) → here ≡ true → (differ && (not any && free)) ≡ ((not any && differ) && (here && free))
regroup true true free here e = refl
regroup true false free here e = ap (λ b. b && free) (sym e)
regroup false true free here e = refl
regroup false false free here e = refl

once_after : (n m : ℕ) (ls : List (ℕ × ℕ)) (bits : List Bit) → is_free (slice_get bits n) ≡ true → feeds_once ls (fed_at bits n m) ≡ feeds_once ((n, m) ∷ ls) bits
once_after n m ls bits free =
    ap (λ b. all_differ ◌==◌ (fed_numbers ls) && b) (all_free_after ls bits n m)
    ∙ regroup (all_differ ◌==◌ (fed_numbers ls)) (list_any (λ k. n == k) (fed_numbers ls)) (all_free ls bits) (is_free (slice_get bits n)) free

-- no link is found that feeds a bit which no link feeds
find_none : (n : ℕ) (ls : List (ℕ × ℕ)) → list_any (λ k. n == k) (fed_numbers ls) ≡ false → find (λ (l : ℕ × ℕ). n == l.0) ls ≡ None
find_none n [] h = refl
find_none n (l ∷ ls) h = by (n == l.0) (find_none n ls) h
  where
    by : (b : Bool) → (list_any (λ k. n == k) (fed_numbers ls) ≡ false → find (λ (k : ℕ × ℕ). n == k.0) ls ≡ None)
        → (b || list_any (λ k. n == k) (fed_numbers ls)) ≡ false → cond b (Some l) (find (λ (k : ℕ × ℕ). n == k.0) ls) ≡ None
    by true rest none = absurd (true≢false none)
    by false rest none = rest none

-- a bit whose link is not this one is fed as by the others
fed_others : (o q m : ℕ) (ls : List (ℕ × ℕ)) (b : Bit) → (o == q) ≡ false → fed ((q, m) ∷ ls) (o, b) ≡ fed ls (o, b)
fed_others o q m ls b ne =
    ap (λ t. record { name = b.name; owner = b.owner; port = b.port; feeder = linked b.feeder (cond t (Some (q, m)) (find (λ (l : ℕ × ℕ). o == l.0) ls)) }) ne

-- a link to an earlier bit changes no later one
later : (o q m : ℕ) (ls : List (ℕ × ℕ)) (bs : List Bit) → q < o → map (fed ((q, m) ∷ ls)) (enumerate_from o bs) ≡ map (fed ls) (enumerate_from o bs)
later o q m ls [] lt = refl
later o q m ls (b ∷ bs) lt =
    let ne : o ≡ q → ⊥ = λ e. omega arith in
    let here : fed ((q, m) ∷ ls) (o, b) ≡ fed ls (o, b) = fed_others o q m ls b (ne_eqb o q ne) in
    let rest : map (fed ((q, m) ∷ ls)) (enumerate_from (o + 1) bs) ≡ map (fed ls) (enumerate_from (o + 1) bs) = later (o + 1) q m ls bs (omega arith) in
    cc

-- a link that feeds a bit, as the others see it
linked_from : (o p q m : ℕ) (ls : List (ℕ × ℕ)) (bits : List Bit) → q ≡ o + p → list_any (λ k. q == k) (fed_numbers ls) ≡ false
    → map (fed ls) (enumerate_from o (fed_at bits p m)) ≡ map (fed ((q, m) ∷ ls)) (enumerate_from o bits)
linked_from o p q m ls [] e none = refl
linked_from o zero q m ls (b ∷ bs) e none =
    let same : q ≡ o = omega arith in
    let rest : map (fed ((q, m) ∷ ls)) (enumerate_from (o + 1) bs) ≡ map (fed ls) (enumerate_from (o + 1) bs) = later (o + 1) q m ls bs (omega arith) in
    let found : find (λ (l : ℕ × ℕ). o == l.0) ls ≡ None = subst (λ (n : ℕ). find (λ (l : ℕ × ℕ). n == l.0) ls ≡ None) same (find_none q ls none) in
    let here : fed ls (o, fed_by b m) ≡ fed ((q, m) ∷ ls) (o, b) =
    ap (λ f. record { name = b.name; owner = b.owner; port = b.port; feeder = linked (BitFeeder m) f }) found
    ∙ ap (λ t. record { name = b.name; owner = b.owner; port = b.port; feeder = linked b.feeder (cond t (Some (q, m)) (find (λ (l : ℕ × ℕ). o == l.0) ls)) }) (sym (eq-eqb o q (sym same))) in
    cc
linked_from o (suc p) q m ls (b ∷ bs) e none =
    let ne : o ≡ q → ⊥ = λ h. omega arith in
    let here : fed ((q, m) ∷ ls) (o, b) ≡ fed ls (o, b) = fed_others o q m ls b (ne_eqb o q ne) in
    let rest : map (fed ls) (enumerate_from (o + 1) (fed_at bs p m)) ≡ map (fed ((q, m) ∷ ls)) (enumerate_from (o + 1) bs) = linked_from (o + 1) p q m ls bs (omega arith) none in
    cc

-- the first link feeds its bit once where all links do
first_once : (n m : ℕ) (ls : List (ℕ × ℕ)) (bits : List Bit) → feeds_once ((n, m) ∷ ls) bits ≡ true → list_any (λ k. n == k) (fed_numbers ls) ≡ false
first_once n m ls bits once = by (list_any (λ k. n == k) (fed_numbers ls)) (all_differ ◌==◌ (fed_numbers ls)) (all_free ((n, m) ∷ ls) bits) once
  where
    by : (any differ free : Bool) → ((not any && differ) && free) ≡ true → any ≡ false
    by true differ free h = absurd (false≢true h)
    by false differ free h = refl

-- The turn of a loop over links: the rest does to the bits with this link what it and the rest do to those before.
pub record Turns (links : List (ℕ × ℕ)) (i : ℕ) (old new : List Bit) : Type 0 where
  pub once : feeds_once (drop (i + 1) links) new ≡ feeds_once (drop i links) old
  pub same : feeds_once (drop i links) old ≡ true → linked_bits (drop (i + 1) links) new ≡ linked_bits (drop i links) old

pub link_turns : (links : List (ℕ × ℕ)) (i : ℕ) (l : ℕ × ℕ) (bits : List Bit) (b : Bit) → slice_get links i ≡ Some l → slice_get bits l.0 ≡ Some b → is_free (Some b) ≡ true
    → Turns links i bits (slice_set bits l.0 (fed_by b l.1))
link_turns links i l bits b at here free =
    let rest : List (ℕ × ℕ) = drop (i + 1) links in
    let split : drop i links ≡ l ∷ rest = drop_at links i l at in
    let set : slice_set bits l.0 (fed_by b l.1) ≡ fed_at bits l.0 l.1 = set_fed bits l.0 b l.1 here in
    let is : is_free (slice_get bits l.0) ≡ true = ap is_free here ∙ free in
    record {
      once = ap (feeds_once rest) set ∙ once_after l.0 l.1 rest bits is ∙ ap (λ ls. feeds_once ls bits) (sym split);
      same = λ once.
          ap (linked_bits rest) set
          ∙ linked_from 0 l.0 l.0 l.1 rest bits (omega arith) (first_once l.0 l.1 rest bits (ap (λ ls. feeds_once ls bits) (sym split) ∙ once))
          ∙ ap (λ ls. linked_bits ls bits) (sym split);
    }

-- no links change no bits
no_links : (o : ℕ) (bits : List Bit) → map (fed []) (enumerate_from o bits) ≡ bits
no_links o [] = refl
no_links o (b ∷ bs) = ap (λ rest. b ∷ rest) (no_links (o + 1) bs)

-- after the last link
pub links_end : (links : List (ℕ × ℕ)) (i : ℕ) (bits : List Bit) → length links ≤ i → (feeds_once (drop i links) bits ≡ true) × (linked_bits (drop i links) bits ≡ bits)
links_end links i bits past =
    (at_drop_all (λ ls. feeds_once ls bits) links i past, at_drop_all (λ ls. linked_bits ls bits) links i past ∙ no_links 0 bits)
