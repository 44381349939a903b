-- The numbers of the bits of the instances, and of the links between them.
use Rattle.std.proofs.Common.{◌≡◌, ℕ, zero, suc, ◌+◌, ◌<◌, ◌≤◌, Bool, true, false, List, [], ◌∷◌, Option, Some, None, length, slice_get, refl, sym, ap, subst, ◌∙◌, arith, length-append}
use Rattle.std.specs.Prelude.{slice_index, sum_by, if◌then◌else◌}
use Rattle.std.specs.List.{AllByRecursion, flat_map, enumerate_from}
use Rattle.std.proofs.lemmas.List.{length-map}
use Rattle.std.proofs.lemmas.List.FromFn.{length-enumerate_from}
use Rattle.std.proofs.lemmas.List.Sums.{sum_by-cons}
use Rattle.std.proofs.lemmas.Option.{none-some, same_Some}
use Rattle.design_defs.specs.Ports.{is_input}
use Rattle.form_design.specs.declared.hierarchy.Held.{Held}
use Rattle.form_design.specs.Names.{Table, dirs_of, bits_of}
use Rattle.form_design.specs.Hierarchy.{size, starts_from, number, link_of, links_under, links_at, links, bit_at, bits_at, own_bits}
use Rattle.form_design.specs.Sound.{IsJoin, IsHeldUnder, AreHeld}
use Rattle.form_design.proofs.ListLemmas.{all_map, all_flat_map, all_at}

-- STARTS

pub length-starts_from : (t : Table) (n : ℕ) (hs : List Held) → length (starts_from t n hs) ≡ length hs
length-starts_from t n [] = refl
length-starts_from t n (h ∷ hs) = ap suc (length-starts_from t (n + size t h) hs)

pub start_le : (t : Table) (n : ℕ) (hs : List Held) (k : ℕ) → slice_index (starts_from t n hs) k ≤ n + sum_by (size t) hs
start_le t n [] k = omega arith
start_le t n (h ∷ hs) zero = omega arith
start_le t n (h ∷ hs) (suc k) = omega (arith, start_le t (n + size t h) hs k, sum_by-cons (size t) h hs)

-- the bits of an instance are bits of all
pub start_of : (t : Table) (n : ℕ) (hs : List Held) (k : ℕ) (h : Held) → slice_get hs k ≡ Some h → slice_index (starts_from t n hs) k + size t h ≤ n + sum_by (size t) hs
start_of t n [] k h at = absurd (none-some h at)
start_of t n (g ∷ hs) zero h at = omega (arith, ap (size t) (same_Some g h at), sum_by-cons (size t) g hs)
start_of t n (g ∷ hs) (suc k) h at = omega (arith, start_of t (n + size t g) hs k h at, sum_by-cons (size t) g hs)

pub start_ge : (t : Table) (n : ℕ) (hs : List Held) (k : ℕ) (h : Held) → slice_get hs k ≡ Some h → n ≤ slice_index (starts_from t n hs) k
start_ge t n [] k h at = absurd (none-some h at)
start_ge t n (g ∷ hs) zero h at = omega arith
start_ge t n (g ∷ hs) (suc k) h at = omega (arith, start_ge t (n + size t g) hs k h at)

pub number_in : (t : Table) (hs : List Held) (k place : ℕ) (h : Held) → slice_get hs k ≡ Some h → place < size t h → number (starts_from t 0 hs) k place < sum_by (size t) hs
number_in t hs k place h at inside = omega (arith, start_of t 0 hs k h at)

-- LINKS

-- what holds of the link of each join holds of all links
pub links_by : (t : Table) (hs : List Held) (P : ℕ × ℕ → Type 0) → AreHeld t hs
    → ((k p : ℕ) (h parent : Held) (join : ℕ × ℕ) → slice_get hs k ≡ Some h → h.parent ≡ Some p → slice_get hs p ≡ Some parent → IsJoin t h parent join
    → P (link_of t (starts_from t 0 hs) k p h.body join))
    → AllByRecursion P (links t hs)
links_by t hs P held each =
    all_flat_map P (links_at t (starts_from t 0 hs)) 0 hs
    (λ i k h is at. by i h h.parent (subst (λ (n : ℕ). slice_get hs n ≡ Some h) (sym (same i k is)) at) refl (all_at (λ g. IsHeldUnder t hs g g.parent) hs k h held at))
  where
    same : (i k : ℕ) → i ≡ 0 + k → i ≡ k
    same i k is = omega arith

    by : (k : ℕ) (h : Held) (o : Option ℕ) → slice_get hs k ≡ Some h → h.parent ≡ o → IsHeldUnder t hs h o → AllByRecursion P (links_under t (starts_from t 0 hs) (k, h) o)
    by k h None at up is = tt
    by k h (Some p) at up is = all_map (IsJoin t h is.0) P (link_of t (starts_from t 0 hs) k p h.body) (λ join ok. each k p h is.0 join at up is.1 ok) h.joins is.2

-- the ends of a link are bits
link_in : (input : Bool) (inner outer n : ℕ) → inner < n → outer < n
    → let l : ℕ × ℕ = if input then (inner, outer) else (outer, inner) in (l.0 < n) × (l.1 < n)
link_in true inner outer n p q = (p, q)
link_in false inner outer n p q = (q, p)

pub links_in : (t : Table) (hs : List Held) → AreHeld t hs → AllByRecursion (λ (l : ℕ × ℕ). (l.0 < sum_by (size t) hs) × (l.1 < sum_by (size t) hs)) (links t hs)
links_in t hs held =
    links_by t hs (λ (l : ℕ × ℕ). (l.0 < sum_by (size t) hs) × (l.1 < sum_by (size t) hs)) held
    (λ k p h parent join at up above is. link_in (is_input (slice_get (dirs_of t h.body) join.0)) (number (starts_from t 0 hs) k join.0) (number (starts_from t 0 hs) p join.1) (sum_by (size t) hs)
    (number_in t hs k join.0 h at is.inner) (number_in t hs p join.1 parent above is.outer))

-- BITS

pub length-own_bits : (t : Table) (hs : List Held) → length (own_bits t hs) ≡ sum_by (size t) hs
length-own_bits t hs = by 0 hs
  where
    by : (n : ℕ) (gs : List Held) → length (flat_map (bits_at t) (enumerate_from n gs)) ≡ sum_by (size t) gs
    by n [] = refl
    by n (g ∷ gs) =
        let rest : length (flat_map (bits_at t) (enumerate_from (n + 1) gs)) ≡ sum_by (size t) gs = by (n + 1) gs in
        let one : length (bits_at t (n, g)) ≡ size t g = length-map (enumerate_from 0 (bits_of t g.body)) (bit_at t (n, g)) ∙ length-enumerate_from 0 (bits_of t g.body) in
        omega (arith, length-append (bits_at t (n, g)) (flat_map (bits_at t) (enumerate_from (n + 1) gs)), sum_by-cons (size t) g gs)
