-- Where a walk ends, step by step.
use Rattle.std.proofs.Common.{◌≡◌, ℕ, zero, suc, ◌<◌, ◌≤◌, ◌⊎◌, inl, inr, List, [], ◌∷◌, length, replicate, get_or, Option, Some, None, option_map, option_and_then, slice_get, slice_set, refl, sym, ap, ◌∙◌, subst, arith}
use Rattle.std.proofs.lemmas.List.{length-map}
use Rattle.std.proofs.lemmas.Option.{get_or_from_slice_get}
use Rattle.pw_defs.specs.declared.design.Bit.{Bit}
use Rattle.pw_defs.specs.declared.design.Feeder.{Feeder}
use Rattle.pw_defs.specs.declared.design.PortBit.{PortBit}
use Rattle.design_defs.specs.Walks.{IsWalk, WalksEnd, feeder_at, next_of}
use Rattle.design_defs.proofs.WalkEnds.{there_within}
use Rattle.design_defs.proofs.Walking.{is_bit, length_walk, next_is_bit}
use Rattle.design_walks.specs.Ends.{AreEnds, EndsAt}
use Rattle.design_walks.specs.Trails.{next_bits, trail}
use Rattle.design_walks.proofs.TrailLemmas.{trail_passed}

-- the bit at which a walk goes on behind a bit
abbrev pub next_in : List Bit → ℕ → Option ℕ
next_in bits n = option_and_then next_of (feeder_at bits n)

feeder_of_next : (bits : List Bit) (n next : ℕ) → next_in bits n ≡ Some next → (f : Feeder) × (feeder_at bits n ≡ Some f) × (next_of f ≡ Some next)
feeder_of_next bits n next on = by (feeder_at bits n) refl on
  where
    by : (o : Option Feeder) → feeder_at bits n ≡ o → option_and_then next_of o ≡ Some next → (f : Feeder) × (feeder_at bits n ≡ Some f) × (next_of f ≡ Some next)
    by None e h = cc
    by (Some f) e h = (f, e, h)

-- a walk goes on at a bit that there is
pub next_within : (bits : List Bit) → WalksEnd bits → (n next : ℕ) → next_in bits n ≡ Some next → next < length bits
next_within bits walks n next on =
    let f = feeder_of_next bits n next on in
    next_is_bit bits walks n next f.0 f.1 f.2

-- a walk and the bit before it
pub walk_before : (bits : List Bit) (n next : ℕ) (rest : List ℕ) (end : Feeder) → next_in bits n ≡ Some next → IsWalk bits next rest end
    → IsWalk bits n (n ∷ rest) end
walk_before bits n next rest end on walk =
    let f = feeder_of_next bits n next on in
    IsWalk.goes n next f.0 end rest f.1 f.2 walk

-- a walk passes at least one bit
pub passes_one : (bits : List Bit) (n : ℕ) (passed : List ℕ) (end : Feeder) → IsWalk bits n passed end → 0 < length passed
passes_one bits _ _ _ (IsWalk.ends n end e none) = omega arith
passes_one bits _ _ _ (IsWalk.goes n next f end rest e more walk) = omega arith

-- a walk that doesn't go on ends here
pub ends_here : (bits : List Bit) (n : ℕ) → next_in bits n ≡ None → EndsAt bits n n
ends_here bits n none = λ passed end walk. by passed end n refl walk
  where
    by : (passed : List ℕ) (end : Feeder) (m : ℕ) → n ≡ m → IsWalk bits m passed end → feeder_at bits n ≡ Some end
    by _ _ _ same (IsWalk.ends m end e stop) = ap (feeder_at bits) same ∙ e
    by _ _ _ same (IsWalk.goes m next f end rest e more walk) =
        let on : next_in bits n ≡ Some next = ap (next_in bits) same ∙ ap (option_and_then next_of) e ∙ more in
        cc

-- the walk from the next bit ends where that from the bit does
pub ends_on : (bits : List Bit) (n next last : ℕ) → next_in bits n ≡ Some next → EndsAt bits n last → EndsAt bits next last
ends_on bits n next last on ends = λ passed end walk. ends (n ∷ passed) end (walk_before bits n next passed end on walk)

-- and the other way round
pub ends_back : (bits : List Bit) (n next last : ℕ) → next_in bits n ≡ Some next → EndsAt bits next last → EndsAt bits n last
ends_back bits n next last on ends = λ passed end walk. by passed end n refl walk
  where
    by : (passed : List ℕ) (end : Feeder) (m : ℕ) → n ≡ m → IsWalk bits m passed end → feeder_at bits last ≡ Some end
    by _ _ _ same (IsWalk.ends m end e stop) =
        let none : next_in bits n ≡ None = ap (next_in bits) same ∙ ap (option_and_then next_of) e ∙ stop in
        cc
    by _ _ _ same (IsWalk.goes m next' f end rest e more walk) =
        let on' : next_in bits n ≡ Some next' = ap (next_in bits) same ∙ ap (option_and_then next_of) e ∙ more in
        let one : next' ≡ next = cc in
        ends rest end (subst (λ k. IsWalk bits k rest end) one walk)

-- what stands in a list in which one was set
set_get : {X : Type 0} (xs : List X) (i k : ℕ) (x y : X) → slice_get (slice_set xs i x) k ≡ Some y → ((k ≡ i) × (x ≡ y)) ⊎ (slice_get xs k ≡ Some y)
set_get [] i k x y there = inr there
set_get (z ∷ xs) zero zero x y there = inl (refl, cc)
set_get (z ∷ xs) zero (suc k) x y there = inr there
set_get (z ∷ xs) (suc i) zero x y there = inr there
set_get (z ∷ xs) (suc i) (suc k) x y there =
    elim (set_get xs i k x y there) [
      | inl here ↦ inl (ap suc here.0, here.1)
      | inr other ↦ inr other
    ]

length_set : {X : Type 0} (xs : List X) (i : ℕ) (x : X) → length (slice_set xs i x) ≡ length xs
length_set [] i x = refl
length_set (z ∷ xs) zero x = refl
length_set (z ∷ xs) (suc i) x = ap suc (length_set xs i x)

-- one more end is known
pub ends_set : (bits : List Bit) (ends : List (Option ℕ)) (n last : ℕ) → AreEnds bits ends → EndsAt bits n last
    → AreEnds bits (slice_set ends n (Some last))
ends_set bits ends n last known here = record {
  all = length_set ends n (Some last) ∙ known.all;
  each = λ k other there.
      elim (set_get ends n k (Some last) (Some other) there) [
        | inl new ↦
            (let one : last ≡ other = cc in
            subst (λ m. EndsAt bits m other) (sym new.0) (subst (EndsAt bits n) one here))
        | inr old ↦ known.each k other old
      ];
}

-- at first no end is known
pub no_ends : (bits : List Bit) (count : ℕ) → count ≡ length bits → AreEnds bits (replicate count None)
no_ends bits count all = record { all = long count ∙ all; each = λ n last there. absurd (none count n last there) }
  where
    long : (k : ℕ) → length (replicate k (let o : Option ℕ = None in o)) ≡ k
    long zero = refl
    long (suc k) = ap suc (long k)

    none : (k n last : ℕ) → slice_get (replicate k (let o : Option ℕ = None in o)) n ≡ Some (Some last) → ⊥
    none zero n last there = cc
    none (suc k) zero last there = cc
    none (suc k) (suc n) last there = none k n last there

-- the last bit of a walk is one of the bits
pub last_within : (bits : List Bit) → WalksEnd bits → (n last : ℕ) → n < length bits → EndsAt bits n last → last < length bits
last_within bits walks n last within ends =
    let walk = walks n within in
    is_bit bits last walk.1 (ends walk.0 walk.1 walk.2)

length_nexts : (bits : List Bit) → length (next_bits bits) ≡ length bits
length_nexts bits = length-map bits (λ (b : Bit). next_of b.feeder)

-- the walk from a bit, read along the next bits, and ended by what feeds its last bit
pub whole_walk : (bits : List Bit) → WalksEnd bits → (n last : ℕ) (end : Feeder) → n < length bits → EndsAt bits n last → feeder_at bits last ≡ Some end
    → IsWalk bits n (trail (next_bits bits) (length (next_bits bits)) n) end
whole_walk bits walks n last end within ends fed =
    let walk = walks n within in
    let same : walk.1 ≡ end = (let there = ends walk.0 walk.1 walk.2 in cc) in
    let fits : length walk.0 ≤ length (next_bits bits) = omega (arith, length_walk bits n walk.0 walk.1 walk.2, length_nexts bits) in
    let passed = trail_passed bits (length (next_bits bits)) n walk.0 walk.1 walk.2 fits in
    subst (λ p. IsWalk bits n p end) (sym passed) (subst (IsWalk bits n walk.0) same walk.2)

-- the bit whose port was read
pub port_read : (bits : List Bit) (n : ℕ) (port : Option PortBit) → n < length bits → option_map (λ (b : Bit). b.port) (slice_get bits n) ≡ Some port
    → (b : Bit) × (b ≡ get_or bits n b) × (b.port ≡ port)
port_read bits n port within read =
    let bit = there_within bits n within in
    let there : bit.0 ≡ get_or bits n bit.0 = sym (get_or_from_slice_get bits n bit.0 bit.0 bit.1) in
    let is : Some bit.0.port ≡ Some port = sym (ap (option_map (λ (b : Bit). b.port)) bit.1) ∙ read in
    let one : bit.0.port ≡ port = cc in
    (bit.0, there, one)
