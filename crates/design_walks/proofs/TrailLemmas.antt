-- The bits read along the next bits are those of the walk.
use Rattle.std.proofs.Common.{◌≡◌, ℕ, zero, suc, ◌+◌, ◌<◌, ◌≤◌, List, [], ◌∷◌, ◌++◌, length, get_or, take, Option, Some, None, option_map, option_and_then, slice_get, refl, sym, ap, ◌∙◌, arith}
use Rattle.std.proofs.lemmas.List.{map-append, take_more}
use Rattle.std.proofs.lemmas.Option.{slice_get-get_or, slice_get-map}
use Rattle.pw_defs.specs.declared.design.Bit.{Bit}
use Rattle.pw_defs.specs.declared.design.Feeder.{Feeder}
use Rattle.design_defs.specs.Walks.{IsWalk, feeder_at, next_of}
use Rattle.design_defs.proofs.WalkEnds.{there_within}
use Rattle.design_walks.specs.Trails.{next_at, next_bits, trail, trail_behind}

pub trail_none : (next : List (Option ℕ)) (most n : ℕ) → most ≡ 0 → trail next most n ≡ []
unfolding trail
trail_none next zero n none = refl
trail_none next (suc most) n none = absurd (omega arith)

pub trail_last : (next : List (Option ℕ)) (most n : ℕ) → 0 < most → next_at next n ≡ None → trail next most n ≡ n ∷ []
unfolding trail
trail_last next zero n some last = absurd (omega arith)
trail_last next (suc most) n some last = ap (λ o. n ∷ trail_behind (trail next most) o) last

pub trail_on : (next : List (Option ℕ)) (most less n m : ℕ) → most ≡ less + 1 → next_at next n ≡ Some m → trail next most n ≡ n ∷ trail next less m
unfolding trail
trail_on next zero less n m more on = absurd (omega arith)
trail_on next (suc most) less n m more on =
    let same : most ≡ less = omega arith in
    ap (λ o. n ∷ trail_behind (trail next most) o) on ∙ ap (λ k. n ∷ trail next k m) same

-- the next bits are those of the feeders
pub next_bits_at : (bits : List Bit) (n : ℕ) → next_at (next_bits bits) n ≡ option_and_then next_of (feeder_at bits n)
next_bits_at bits n = ap (option_and_then (λ next. next)) (slice_get-map (λ (b : Bit). next_of b.feeder) bits n) ∙ by (slice_get bits n)
  where
    by : (o : Option Bit) → option_and_then (λ next. next) (option_map (λ (b : Bit). next_of b.feeder) o) ≡ option_and_then next_of (option_map (λ (b : Bit). b.feeder) o)
    by None = refl
    by (Some b) = refl

next_there : (bits : List Bit) (n : ℕ) (f : Feeder) → feeder_at bits n ≡ Some f → next_at (next_bits bits) n ≡ next_of f
next_there bits n f e = next_bits_at bits n ∙ ap (option_and_then next_of) e

-- the bits read along the next bits are those that the walk passes
pub trail_passed : (bits : List Bit) (most n : ℕ) (passed : List ℕ) (end : Feeder) → IsWalk bits n passed end → length passed ≤ most
    → trail (next_bits bits) most n ≡ passed
trail_passed bits most _ _ _ (IsWalk.ends n end e none) fits = trail_last (next_bits bits) most n (omega arith) (next_there bits n end e ∙ none)
trail_passed bits zero _ _ _ (IsWalk.goes n next f end rest e more walk) fits = absurd (omega arith)
trail_passed bits (suc most) _ _ _ (IsWalk.goes n next f end rest e more walk) fits =
    let on = next_there bits n f e ∙ more in
    trail_on (next_bits bits) (suc most) most n next (omega arith) on ∙ ap (λ xs. n ∷ xs) (trail_passed bits most next rest end walk (omega arith))

-- the next bits of one bit more
pub next_bits_more : (bits : List Bit) (n : ℕ) (next : Option ℕ) → n < length bits → option_and_then next_of (feeder_at bits n) ≡ next
    → next_bits (take (n + 1) bits) ≡ next_bits (take n bits) ++ next ∷ []
next_bits_more bits n next within is =
    let d = (there_within bits n within).0 in
    let read : option_and_then next_of (feeder_at bits n) ≡ next_of (get_or bits n d).feeder =
    ap (λ o. option_and_then next_of (option_map (λ (b : Bit). b.feeder) o)) (slice_get-get_or bits n d within) in
    ap next_bits (take_more bits n d within)
    ∙ map-append (λ (b : Bit). next_of b.feeder) (take n bits) (get_or bits n d ∷ [])
    ∙ ap (λ o. next_bits (take n bits) ++ o ∷ []) (sym read ∙ is)
