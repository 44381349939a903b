-- A reader that gave one byte more than the longest file has holds a file that is too long.
use Rattle.std.proofs.Common.{◌≡◌, ◌<◌, ◌∙◌, ℕ, List, Option, None, Some, IfSome, length, take, sym, ap, arith, length-append, vec_len}
use Rattle.std.proofs.lemmas.List.{take_at}
use Rattle.std.specs.Io.KnownBytes.{Consumes}
use Rattle.pw_outer.proofs.folders.read_whole.Goals as goal

one_above : (known left : Option (List ℕ)) (got : List ℕ) → Consumes known left got → length got ≡ 67108865 → IfSome known (λ bytes. (got ≡ take 67108865 bytes) × (67108864 < length bytes))
one_above None left got consumed full = tt
one_above (Some bytes) None got consumed full = absurd consumed
one_above (Some bytes) (Some rest) got consumed full =
    (sym (take_at got rest 67108865 full) ∙ ap (take 67108865) (sym consumed), omega (arith, full, ap length consumed, length-append got rest))

pub returns-clause-told : goal.returns-clause-told
returns-clause-told g c =
    let full : vec_len c.loop-buffer.into ≡ 67108865 = omega arith in
    one_above _ _ c.loop-buffer.into.items c.loop-buffer.invariant.1 (sym c.loop-buffer.into.ok.0 ∙ full)
