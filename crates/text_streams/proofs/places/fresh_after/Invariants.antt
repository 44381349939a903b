use Rattle.std.proofs.Common.{◌≡◌, drop}
use Rattle.text_streams.specs.Places.{fresh_after}
use Rattle.text_streams.proofs.places.fresh_after.Given as goal

abbrev pub invariant-loop-byte : goal.invariant-loop-byte
invariant-loop-byte l = fresh_after l.fresh (drop l.byte-index l.bytes) ≡ fresh_after l.fn.fresh l.bytes
