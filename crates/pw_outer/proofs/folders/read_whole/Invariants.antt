use Rattle.std.proofs.Common.{◌≤◌, ◌-◌, vec_len}
use Rattle.std.specs.Io.KnownBytes.{Consumes}
use Rattle.pw_outer.proofs.folders.read_whole.Given as goal

-- what the reader gave so far is what was appended
abbrev pub invariant-loop-buffer : goal.invariant-loop-buffer
invariant-loop-buffer g l = (vec_len l.into ≤ 67108865) × Consumes (g.F.Read.remaining l.fn.file) (g.F.Read.remaining l.file) l.into.items

abbrev pub decreases-loop-buffer : goal.decreases-loop-buffer
decreases-loop-buffer g l = 67108865 - vec_len l.into
