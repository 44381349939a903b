use Rattle.std.proofs.Common.{◌≡◌, ◌+◌, ◌-◌, ◌≤◌, length}
use Rattle.line_forms.specs.Reading.{many_in, many_at, with_front}
use Rattle.line_forms.proofs.text.read_more.Given as goal

abbrev pub invariant-loop-alloc : goal.invariant-loop-alloc
invariant-loop-alloc g l =
    (length l.rest + length l.all ≤ length l.text + length l.fn.read)
    × (with_front l.all (many_in (length l.text + length l.fn.read - length l.all) g.T.Form.goes_on g.T.Form.read_at l.rest) ≡ with_front l.fn.read (many_at g.T.Form.goes_on g.T.Form.read_at l.text))

abbrev pub decreases-loop-alloc : goal.decreases-loop-alloc
decreases-loop-alloc g l = length l.rest
