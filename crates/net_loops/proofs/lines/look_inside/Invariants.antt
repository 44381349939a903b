use Rattle.std.specs.List.{flat_map, range_with_len}
use Rattle.net_loops.specs.Lines.{FindsFirst, line_of_bit}
use Rattle.net_loops.proofs.lines.look_inside.Given as goal

abbrev pub invariant-loop-place : goal.invariant-loop-place
invariant-loop-place l = FindsFirst l.marks (flat_map (line_of_bit l.inner l.line l.row) (range_with_len 0 l.place)) l.initial.found l.found
