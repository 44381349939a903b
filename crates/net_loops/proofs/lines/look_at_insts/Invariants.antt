use Rattle.std.specs.List.{flat_map, range_with_len}
use Rattle.net_loops.specs.Lines.{FindsFirst, lines_of_inst}
use Rattle.net_loops.proofs.lines.look_at_insts.Given as goal

abbrev pub invariant-loop-line : goal.invariant-loop-line
invariant-loop-line l = FindsFirst l.marks (flat_map (lines_of_inst l.placed l.inner l.inst l.holder) (range_with_len 0 l.line)) l.initial.found l.found
