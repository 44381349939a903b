use Rattle.std.proofs.Common.{◌+◌, ◌≤◌, length}
use Rattle.pw_defs.specs.declared.cells.Dir.TheVariants.{Input}
use Rattle.net_runs.specs.Leaves.{runs_bits}
use Rattle.net_links.specs.LocalLinks.{locals}
use Rattle.net_links.specs.RunLinks.{AreFew}
use Rattle.net_links.proofs.RunLemmas.{IsPutTo}
use Rattle.net_links.proofs.pieces.put_inputs.Given as goal

abbrev pub invariant-loop-run : goal.invariant-loop-run
invariant-loop-run l =
    AreFew (runs_bits l.runs) → l.first + length (runs_bits l.runs) ≤ 4294967295
    → IsPutTo Input l.inst.number l.inst.line l.first l.runs l.run-index l.bit (locals l.initial.rows) (locals l.rows)
