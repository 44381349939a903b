use Rattle.std.proofs.Common.{◌≡◌, ◌++◌, take}
use Rattle.std.specs.List.{flat_map}
use Rattle.signoff_defs.specs.ReportText.{boundary_text}
use Rattle.witness_report.proofs.put_boundaries.Given as goal

-- the lines of the boundaries so far
abbrev pub invariant-loop-boundary : goal.invariant-loop-boundary
invariant-loop-boundary l = l.text ≡ l.fn.text ++ flat_map boundary_text (take l.boundary-index l.boundaries)
