-- The frames that may still be opened, and what is done so far.
use Rattle.std.proofs.Common.{◌≡◌, ◌+◌, ◌-◌, ◌*◌, ◌≤◌, length}
use Rattle.std.specs.Prelude.{IfSome, drop}
use Rattle.pw_outer.specs.Counts.{NoneFalls}
use Rattle.script_defs.specs.ReadStatements.{readers}
use Rattle.script_defs.specs.Runs.{tasks_of}
use Rattle.script_runs.specs.Leading.{Leads, GoesOn}
use Rattle.script_runs.specs.Outcomes.{held_by}
use Rattle.script_runs.specs.Views.{tasks_at}
use Rattle.script_runs.proofs.running.+running.Given as goal

abbrev pub decreases-run_block : goal.decreases-run_block
decreases-run_block g l = 4 * l.frame.now.left + 2

abbrev pub decreases-run_openings : goal.decreases-run_openings
decreases-run_openings g l = 4 * l.frame.now.left + 1

abbrev pub decreases-run_inside : goal.decreases-run_inside
decreases-run_inside g l = 4 * l.frame.now.left

abbrev pub decreases-run_lines : goal.decreases-run_lines
decreases-run_lines g l = 4 * l.frame.left + 3

abbrev pub invariant-run_openings-loop-home : goal.invariant-run_openings-loop-home
invariant-run_openings-loop-home g l = record {
  same : g.S.Shelf.holds l.shelf ≡ g.S.Shelf.holds l.fn.shelf;
  counts : NoneFalls (g.S.Shelf.counts l.fn.shelf) (g.S.Shelf.counts l.shelf);
  design : g.L.LineSteps.design l.steps ≡ g.L.LineSteps.design l.fn.steps;
  goes_on : IfSome (g.S.Shelf.holds l.fn.shelf) (λ files. GoesOn readers (held_by files) (g.L.LineSteps.design l.fn.steps)
      l.frame (g.L.LineSteps.world l.fn.steps) (tasks_at l.openings l.openings.homes) l.frame (g.L.LineSteps.world l.steps) (tasks_at l.openings (drop l.home-index l.openings.homes)));
}

abbrev pub invariant-run_lines-loop-at : goal.invariant-run_lines-loop-at
invariant-run_lines-loop-at g l = record {
  same : g.S.Shelf.holds l.shelf ≡ g.S.Shelf.holds l.fn.shelf;
  counts : NoneFalls (g.S.Shelf.counts l.fn.shelf) (g.S.Shelf.counts l.shelf);
  design : g.L.LineSteps.design l.steps ≡ g.L.LineSteps.design l.fn.steps;
  left : l.frame.left ≡ l.fn.frame.left;
  within : l.at ≤ length l.lines;
  leads : IfSome (g.S.Shelf.holds l.fn.shelf) (λ files. Leads readers (held_by files) (g.L.LineSteps.design l.fn.steps)
      l.fn.frame (g.L.LineSteps.world l.fn.steps) (tasks_of l.lines) l.frame (g.L.LineSteps.world l.steps) (tasks_of (drop l.at l.lines)));
}

abbrev pub decreases-run_lines-loop-at : goal.decreases-run_lines-loop-at
decreases-run_lines-loop-at g l = length l.lines - l.at
