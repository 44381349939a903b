-- Each call does what is to be done first, and leads to what is left.
use Rattle.std.proofs.Common.{refl, ap, ◌∙◌, arith}
use Rattle.script_defs.specs.ReadStatements.{readers}
use Rattle.script_defs.specs.Scopes.{is_modelled}
use Rattle.script_runs.specs.Steps.{load_fault}
use Rattle.script_runs.proofs.Stopping.{err_is, later_counts}
use Rattle.script_runs.proofs.RunningLemmas.{all_lines_run, block_runs, block_stops, frame_runs, lines_go_on, lines_inside_stop, lines_stop_here, map_refused, no_lines, openings_past, openings_stop, plain_runs}
use Rattle.script_runs.proofs.running.+running.Goals as goal

pub run_block-returns-in-Some-clause-runs : goal.run_block-returns-in-Some-clause-runs
run_block-returns-in-Some-clause-runs g t c =
    block_runs readers _ _ _ _ _ c.in_ok-openings.ensures.design _ _ _ _ _ c.in-Some.openings c.in-Some.is c.in_ok-openings.ensures.goes_on _ c.run_openings.ensures.runs

pub run_block-returns-in-Some-clause-stop : goal.run_block-returns-in-Some-clause-stop
run_block-returns-in-Some-clause-stop g t c =
    block_stops readers _ _ _ _ _ c.in_ok-openings.ensures.design _ _ _ _ c.in-Some.openings c.in-Some.is c.in_ok-openings.ensures.goes_on _ _ _ c.run_openings.ensures.stop

pub run_block-returns-in-None-clause-runs : goal.run_block-returns-in-None-clause-runs
run_block-returns-in-None-clause-runs g t c = plain_runs readers _ _ _ _ _ _ _ _ c.in-None.is c.in_ok-openings.ensures.goes_on

pub run_inside-returns-in_err-lines-clause-stop : goal.run_inside-returns-in_err-lines-clause-stop
run_inside-returns-in_err-lines-clause-stop g t c =
    err_is c.from_residual.result c.in_err-lines.field-0.0 _ c.from_residual.ensures.1
    (no_lines readers _ _ _ _ c.args.openings.now c.args.home.now c.is_modelled-modelled.result (c.is_modelled-modelled.ensures ∙ ap (is_modelled (g.L.LineSteps.design c.args.steps.now)) c.as_slice.ensures.bytes) _ _ c.in_err-lines.field-0.0 c.in_err-lines.ensures.stop)

pub run_inside-returns-in_err-run_lines-clause-stop : goal.run_inside-returns-in_err-run_lines-clause-stop
run_inside-returns-in_err-run_lines-clause-stop g t c =
    err_is c.from_residual-in_err-run_lines.result c.in_err-run_lines.field-0.0 _ c.from_residual-in_err-run_lines.ensures.1
    (lines_inside_stop readers _ _ _ _ c.args.openings.now c.args.home.now c.is_modelled-modelled.result (c.is_modelled-modelled.ensures ∙ ap (is_modelled (g.L.LineSteps.design c.args.steps.now)) c.as_slice.ensures.bytes) c.requires.room _ c.in_ok-lines.ensures.lines _ c.in_ok-inside.ensures
    _ c.in_ok-lines.ensures.same _ _ _ c.in_ok-lines.ensures.counts c.in_err-run_lines.field-0.0 c.in_err-run_lines.ensures.stop)

pub run_inside-returns-in_err-map_supplies-clause-stop : goal.run_inside-returns-in_err-map_supplies-clause-stop
run_inside-returns-in_err-map_supplies-clause-stop g t c =
    err_is c.from_residual-in_err-map_supplies.result (load_fault c.in_err-map_supplies.field-0.0) _ c.from_residual-in_err-map_supplies.ensures.1
    (map_refused readers _ _ _ _ c.args.openings.now c.args.home.now c.is_modelled-modelled.result (c.is_modelled-modelled.ensures ∙ ap (is_modelled (g.L.LineSteps.design c.args.steps.now)) c.as_slice.ensures.bytes) c.requires.room _ c.in_ok-lines.ensures.lines _ c.in_ok-inside.ensures
    _ c.in_ok-lines.ensures.same _ c.in_ok-run_lines.ensures.design _ c.in_ok-run_lines.ensures.runs _ _ c.in_err-map_supplies.field-0.0 _ refl c.in_err-map_supplies.ensures.stop)

pub run_inside-returns-clause-runs : goal.run_inside-returns-clause-runs
run_inside-returns-clause-runs g t c =
    frame_runs readers _ _ _ _ c.args.openings.now c.args.home.now c.is_modelled-modelled.result (c.is_modelled-modelled.ensures ∙ ap (is_modelled (g.L.LineSteps.design c.args.steps.now)) c.as_slice.ensures.bytes) c.requires.room _ c.in_ok-lines.ensures.lines _ c.in_ok-inside.ensures
    _ c.in_ok-lines.ensures.same _ c.in_ok-run_lines.ensures.design _ _ c.in_ok-run_lines.ensures.runs c.in_ok-map_supplies.ensures.mapped

pub run_lines-returns-in_err-run_block-clause-stop : goal.run_lines-returns-in_err-run_block-clause-stop
run_lines-returns-in_err-run_block-clause-stop g t c =
    err_is c.from_residual.result c.in_err-run_block.field-0.0 _ c.from_residual.ensures.1
    (lines_stop_here readers _ _ _ _ _ c.loop-at.invariant.same _ c.loop-at.invariant.design c.args.lines.now c.loop-at.at c.take_block-block.result.1
    c.take_block-block.result.0 _ _ c.take_block-block.ensures.first c.loop-at.invariant.leads _ _ _ c.loop-at.invariant.counts
    c.in_err-run_block.field-0.0 c.in_err-run_block.ensures.stop)

pub run_lines-loop-at-preserved : goal.run_lines-loop-at-preserved
run_lines-loop-at-preserved g t c = record {
  same = c.in_ok-run_block.ensures.same ∙ c.loop-at.invariant.same;
  counts = later_counts _ _ _ c.loop-at.invariant.counts c.in_ok-run_block.ensures.counts;
  design = c.in_ok-run_block.ensures.design ∙ c.loop-at.invariant.design;
  left = c.in_ok-run_block.ensures.left ∙ c.loop-at.invariant.left;
  within = c.take_block-block.ensures.within;
  leads = lines_go_on readers _ _ _ _ _ c.loop-at.invariant.same _ c.loop-at.invariant.design c.args.lines.now c.loop-at.at
      c.take_block-block.result.1 c.take_block-block.result.0 _ _ _ _ c.take_block-block.ensures.first c.loop-at.invariant.leads
      c.in_ok-run_block.ensures.runs;
}

pub run_lines-returns-clause-runs : goal.run_lines-returns-clause-runs
run_lines-returns-clause-runs g t c = all_lines_run readers _ _ _ _ c.args.lines.now c.loop-at.at _ _ (omega (arith, c.len.ensures)) c.loop-at.invariant.leads

pub run_openings-returns-in_err-run_inside-clause-stop : goal.run_openings-returns-in_err-run_inside-clause-stop
run_openings-returns-in_err-run_inside-clause-stop g t c =
    err_is c.from_residual.result c.in_err-run_inside.field-0.0 _ c.from_residual.ensures.1
    (openings_stop readers _ _ _ _ _ c.loop-home.invariant.same _ c.loop-home.invariant.design c.args.openings.now c.loop-home.home-index
    c.home-item.result _ (rw (← c.as_slice-home-items.ensures.items) c.loop-home-test.true) (rw (← c.as_slice-home-items.ensures.items) c.home-item.is) c.loop-home.invariant.goes_on _ _ _ c.loop-home.invariant.counts
    c.in_err-run_inside.field-0.0 c.in_err-run_inside.ensures.stop)

pub run_openings-loop-home-preserved : goal.run_openings-loop-home-preserved
run_openings-loop-home-preserved g t c = record {
  same = c.in_ok-run_inside.ensures.same ∙ c.loop-home.invariant.same;
  counts = later_counts _ _ _ c.loop-home.invariant.counts c.in_ok-run_inside.ensures.counts;
  design = c.in_ok-run_inside.ensures.design ∙ c.loop-home.invariant.design;
  goes_on = openings_past readers _ _ _ _ _ c.loop-home.invariant.same _ c.loop-home.invariant.design c.args.openings.now
      c.loop-home.home-index c.home-item.result _ _ (rw (← c.as_slice-home-items.ensures.items) c.loop-home-test.true) (rw (← c.as_slice-home-items.ensures.items) c.home-item.is) c.loop-home.invariant.goes_on c.in_ok-run_inside.ensures.runs;
}
