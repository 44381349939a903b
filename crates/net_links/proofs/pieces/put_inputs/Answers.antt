use Rattle.std.proofs.Common.{arith, ◌∙◌}
use Rattle.pw_defs.specs.declared.cells.Dir.TheVariants.{Input}
use Rattle.net_links.specs.LocalLinks.{locals}
use Rattle.net_links.proofs.RunLemmas.{not_cut, put_more}
use Rattle.net_links.proofs.pieces.put_inputs.Goals as goal
use Rattle.net_runs.proofs.RunLemmas.{run_length}

pub loop-run-preserved : goal.loop-run-preserved
loop-run-preserved c few fits =
    let l = c.loop-run in
    put_more Input c.args.inst.number c.args.inst.line c.args.first l.bit c.saturating_add-bit.result c.args.runs.now l.run-index _ (locals c.args.rows.now) (locals l.rows)
    (locals c.put_in.new.rows) (omega (arith, c.loop-run-test.true)) few fits (l.invariant few fits) c.in_ok-put_in.ensures
    (λ inside. not_cut l.bit c.count.result _ c.saturating_add-bit.result c.saturating_add-bit.ensures (c.count.ensures ∙ run_length _) inside)
