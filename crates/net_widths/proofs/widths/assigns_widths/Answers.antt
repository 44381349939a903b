use Rattle.std.proofs.Common.{◌<◌, length, arith}
use Rattle.module_rows.specs.Reads.{module_at, no_assign}
use Rattle.net_widths.specs.Refusals.{widths_of_assign}
use Rattle.net_widths.proofs.Steps.{all_finds, step_finds}
use Rattle.net_widths.proofs.widths.assigns_widths.Goals as goal

pub loop-assign-preserved : goal.loop-assign-preserved
loop-assign-preserved c s opened =
    let n = c.args.spellings.now.modules.now in
    let m = module_at n c.args.holder in
    let k = c.loop-assign.assign in
    let within : k < length m.assigns = omega (arith, c.loop-assign-test.true, c.module-assign-end.ensures.assigns) in
    step_finds n.symbols (widths_of_assign m) m.assigns k no_assign c.args.best c.loop-assign.least c.in_ok-least.least within (c.loop-assign.invariant s opened)
    (c.in_ok-least.ensures s opened)

pub returns : goal.returns
returns c s opened =
    let n = c.args.spellings.now.modules.now in
    let m = module_at n c.args.holder in
    all_finds n.symbols (widths_of_assign m) m.assigns c.loop-assign.assign c.args.best c.loop-assign.least (omega (arith, c.loop-assign-test.false, c.module-assign-end.ensures.assigns))
    (c.loop-assign.invariant s opened)
