use Rattle.std.proofs.Common.{◌≡◌, ℕ, length, subst, arith}
use Rattle.std.specs.List.{flat_map, range_with_len}
use Rattle.module_rows.specs.Reads.{module_at}
use Rattle.net_loops.specs.Lines.{FindsFirst, lines_of_inst}
use Rattle.net_loops.proofs.FirstLemmas.{finds_next, finds_none}
use Rattle.net_loops.proofs.lines.look_at_insts.Goals as goal

pub loop-line-init : goal.loop-line-init
loop-line-init c = finds_none c.args.marks.now c.args.first

pub loop-line-preserved : goal.loop-line-preserved
loop-line-preserved c =
    finds_next c.args.marks.now (lines_of_inst c.args.placed.now c.args.inner.now c.args.inst c.args.holder) c.loop-line.line c.args.first c.loop-line.found c.in_ok-found.found
    c.loop-line.invariant c.in_ok-found.ensures

pub returns : goal.returns
returns c =
    let end : c.loop-line.line ≡ length (module_at c.args.placed.now.modules.now c.args.holder).insts = omega (arith, c.module-line-end.ensures.insts) in
    subst (λ (count : ℕ). FindsFirst c.args.marks.now (flat_map (lines_of_inst c.args.placed.now c.args.inner.now c.args.inst c.args.holder) (range_with_len 0 count)) c.args.first
    c.loop-line.found) end c.loop-line.invariant
