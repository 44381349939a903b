use Rattle.std.proofs.Common.{◌≡◌, ◌<◌, ◌≤◌, ◌⊎◌, inl, inr, ℕ, None, subst, arith}
use Rattle.std.proofs.lemmas.Bool.{cases_lt}
use Rattle.net_loops.specs.Lines.{IsFirst, lines_at}
use Rattle.net_loops.proofs.lines.first_line.Goals as goal

pub loop-inst-preserved : goal.loop-inst-preserved
loop-inst-preserved c inst within = by (cases_lt inst c.loop-inst.inst)
  where
    by : (inst < c.loop-inst.inst) ⊎ (c.loop-inst.inst ≤ inst) → IsFirst c.args.marks.now (lines_at c.args.placed.now c.args.links.now c.args.inner.now inst) None
    by (inl early) = c.loop-inst.invariant inst early
    by (inr late) =
        let same : c.loop-inst.inst ≡ inst = omega (arith, within, late) in
        let none = subst (IsFirst c.args.marks.now (lines_at c.args.placed.now c.args.links.now c.args.inner.now c.loop-inst.inst)) c.in-None.is c.in_ok-first.ensures in
        subst (λ (n : ℕ). IsFirst c.args.marks.now (lines_at c.args.placed.now c.args.links.now c.args.inner.now n) None) same none

pub returns : goal.returns
returns c inst within = c.loop-inst.invariant inst (omega (arith, within, c.loop-inst-test.false, c.len-inst-end.ensures))
