use Rattle.std.proofs.Common.{ℕ, arith}
use Rattle.design_defs.specs.Inputs.{IsReadModule}
use Rattle.module_rows.specs.Reads.{module_at}
use Rattle.net_names.specs.Apart.{AreApart, inst_names}
use Rattle.net_names.proofs.Steps.{each_next}
use Rattle.net_names.proofs.clashes.some_module_may.Goals as goal

pub loop-holder-preserved : goal.loop-holder-preserved
loop-holder-preserved c =
    let n = c.args.modules.now in
    let P : ℕ → Type 0 = λ k. IsReadModule (module_at n k) → AreApart (inst_names (module_at n k)) (module_at n k).ports in (
      c.module_may_clash.ensures.ready c.loop-holder.invariant.0,
      each_next P c.loop-holder.holder c.loop-holder.invariant.1 (c.module_may_clash.ensures.apart c.if-module_may_clash.false c.loop-holder.invariant.0),
    )

pub returns : goal.returns
returns c _ n less = c.loop-holder.invariant.1 n (omega (arith, less, c.loop-holder-test.false, c.len-holder-end.ensures))
