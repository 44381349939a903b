use Rattle.std.proofs.Common.{◌<◌, List, inl, inr, length, subst, sym, arith}
use Rattle.std.proofs.lemmas.List.{take_all}
use Rattle.pw_defs.specs.declared.netlist.Port.{Port}
use Rattle.list_defs.specs.Members.{IsIn}
use Rattle.module_rows.specs.Reads.{module_at, no_port, port_at}
use Rattle.net_names.specs.Apart.{port_names}
use Rattle.net_names.specs.Bodies.{AreFree}
use Rattle.net_names.proofs.Marking.{name_more}
use Rattle.net_names.proofs.bodies.has_longer_port.Goals as goal

pub loop-number-preserved : goal.loop-number-preserved
loop-number-preserved c name there =
    let n = c.args.modules.now in
    let ports = (module_at n c.args.holder).ports in
    let i = c.loop-number.number in
    let within : i < length ports = omega (arith, c.loop-number-test.true, c.module-number-end.ensures.ports) in
    elim (name_more (λ (x : Port). x.name) ports i no_port name within there) [
      | inl early ↦ c.loop-number.invariant name early
      | inr e ↦ subst (AreFree n.symbols c.args.marks.now c.args.stamp) (sym e)
          (c.is_longer.ensures c.if-is_longer.false (port_at n c.args.holder i).name c.port.ensures.name)
    ]

pub returns : goal.returns
returns c _ name there =
    let ports = (module_at c.args.modules.now c.args.holder).ports in
    let all = take_all c.loop-number.number ports (omega (arith, c.loop-number-test.false, c.module-number-end.ensures.ports)) in
    c.loop-number.invariant name (subst (λ (xs : List Port). IsIn name (port_names xs)) (sym all) there)
