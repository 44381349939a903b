use Rattle.std.proofs.Common.{◌<◌, List, length, subst, arith}
use Rattle.std.proofs.lemmas.List.{take_all}
use Rattle.pw_defs.specs.declared.netlist.Port.{Port}
use Rattle.module_rows.specs.Reads.{module_at, no_port}
use Rattle.net_names.specs.Marks.{AreVectorsMarked}
use Rattle.net_names.proofs.Marking.{vectors_more, vectors_none}
use Rattle.net_names.proofs.marks.mark_vectors.Goals as goal

pub loop-number-init : goal.loop-number-init
loop-number-init c differ count = vectors_none c.args.modules.now.symbols c.args.marks.now.items c.args.stamp count

pub loop-number-preserved : goal.loop-number-preserved
loop-number-preserved c differ count =
    let n = c.args.modules.now in
    let ports = (module_at n c.args.holder).ports in
    let i = c.loop-number.number in
    let within : i < length ports = omega (arith, c.loop-number-test.true, c.module-number-end.ensures.ports) in
    vectors_more n.symbols c.loop-number.marks.items c.mark_vector.new.marks.items c.args.stamp c.port-port.result.name ports i no_port c.port-port.result.range within
    c.port-port.ensures.range differ c.port-port.ensures.name c.mark_vector.ensures (c.loop-number.invariant differ count)

pub returns : goal.returns
returns c differ count =
    let n = c.args.modules.now in
    let ports = (module_at n c.args.holder).ports in
    let all = take_all c.loop-number.number ports (omega (arith, c.loop-number-test.false, c.module-number-end.ensures.ports)) in
    subst (λ (ps : List Port). AreVectorsMarked n.symbols c.loop-number.marks.items c.args.stamp ps) all (c.loop-number.invariant differ count)
