use Rattle.std.proofs.Common.{List, ap, inl, inr, subst, sym, ◌∙◌}
use Rattle.std.proofs.lemmas.List.{take_all}
use Rattle.pw_defs.specs.declared.netlist.Port.{Port}
use Rattle.list_defs.specs.Members.{IsIn}
use Rattle.net_names.specs.Apart.{GoesOn, port_names}
use Rattle.net_names.proofs.Marking.{name_more}
use Rattle.net_names.proofs.bodies.has_bracketed.Goals as goal

pub loop-port-preserved : goal.loop-port-preserved
loop-port-preserved c name front there on behind =
    let ports = c.args.ports.now in
    let x = c.port-item.result in
    elim (name_more (λ (p : Port). p.name) ports c.loop-port.port-index x name c.loop-port-test.true there) [
      | inl early ↦ c.loop-port.invariant name front early on behind
      | inr e ↦ c.has_bracket.ensures c.if-has_bracket.false front
          (subst (GoesOn 91 front) (e ∙ ap (λ (p : Port). p.name) (sym c.port-item.is) ∙ sym c.as_slice.ensures.bytes) on) behind
    ]

pub returns : goal.returns
returns c _ name front there =
    c.loop-port.invariant name front
    (subst (λ (ps : List Port). IsIn name (port_names ps)) (sym (take_all c.loop-port.port-index c.args.ports.now c.loop-port-test.false)) there)
