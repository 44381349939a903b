use Rattle.std.proofs.Common.{◌≡◌, ◌<◌, ◌∙◌, List, ℕ, Option, ap, length, sym, arith}
use Rattle.std.proofs.lemmas.List.{take_all}
use Rattle.std.proofs.lemmas.Option.{get_or_from_slice_get, same_Some, slice_get-get_or, slice_get_within}
use Rattle.pw_defs.specs.declared.netlist.Port.{Port}
use Rattle.module_rows.specs.Reads.{module_at, no_port, port_at as module_port}
use Rattle.net_names.specs.Meets.{met_all, port_at, ports_at}
use Rattle.net_names.proofs.Steps.{met_none, names_more}
use Rattle.net_names.proofs.ports.meet_module.Goals as goal

pub loop-number-init : goal.loop-number-init
loop-number-init c = met_none c.args.meeting.now

pub loop-number-preserved : goal.loop-number-preserved
loop-number-preserved c =
    let n = c.args.modules.now in
    let ports = (module_at n c.args.holder).ports in
    let i = c.loop-number.number in
    let p = module_port n c.args.holder i in
    let place = c.args.place in
    let path = c.args.path.now in
    let now = c.loop-number.meeting in
    let within : i < length ports = omega (arith, c.loop-number-test.true, c.module-number-end.ensures.ports) in
    let named : c.spelling-name.result.now ≡ p.name = same_Some c.spelling-name.result.now p.name (sym c.spelling-name.ensures ∙ c.port-port.ensures.name) in
    names_more (λ (q : Port). port_at place path q.name q.range) ports i p c.args.meeting.now now c.meet_port.new.meeting within
    (sym (get_or_from_slice_get ports i p p (slice_get-get_or ports i no_port within))) c.loop-number.invariant
    (c.in_ok-meet_port.ensures ∙ ap (λ (t : List ℕ). met_all now (port_at place path t c.port-port.result.range)) named
    ∙ ap (λ (r : Option (ℕ × ℕ)). met_all now (port_at place path p.name r)) c.port-port.ensures.range)

pub returns : goal.returns
returns c =
    let ports = (module_at c.args.modules.now c.args.holder).ports in
    c.loop-number.invariant
    ∙ ap (λ (ps : List Port). met_all c.args.meeting.now (ports_at c.args.place c.args.path.now ps))
    (take_all c.loop-number.number ports (omega (arith, c.loop-number-test.false, c.module-number-end.ensures.ports)))

pub spelling-name-requires : goal.spelling-name-requires
spelling-name-requires c =
    slice_get_within c.args.modules.now.symbols c.port-port.result.name (module_port c.args.modules.now c.args.holder c.loop-number.number).name c.port-port.ensures.name
