use Rattle.std.proofs.Common.{◌≡◌, ◌<◌, ◌+◌, [], ◌∷◌, length, length-append, ap, ◌∙◌, arith}
use Rattle.std.proofs.lemmas.Option.{slice_get_within}
use Rattle.net_widths.specs.Ports.{IsSeen}
use Rattle.net_widths.specs.Refusals.{ports_of_module}
use Rattle.net_widths.proofs.FaultLines.{own_ports}
use Rattle.net_widths.proofs.Steps.{own_more}
use Rattle.net_widths.proofs.ports.port_faults.Goals as goal

pub loop-holder-preserved : goal.loop-holder-preserved
loop-holder-preserved c = record {
  count = ap length c.in_ok-push-in-Some.ensures.items ∙ length-append c.loop-holder.own.items (c.module_ports.result ∷ []) ∙ ap (λ n. n + 1) c.loop-holder.invariant.count;
  own = λ s seen types.
      let n = c.args.spellings.now.modules.now in
      let within : c.loop-holder.holder < length n.modules = omega (arith, c.loop-holder-test.true, c.len-holder-end.ensures) in
      own_more s (ports_of_module s) n c.args.types.now c.loop-holder.holder c.in-Some.row.now c.loop-holder.own.items _ c.module_ports.result seen.is_of.0 types within c.in-Some.ensures
      c.loop-holder.invariant.count c.in_ok-push-in-Some.ensures.items (λ row there. c.module_ports.ensures s seen (c.as_slice.ensures.items ∙ row)) (c.loop-holder.invariant.own s seen types);
}

pub returns : goal.returns
returns c s is types plans =
    let n = c.args.spellings.now.modules.now in
    let seen : IsSeen s c.args.spellings.now c.args.plans.now = record { is_of = is; plans_are = plans } in
    own_ports s n.symbols c.loop-holder.own.items (λ k m is_module.
    let within : k < length s.modules = slice_get_within s.modules k m is_module in
    let count : length s.modules ≡ length n.modules = ap length is.0 in
    c.loop-holder.invariant.own s seen types k m is_module (omega (arith, within, count, c.len-holder-end.ensures, c.loop-holder-test.false)))
