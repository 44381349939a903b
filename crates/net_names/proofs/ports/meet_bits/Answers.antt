use Rattle.std.proofs.Common.{ℕ, List, Some, ap, ◌∙◌}
use Rattle.design_defs.specs.Ranges.{bit_name}
use Rattle.net_names.specs.Meets.{met}
use Rattle.net_names.specs.declared.meeting.NameAt.{NameAt}
use Rattle.net_names.proofs.Steps.{met_none, numbers_more}
use Rattle.net_names.proofs.ports.meet_bits.Goals as goal

pub loop-at-init : goal.loop-at-init
loop-at-init c = met_none c.args.meeting.now

pub loop-at-preserved : goal.loop-at-preserved
loop-at-preserved c =
    let next : ℕ → NameAt = λ k. record { place = c.args.place; name = bit_name c.args.name.now (Some c.args.range) k } in
    numbers_more next c.args.meeting.now c.loop-at.meeting c.meet.new.meeting c.loop-at.at c.loop-at.invariant
    (c.in_ok-meet.ensures ∙ ap (λ (t : List ℕ). met c.loop-at.meeting (record { place = c.args.place; name = t })) (c.as_slice.ensures.bytes ∙ c.in_ok-text.ensures))
