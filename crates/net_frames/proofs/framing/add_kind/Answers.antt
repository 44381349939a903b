use Rattle.std.proofs.Common.{◌≡◌, ◌-◌, length, ◌∙◌}
use Rattle.design_rows.specs.Growth.{with_kind}
use Rattle.net_frames.proofs.AddedKinds.{kind_added}
use Rattle.net_frames.proofs.framing.add_kind.Goals as goal

pub returns-clause-kind : goal.returns-clause-kind
returns-clause-kind c =
    let a = c.args.rows.now in
    let b = c.add_nets.new.rows in
    let same : c.add_kind.new.self ≡ with_kind b (record { body = c.args.body; first = length a.places; size = length b.places - length a.places }) =
    c.in_ok-number.ensures.added ∙ (λ i. with_kind b (record { body = c.args.body; first = c.len-first.ensures i; size = c.len-end.ensures i - c.len-first.ensures i })) in
    kind_added c.args.modules.now c.args.plans.now a b c.add_kind.new.self c.args.body c.in_ok-number.number c.requires c.in_ok-add_nets.ensures.added same
    c.in_ok-number.ensures.number
