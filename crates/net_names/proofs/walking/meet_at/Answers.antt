use Rattle.std.proofs.Common.{Option, arith, subst}
use Rattle.std.specs.Prelude.{IfSome}
use Rattle.net_names.specs.Walking.{HasMetAt, IsOwnPlace}
use Rattle.net_names.specs.declared.meeting.Place.{Place}
use Rattle.net_names.proofs.walking.meet_at.Goals as goal

pub returns-then-number-eq0 : goal.returns-then-number-eq0
returns-then-number-eq0 c = HasMetAt.top c.in_ok-row.row c.in_ok-row.ensures c.if-number-eq0.true c.in_ok-meet_top.ensures

pub returns : goal.returns
returns c =
    let is_own = subst (λ (o : Option Place). IfSome o (λ p. IsOwnPlace c.args.modules.now c.args.rows.now c.in_ok-row.row p)) c.in_ok-own.ensures.ok_part c.place_of.ensures in
    HasMetAt.inner c.in_ok-row.row c.in_ok-own.own c.in_ok-row.ensures (omega (arith, c.if-number-eq0.false)) is_own c.in_ok-meet_inner.ensures
