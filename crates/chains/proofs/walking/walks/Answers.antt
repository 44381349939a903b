use Rattle.std.proofs.Common.{◌≡◌, ◌∙◌, None, option_map, ◌<◌, ap, arith, get_or, length, subst, sym, List}
use Rattle.pw_defs.specs.declared.design.Bit.{Bit}
use Rattle.pw_defs.specs.declared.design.PortBit.{PortBit}
use Rattle.design_defs.specs.Walks.{IsWalk, WalksEnd, start_at}
use Rattle.chains.proofs.Steps.{walks_all, walks_more, walks_same}
use Rattle.chains.proofs.walking.walks.Goals as goal
use Rattle.chains.proofs.walking.walks.Goals.{in-Some+in_ok-walk_from+in_ok-push, in_default}

pub walk_from-requires-clause-ends : goal.walk_from-requires-clause-ends
walk_from-requires-clause-ends c = let P : List Bit → Type 0 = WalksEnd in subst P (sym c.as_slice-bits.ensures.items) c.requires

pub loop-at-preserved : goal.loop-at-preserved
loop-at-preserved c =
    let d = c.args.design.now in
    let n = c.loop-at.at in
    let bit = c.index-bits-at.result in
    let items = c.as_slice-bits.ensures.items in
    let long : length c.as_slice-bits.result.now ≡ length d.bits = cc in
    let within : n < length d.bits = omega arith in
    let is : bit ≡ get_or d.bits n bit = cc in
    elim c.match-start_of.branch [
      | in-Some+in_ok-walk_from+in_ok-push w ↦
          (let P : List Bit → Type 0 = λ bits. IsWalk bits n w.in_ok-walk_from.field-0.bits w.in_ok-walk_from.field-0.from in
          let walk = subst P items w.in_ok-walk_from.ensures.walk in
          rw (w.walks-is, w.in_ok-push.ensures.ok)
          (walks_more d n bit w.in-Some.to c.loop-at.walks w.in_ok-walk_from.field-0 within is (w.in-Some.ensures n) w.in_ok-walk_from.ensures.to walk c.loop-at.invariant))
      | in_default w ↦
          (let none : start_at d n bit.port ≡ None = c.start_of.ensures n ∙ ap (option_map (λ (to : PortBit). (n, to))) w.in_default.is in
          rw w.walks-is (walks_same d n bit c.loop-at.walks within is none c.loop-at.invariant))
    ]

pub returns : goal.returns
returns c =
    let items = c.as_slice-bits.ensures.items in
    let past : length c.as_slice-bits.result.now ≡ length c.args.design.now.bits = cc in
    walks_all c.args.design.now c.loop-at.at c.loop-at.walks (omega arith) c.loop-at.invariant
