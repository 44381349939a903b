use Rattle.std.proofs.Common.{◌≡◌, ℕ, ◌<◌, true, length, get_or, slice_get, Some, ap, sym, ◌∙◌, arith}
use Rattle.std.proofs.lemmas.Option.{slice_get-get_or}
use Rattle.form_design.specs.Fits.{is_free}
use Rattle.form_design.proofs.Wires.{link_turns, links_end}
use Rattle.form_design.proofs.wiring.connect.Goals as goal

pub loop-link-preserved : goal.loop-link-preserved
loop-link-preserved c =
    let links = c.args.links.now in
    let i = c.loop-link.link-index in
    let bits = c.loop-link.bits.items in
    let b = c.index_mut-bit.result.now in
    let l : ℕ × ℕ = get_or links i (0, 0) in
    let past : is_free (slice_get bits l.0) ≡ true =
    ap (λ xs. is_free (slice_get xs l.0)) (sym c.as_slice.ensures.value) ∙ sym c.is_free.ensures.free ∙ c.if-not-is_free.false in
    let within : l.0 < length bits = omega (arith, c.is_free.ensures.there c.if-not-is_free.false, ap length c.as_slice.ensures.value) in
    let here : slice_get bits l.0 ≡ Some b = slice_get-get_or bits l.0 b within ∙ ap Some (sym c.index_mut-bit.ensures.value) in
    let turns = link_turns links i l bits b (slice_get-get_or links i (0, 0) c.loop-link-test.true) here (ap is_free (sym here) ∙ past) in
    record {
      once = turns.once ∙ c.loop-link.invariant.once;
      fed = λ h. turns.same (c.loop-link.invariant.once ∙ h) ∙ c.loop-link.invariant.fed h;
    }

pub returns : goal.returns
returns c =
    let end = links_end c.args.links.now c.loop-link.link-index c.loop-link.bits.items c.loop-link-test.false in
    let once : _ ≡ true = sym c.loop-link.invariant.once ∙ end.0 in
    (once, sym end.1 ∙ c.loop-link.invariant.fed once)
