use Rattle.std.proofs.Common.{◌≡◌, ap, sym, ◌∙◌, slice_get, Some}
use Rattle.form_design.specs.Names.{bits_of}
use Rattle.form_design.specs.Hierarchy.{bit_at}
use Rattle.form_design.proofs.Wires.{made_more}
use Rattle.form_design.proofs.wiring.add_bits.Goals as goal

pub loop-place-preserved : goal.loop-place-preserved
loop-place-preserved c =
    let names = c.args.names.now in
    let held = c.args.held.now in
    let at : slice_get (bits_of names held.body) c.loop-place.place ≡ Some c.name-name.result.now =
    ap (λ xs. slice_get xs c.loop-place.place) (sym c.in-Some.ensures) ∙ c.name-name.ensures in
    made_more (bit_at names (c.args.inst, held)) (bits_of names held.body) c.loop-place.place c.name-name.result.now
    c.loop-place.out.items c.push.new.self.items _ c.in_ok-bit_at.field-0 at c.in_ok-bit_at.ensures c.in_ok-push.ensures.items c.loop-place.invariant
