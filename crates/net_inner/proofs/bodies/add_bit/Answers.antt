use Rattle.std.proofs.Common.{◌≡◌, ◌∙◌, ◌++◌, ◌∷◌, [], ap}
use Rattle.design_defs.specs.Ranges.{bit_name}
use Rattle.net_inner.proofs.NamingLemmas.{adds_one, same_adds}
use Rattle.net_inner.proofs.bodies.add_bit.Goals as goal

pub returns : goal.returns
returns c s plans name at =
    let text = c.as_slice.result.now in
    let wanted = bit_name name c.args.net.range c.args.place in
    let is : text ≡ wanted = c.as_slice.ensures.bytes ∙ c.in_ok-put_local_name.ensures s plans.of_sources name at ∙ ap (λ old. old ++ wanted) c.new-name.ensures in
    same_adds (text ∷ []) (wanted ∷ []) c.args.index.now c.add.new.self c.in_ok-new.new (ap (λ x. x ∷ []) is)
    (adds_one text c.args.index.now c.add.new.self c.in_ok-new.new c.in_ok-new.ensures.new c.in_ok-new.ensures.names)
