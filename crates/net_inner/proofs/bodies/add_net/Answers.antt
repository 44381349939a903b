use Rattle.std.proofs.Common.{◌≡◌, ◌<◌, ◌∙◌, ◌++◌, ◌∷◌, [], ℕ, List, Bool, true, false, map, ap, sym, subst, arith, append_assoc}
use Rattle.std.specs.List.{range_with_len}
use Rattle.design_defs.specs.Ranges.{bit_name, width}
use Rattle.net_inner.specs.Naming.{AddsNames}
use Rattle.net_inner.proofs.NamingLemmas.{next_place, place_taken}
use Rattle.net_inner.proofs.bodies.add_net.Goals as goal

pub returns-then-not-branch : goal.returns-then-not-branch
returns-then-not-branch c s plans name at =
    let f : ℕ → List ℕ = bit_name name c.args.net.range in
    let place : ℕ = c.loop-place.place in
    let within : place < width c.args.net.range = omega (arith, c.loop-place-test.true, c.width-place-end.ensures.is) in
    let taken : AddsNames (f place ∷ []) c.loop-place.index c.add_bit.new.index false =
    subst (λ (r : Bool). AddsNames (f place ∷ []) c.loop-place.index c.add_bit.new.index r) c.if-not-branch.true (c.in_ok-add_bit.ensures s plans name at) in
    place_taken f place (width c.args.net.range) c.args.index.now c.loop-place.index c.add_bit.new.index within (c.loop-place.invariant s plans name at) taken

pub loop-place-preserved : goal.loop-place-preserved
loop-place-preserved c s plans name at =
    let f : ℕ → List ℕ = bit_name name c.args.net.range in
    let place : ℕ = c.loop-place.place in
    let step : c.add_bit.new.index ≡ c.loop-place.index ++ f place ∷ [] =
    subst (λ (r : Bool). AddsNames (f place ∷ []) c.loop-place.index c.add_bit.new.index r) c.if-not-branch.false (c.in_ok-add_bit.ensures s plans name at) in
    step ∙ ap (λ xs. xs ++ f place ∷ []) (c.loop-place.invariant s plans name at) ∙ append_assoc c.args.index.now (map f (range_with_len 0 place)) (f place ∷ [])
    ∙ ap (λ xs. c.args.index.now ++ xs) (sym (next_place f place))
