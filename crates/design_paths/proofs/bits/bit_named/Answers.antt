use Rattle.std.proofs.Common.{◌<◌, length, inl, inr, refl, sym, ◌∙◌, subst, arith}
use Rattle.std.proofs.lemmas.Bool.{cases_eq}
use Rattle.design_paths.specs.BitNames.{HasNoBitFrom}
use Rattle.design_paths.proofs.HereLemmas.{behind_bracket, bit_split}
use Rattle.design_paths.proofs.WayLemmas.{front_shorter}
use Rattle.design_paths.proofs.bits.bit_named.Goals as goal

pub loop-at-preserved : goal.loop-at-preserved
loop-at-preserved c = λ k below.
    elim (cases_eq k c.loop-at.at) [
      | inl same ↦ subst (HasNoBitFrom c.args.design.now c.args.inst c.args.name.now) (sym same) c.in-None.ensures
      | inr other ↦ c.loop-at.invariant k (omega (arith, below))
    ]

pub returns : goal.returns
returns c = λ b is.
    let shorter : length is.port.name < length c.args.name.now =
    subst (λ xs. length is.port.name < length xs) (sym (is.named ∙ bit_split is.port.name is.range b.place)) (front_shorter is.port.name (behind_bracket is.range b.place) 91) in
    c.loop-at.invariant (length is.port.name) (omega (arith, c.loop-at-test.false, shorter)) b is refl
