use Rattle.std.proofs.Common.{◌≡◌, Bool, false, refl, sym, subst, ◌∙◌}
use Rattle.std.specs.Bool.{IsTrue}
use Rattle.std.proofs.lemmas.Bool.{false≢true}
use Rattle.design_defs.specs.Bits.{IsSpot}
use Rattle.list_defs.specs.Members.{HasMoreThan}
use Rattle.design_defs.specs.DesignFaults.{IsTooLarge}
use Rattle.design_defs.specs.Hierarchy.{IsInstance, Sources}
use Rattle.net_sizes.specs.Depths.{HasDeeper, IsDeep}
use Rattle.net_sizes.specs.Sizes.{IsSized, one_each}
use Rattle.net_sizes.proofs.large.is_too_large.Goals as goal

-- what fails isn't true
failed : (b : Bool) → b ≡ false → IsTrue b → ⊥
failed b e t = false≢true (sym e ∙ t)

pub returns-then-is_deeper : goal.returns-then-is_deeper
returns-then-is_deeper c s own types named apart is ones bits spots =
    let deep = c.in_ok-depths.ensures s c.args.top types named apart is c.args.top is.with_top in
    let here = subst (λ xs. IsDeep s 101 xs c.args.top) (sym c.as_slice-2.ensures.value) deep in
    let deeper = (c.is_deeper.ensures s named here).0 c.if-is_deeper.true in
    (λ t. IsTooLarge.depth deeper.0 deeper.1 deeper.2, λ large. refl)

more_of : (s : Sources) (instances deeper more : Bool) → instances ≡ false → deeper ≡ false → (HasMoreThan 1000000 (IsInstance s) → IsTrue instances)
    → (HasDeeper s 100 → IsTrue deeper) → (HasMoreThan 8000000 (IsSpot s) → IsTrue more) → IsTooLarge s → IsTrue more
more_of s instances deeper more few flat p q r (IsTooLarge.instances many) = absurd (failed instances few (p many))
more_of s instances deeper more few flat p q r (IsTooLarge.depth way there deep) = absurd (failed deeper flat (q (way, there, deep)))
more_of s instances deeper more few flat p q r (IsTooLarge.bits many) = r many

pub returns : goal.returns
returns c s own types named apart is ones bits spots =
    let sized = subst (λ xs. IsSized s one_each 1000001 xs c.args.top) (sym c.as_slice.ensures.value)
    (c.in_ok-instances.ensures s one_each c.args.top types named apart is ones c.args.top is.with_top) in
    let deep = subst (λ xs. IsDeep s 101 xs c.args.top) (sym c.as_slice-2.ensures.value) (c.in_ok-depths.ensures s c.args.top types named apart is c.args.top is.with_top) in
    let bits_sized = subst (λ xs. IsSized s own 8000001 xs c.args.top) (sym c.as_slice-3.ensures.value)
    (c.in_ok-sizes.ensures s own c.args.top types named apart is bits c.args.top is.with_top) in
    let bits_more = c.has_more-large.ensures.bits s own named bits_sized spots in (
      λ t. IsTooLarge.bits (bits_more.0 t),
      more_of s c.has_more.result c.is_deeper.result c.has_more-large.result c.if-has_more.false c.if-is_deeper.false (c.has_more.ensures.instances s named sized).1
          (c.is_deeper.ensures s named deep).1 bits_more.1,
    )
