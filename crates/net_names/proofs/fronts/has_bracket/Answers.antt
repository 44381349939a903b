use Rattle.std.proofs.Common.{◌≡◌, Some, slice_get, take, arith}
use Rattle.list_defs.specs.Members.{IsIn}
use Rattle.net_names.proofs.Marking.{goes_nowhere}
use Rattle.net_names.proofs.Steps.{each_next}
use Rattle.net_names.proofs.fronts.has_bracket.Goals as goal

pub loop-at-preserved : goal.loop-at-preserved
loop-at-preserved c =
    each_next (λ k. slice_get c.args.name.now k ≡ Some 91 → IsIn (take k c.args.name.now) c.args.index.now → ⊥) c.loop-at.at c.loop-at.invariant
    (c.is_bracket_at.ensures c.if-is_bracket_at.false)

pub returns : goal.returns
returns c _ =
    goes_nowhere (λ front. IsIn front c.args.index.now) 91 c.args.name.now (λ k less. c.loop-at.invariant k (omega (arith, less, c.loop-at-test.false)))
