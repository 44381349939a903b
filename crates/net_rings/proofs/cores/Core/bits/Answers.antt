use Rattle.std.proofs.Common.{◌≡◌, ◌↔◌, ◌+◌, ◌<◌, ◌≤◌, ℕ, List, [], length, rules, arith, sym, subst, ap, ◌∙◌}
use Rattle.std.proofs.lemmas.Option.{slice_get_within}
use Rattle.std.proofs.lemmas.Bool.{false≢true}
use Rattle.list_defs.specs.Members.{IsIn}
use Rattle.net_rings.specs.Fed.{IsFedBy, IsThere}
use Rattle.net_rings.specs.Peeled.{IsFedByLeft}
use Rattle.net_rings.specs.declared.graphs.BitRow.{BitRow}
use Rattle.net_rings.proofs.LeastLemmas.{ring_there}
use Rattle.net_rings.proofs.RingLaws.{ring_turned}
use Rattle.net_rings.proofs.UseLemmas.{all_with, all_without}
use Rattle.net_rings.proofs.cores.Core.bits.Goals.{then-is_there+in_ok-push, else-is_there}
use Rattle.net_rings.proofs.cores.Core.bits.Goals as goal

pub loop-bit-preserved : goal.loop-bit-preserved
loop-bit-preserved c = elim c.if-is_there.branch [
  | then-is_there+in_ok-push w ↦
      subst (λ xs. (n : ℕ) → IsIn n xs ↔ ((n < c.loop-bit.bit + 1) × IsThere c.args.self.now.rows.bits.items n))
      (sym (ap (λ v. v.items) w.bits-is ∙ w.in_ok-push.ensures.items))
      (all_with (IsThere c.args.self.now.rows.bits.items) c.loop-bit.bits.items c.loop-bit.bit c.loop-bit.invariant (c.is_there.ensures.0 w.if-is_there.true))
  | else-is_there w ↦
      subst (λ xs. (n : ℕ) → IsIn n xs ↔ ((n < c.loop-bit.bit + 1) × IsThere c.args.self.now.rows.bits.items n))
      (sym (ap (λ v. v.items) w.bits-is))
      (all_without (IsThere c.args.self.now.rows.bits.items) c.loop-bit.bits.items c.loop-bit.bit c.loop-bit.invariant
      (λ there. absurd (false≢true (sym w.if-is_there.false ∙ c.is_there.ensures.1 there))))
]

-- the bits that were gone through are those that are there
found : (bit count : ℕ) (rows : List BitRow) (bits : List ℕ) → ((n : ℕ) → IsIn n bits ↔ ((n < bit) × IsThere rows n)) → count ≡ length rows → count ≤ bit
    → (n : ℕ) → IsIn n bits ↔ IsThere rows n
found bit count rows bits all same past n = (
  λ inside. ((all n).0 inside).1,
  λ there. (all n).1 (omega (arith, slice_get_within rows n there.0 there.1, same, past), there),
)

pub returns-clause-there : goal.returns-clause-there
returns-clause-there c =
    found c.loop-bit.bit c.len-bit-end.result c.args.self.now.rows.bits.items c.loop-bit.bits.items c.loop-bit.invariant (search rules) c.loop-bit-test.false

pub returns-clause-rings : goal.returns-clause-rings
returns-clause-rings c sources core n ring =
    (found c.loop-bit.bit c.len-bit-end.result c.args.self.now.rows.bits.items c.loop-bit.bits.items c.loop-bit.invariant (search rules) c.loop-bit-test.false n).1
    (ring_there sources [] c.args.self.now core n (ring_turned (IsFedBy sources) (IsFedByLeft sources []) (λ a b step _. (step, λ none. none)) n ring))
