use Rattle.std.proofs.Common.{◌+◌, ◌<◌, ◌≤◌, ◌∙◌, ℕ, List, false, get_or, length, nat_eq, subst, arith, rules}
use Rattle.std.specs.List.{count_by}
use Rattle.std.proofs.lemmas.List.Sums.{sum_by_more}
use Rattle.std.proofs.lemmas.Option.{slice_get-get_or}
use Rattle.net_rings.specs.Peeled.{uses_in}
use Rattle.net_rings.specs.declared.graphs.BitRow.{BitRow}
use Rattle.net_rings.proofs.UseLemmas.{source_row, uses_at_most}
use Rattle.net_rings.proofs.cores.uses_of.Goals as goal

pub loop-bit-preserved : goal.loop-bit-preserved
loop-bit-preserved c = record {
  all_bits = c.in_ok-add_uses.ensures.length ∙ c.loop-bit.invariant.all_bits;
  each = λ n within.
      let inside : n < length c.loop-bit.uses.items = omega (arith, within, c.in_ok-add_uses.ensures.length) in
      let before = c.loop-bit.invariant.each n inside in
      let after = subst (λ xs. get_or c.loop-bit.uses.items n 0 + count_by (nat_eq n) xs ≤ get_or c.add_uses.new.uses.items n 0)
      (c.sources_at.ensures ∙ source_row c.args.rows.now bit row (slice_get-get_or bits bit none there)) (c.in_ok-add_uses.ensures.added n inside) in
      omega (arith, before, after, sum_by_more (uses_in c.args.rows.now.sources.items n) bits bit none there, uses_at_most c.args.rows.now.sources.items n row);
}
  where
    bit : ℕ
    bit = c.loop-bit.bit

    none : BitRow
    none = record { first = 0; end = 0; there = false }

    bits : List BitRow
    bits = c.args.rows.now.bits.items

    row : BitRow
    row = get_or bits bit none

    there : bit < length bits
    there = search rules
