use Rattle.std.proofs.Common.{◌≡◌, ◌+◌, ◌<◌, ◌≤◌, ℕ, Some, false, get_or, length, nat_eq, refl, sym, ap, ◌∙◌, subst}
use Rattle.std.specs.List.{count_by, slice_get}
use Rattle.std.proofs.lemmas.Option.{same_Some, slice_get-get_or, slice_get_within}
use Rattle.net_rings.specs.Fed.{sources_at}
use Rattle.net_rings.specs.declared.graphs.BitRow.{BitRow}
use Rattle.net_rings.proofs.UseLemmas.{counted_without, source_row}
use Rattle.net_rings.proofs.cores.take.Goals as goal

pub returns : goal.returns
returns c = record {
  sources = refl;
  row = row;
  was_there = is;
  bits = refl;
  counted = counted_without c.args.core.now.rows c.args.bit row is c.args.core.now.uses.items c.drop_uses.new.uses.items c.requires.counted c.in_ok-drop_uses.ensures.length dropped
      (ap (λ (r : BitRow). r.there) (same_Some row c.requires.there.0 (sym is ∙ c.requires.there.1)) ∙ c.requires.there.2);
}
  where
    row : BitRow
    row = get_or c.as_slice.result.now c.args.bit (record { first = 0; end = 0; there = false })

    is : slice_get c.args.core.now.rows.bits.items c.args.bit ≡ Some row
    is =
        ap (λ xs. slice_get xs c.args.bit) (sym c.as_slice.ensures.value)
        ∙ slice_get-get_or c.as_slice.result.now c.args.bit (record { first = 0; end = 0; there = false })
        (subst (λ xs. c.args.bit < length xs) (sym c.as_slice.ensures.value) (slice_get_within c.args.core.now.rows.bits.items c.args.bit c.requires.there.0 c.requires.there.1))

    dropped : (n : ℕ) → n < length c.args.core.now.uses.items
        → get_or c.args.core.now.uses.items n 0 ≤ get_or c.drop_uses.new.uses.items n 0 + count_by (nat_eq n) (sources_at c.args.core.now.rows.sources.items row)
    dropped n within =
        subst (λ xs. get_or c.args.core.now.uses.items n 0 ≤ get_or c.drop_uses.new.uses.items n 0 + count_by (nat_eq n) xs)
        (c.sources_at.ensures ∙ source_row c.args.core.now.rows c.args.bit row is) (c.in_ok-drop_uses.ensures.dropped n within)
