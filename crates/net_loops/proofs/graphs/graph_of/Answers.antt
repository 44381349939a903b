use Rattle.std.proofs.Common.{◌≡◌, ◌+◌, ◌<◌, ◌≤◌, ◌∙◌, ◌++◌, ℕ, List, Some, get_or, length, slice_get, sym, ap, arith}
use Rattle.std.specs.Option.{option_to_list}
use Rattle.std.proofs.lemmas.List.{length_push}
use Rattle.std.proofs.lemmas.Option.{slice_get-get_or}
use Rattle.design_rows.specs.declared.tables.Feed.{Feed}
use Rattle.design_rows.specs.declared.tables.Feed.TheVariants.{Bit as BitFeed}
use Rattle.pw_defs.specs.declared.design.Body.TheVariants.{Module as ModuleBody}
use Rattle.net_instances.specs.declared.numbering.InstanceRow.{InstanceRow}
use Rattle.net_loops.specs.Graphs.{BeginsFirst, inner_bit}
use Rattle.net_loops.proofs.GraphLemmas.{graph_row, rows_more}
use Rattle.net_loops.proofs.graphs.graph_of.Goals as goal

pub loop-bit-preserved : goal.loop-bit-preserved
loop-bit-preserved c = record {
  within = owner_within;
  count = ap length c.in_ok-add_bit.ensures ∙ length_push c.loop-bit.graph sources ∙ ap (λ (n : ℕ). n + 1) c.loop-bit.invariant.count;
  before = λ first r at. let is_low = low first r at in omega (arith, is_low);
  each = λ first. rows_more rows c.args.inner.now feeds c.loop-bit.graph c.add_bit.new.graph sources bit c.loop-bit.invariant.count c.in_ok-add_bit.ensures (c.loop-bit.invariant.each first)
      (graph_row rows c.args.inner.now feeds bit owner row feed c.linked_bit.result c.in_ok-inside.inside row_is (low first row row_is)
      (λ r at. c.next_owner-owner.ensures.next r (ap (λ (xs : List InstanceRow). slice_get xs (owner + 1)) same ∙ at)) feed_is c.linked_bit.ensures inside_is);
}
  where
    rows : List InstanceRow
    rows = c.args.instances.now.rows

    -- the slice is the list of rows
    same : c.as_slice-rows.result.now ≡ rows
    same = c.as_slice-rows.ensures.items

    feeds : List Feed
    feeds = c.args.feeds.now

    bit : ℕ
    bit = c.loop-bit.bit

    owner : ℕ
    owner = c.next_owner-owner.result

    owner_within : owner < length rows
    owner_within = omega (arith, c.next_owner-owner.ensures.within, ap length same)

    low : BeginsFirst rows → (r : InstanceRow) → slice_get rows owner ≡ Some r → r.first_bit ≤ bit
    low first r at =
        c.next_owner-owner.ensures.before (λ q at_q. c.loop-bit.invariant.before first q (ap (λ (xs : List InstanceRow). slice_get xs c.loop-bit.owner) (sym same) ∙ at_q)) r
        (ap (λ (xs : List InstanceRow). slice_get xs owner) same ∙ at)

    none : InstanceRow
    none = record { parent = 0; inst = 0; name = 0; body = ModuleBody 0; first_bit = 0; first_child = 0 }

    row : InstanceRow
    row = get_or rows owner none

    row_is : slice_get rows owner ≡ Some row
    row_is = slice_get-get_or rows owner none owner_within

    feed : Feed
    feed = get_or feeds bit (BitFeed 0)

    feed_is : slice_get feeds bit ≡ Some feed
    feed_is = slice_get-get_or feeds bit (BitFeed 0) c.loop-bit-test.true

    -- what feeds it inside is read by the row of the list
    inside_is : c.in_ok-inside.inside ≡ inner_bit c.args.inner.now row bit
    inside_is = c.in_ok-inside.ensures ∙ ap (λ (xs : List InstanceRow). inner_bit c.args.inner.now (get_or xs owner none) bit) same

    sources : List ℕ
    sources = option_to_list c.linked_bit.result ++ option_to_list c.in_ok-inside.inside
