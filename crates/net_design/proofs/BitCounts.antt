-- How many bits there are in all, and that no instance has more.
use Rattle.std.proofs.Common.{◌≡◌, ℕ, ◌+◌, ◌-◌, ◌<◌, ◌≤◌, List, ◌∷◌, Some, get_or, length, slice_get, take, sym, ap, ◌∙◌, subst, arith}
use Rattle.std.specs.List.{sum_by}
use Rattle.std.proofs.lemmas.List.{take_all}
use Rattle.std.proofs.lemmas.List.Sums.{sum_by-take-le, sum_by_more}
use Rattle.std.proofs.lemmas.Option.{get_or_from_slice_get, same_Some, slice_get-get_or, slice_get_within}
use Rattle.pw_defs.specs.declared.design.Body.{Body}
use Rattle.pw_defs.specs.declared.design.Body.TheVariants.{Module as ModuleBody}
use Rattle.list_defs.specs.Orders.{AreAllRising}
use Rattle.list_defs.proofs.Few.{place_of_member}
use Rattle.list_defs.proofs.Members.{IsIn-slice_get}
use Rattle.list_defs.proofs.OneList.{one_list}
use Rattle.design_defs.specs.Bits.{IsSpot, Spot, spot_cmp}
use Rattle.design_defs.specs.Hierarchy.{Sources, Way, body_at}
use Rattle.design_defs.specs.Inputs.{AreReadSources}
use Rattle.design_defs.proofs.WalkEnds.{there_within}
use Rattle.design_laws.proofs.LinkCases.{body_of_inst}
use Rattle.net_bits.specs.Placed.{AreBitCounts, ArePlaced}
use Rattle.net_bits.specs.declared.placed.Placed.{Placed}
use Rattle.net_bits.proofs.Spots.{counted_at, nets_at, nets_of, own_counted, plan_at, same_spots, total}
use Rattle.net_design.specs.Stages.{HaveFewBits}
use Rattle.net_instances.specs.Instances.{AreInstances, own_bits}
use Rattle.net_instances.specs.declared.numbering.InstanceRow.{InstanceRow}
use Rattle.net_outline.proofs.Counting.{local_total}
use Rattle.net_places.specs.Nets.{AreOwnNets, IsLocalBit, all_spots, local_bits, local_cmp}
use Rattle.net_places.specs.Plans.{ArePlans, IsOf, rows_at}
use Rattle.net_places.specs.Tables.{bits_in}
use Rattle.net_places.proofs.BitLaws.{all_spots_are, local_bits_are, local_length}
use Rattle.net_sizes.specs.declared.sizes.Counts.{Counts}
use Rattle.net_runs.specs.LocalNumbers.{HasFewBits}

module _ (s : Sources) (p : Placed) (there : ArePlaced s p) where
  abbrev rows : List InstanceRow
  rows = p.instances.now.rows

  abbrev counted : InstanceRow → ℕ
  counted = own_bits there.bits

  owned : (way : Way) (b : Body) → body_at s way ≡ Some b → AreOwnNets s b (nets_at s p there way)
  owned way b at = subst (AreOwnNets s b) (sym (ap (nets_of s p there) at)) (plan_at s p there way b at).nets

  -- all bits are those of all instances
  pub spots_count : (spots : List Spot) → AreAllRising spot_cmp (IsSpot s) spots → length spots ≡ sum_by counted rows
  spots_count spots all = ap length (same_spots s p there spots all) ∙ sym (total s p there)

  -- all bits, one instance after the other
  pub all_there : AreAllRising spot_cmp (IsSpot s) (all_spots (nets_at s p there) there.instances.ways)
  all_there = all_spots_are s (nets_at s p there) there.instances.ways there.instances.all_ways (λ way b at. owned way b at)

  -- those before an instance and its own are no more than all
  own_within : (k : ℕ) (row : InstanceRow) → slice_get rows k ≡ Some row → sum_by counted (take (k + 1) rows) ≡ row.first_bit + counted row
  own_within k row at =
      sum_by_more counted rows k row (slice_get_within rows k row at)
      ∙ ap (λ (n : ℕ). n + counted (get_or rows k row)) (sym (there.instances.first_bits k row at))
      ∙ ap (λ (r : InstanceRow). row.first_bit + counted r) (get_or_from_slice_get rows k row row at)

  pub last_count : (k : ℕ) (row : InstanceRow) → slice_get rows k ≡ Some row → k + 1 ≡ length rows → sum_by counted rows ≡ row.first_bit + bits_in (rows_at p.plans.now row.body)
  last_count k row at last =
      let way = there_within there.instances.ways k (omega (arith, slice_get_within rows k row at, there.instances.count)) in
      sym (ap (sum_by counted) (take_all (k + 1) rows (omega (arith, last)))) ∙ own_within k row at
      ∙ ap (λ (n : ℕ). row.first_bit + n) (own_counted s p there k row way.0 at way.1)

  -- the same where the last instance is read
  pub counted_by_last : (xs : List InstanceRow) → xs ≡ rows → 0 < length xs → (d : InstanceRow) (own count : ℕ)
      → own ≡ bits_in (rows_at p.plans.now (get_or xs (length xs - 1) d).body) → count ≡ (get_or xs (length xs - 1) d).first_bit + own → sum_by counted rows ≡ count
  counted_by_last xs same some d own count owns is =
      let k = length xs - 1 in
      let row = get_or xs k d in
      let at : slice_get rows k ≡ Some row = ap (λ (ys : List InstanceRow). slice_get ys k) (sym same) ∙ slice_get-get_or xs k d (omega (arith, some)) in
      last_count k row at (omega (arith, some, ap length same)) ∙ ap (λ (n : ℕ). row.first_bit + n) (sym owns) ∙ sym is

  -- so no instance has more bits than there are in all
  pub few_bits : sum_by counted rows ≤ 4294967295 → (way : Way) (b : Body) → body_at s way ≡ Some b → HasFewBits s b
  few_bits few way b at bits are =
      let nets = owned way b at in
      let same = one_list local_cmp local_total (IsLocalBit s b) bits (local_bits (nets_at s p there way)) are (local_bits_are s b (nets_at s p there way) nets) in
      let k = place_of_member way there.instances.ways (there.instances.all_ways.all way (b, at)) in
      let row = there_within rows k.0 (omega (arith, slice_get_within there.instances.ways k.0 way k.1, there.instances.count)) in
      let body = (there.instances.each k.0 way row.0 k.1 row.1).body in
      let bodies : row.0.body ≡ b = same_Some row.0.body b (sym body ∙ at) in
      let count : length bits ≡ counted row.0 =
      ap length same ∙ local_length (nets_at s p there way) ∙ counted_at s p there way b at
      ∙ ap (λ (x : Body). bits_in (rows_at p.plans.now x)) (sym bodies) ∙ sym (own_counted s p there k.0 row.0 way row.1 k.1) in
      omega (arith, count, own_within k.0 row.0 row.1, sum_by-take-le counted rows (k.0 + 1), few)

  pub few_around : AreReadSources s → sum_by counted rows ≤ 4294967295 → HaveFewBits s
  few_around read few way number m is = record {
    own = few_bits few way (ModuleBody number) is.body;
    children = λ i body one type.
        let own = (read.each_module m (IsIn-slice_get s.modules number m is.is_module)).own_names in
        few_bits few (i.name ∷ way) body (body_of_inst s way number m i is own one ∙ type);
  }

-- what holds for all bits of a hierarchy, by the parts of it
pub by_spots : (s : Sources) (p : Placed) (bits : Counts) → IsOf p.modules.now p.cells.now p.models.now s → ArePlans s p.modules.now.symbols p.plans.now
    → AreBitCounts s p.plans.now bits → AreInstances s p.modules.now bits p.instances.now → {X : Type 0}
    → (ArePlaced s p → (spots : List Spot) → AreAllRising spot_cmp (IsSpot s) spots → X) → X
by_spots s p bits of plans counted made each =
    let there : ArePlaced s p = record { of_sources = of; plans = plans; bits = bits; counted = counted; instances = made } in
    each there (all_spots (nets_at s p there) made.ways) (all_there s p there)
