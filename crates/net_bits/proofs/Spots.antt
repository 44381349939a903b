-- Where the bit of a number stands, by the instance and the net that begin last at or before it.
use Rattle.std.proofs.Common.{◌≡◌, ℕ, ◌+◌, ◌-◌, ◌<◌, ◌≤◌, List, [], Option, None, Some, get_or, length, map, option_map, option_and_then, slice_get, take, refl, sym, ap, ◌∙◌, subst, arith}
use Rattle.std.specs.List.{sum_by}
use Rattle.std.proofs.lemmas.List.{take-map, take_all}
use Rattle.std.proofs.lemmas.List.Concat.{length-flat_map}
use Rattle.std.proofs.lemmas.List.Elements.{All-get_or}
use Rattle.std.proofs.lemmas.Option.{get_or_from_slice_get, same_Some, slice_get-get_or, slice_get-map, slice_get_within}
use Rattle.pw_defs.specs.declared.design.Body.{Body}
use Rattle.pw_defs.specs.declared.netlist.Port.{Port}
use Rattle.list_defs.specs.Orders.{AreAllRising}
use Rattle.list_defs.proofs.Members.{IsIn-map, IsIn-slice_get}
use Rattle.list_defs.proofs.OneList.{one_list}
use Rattle.design_defs.specs.Bits.{IsSpot, Spot, range_in, spot_cmp}
use Rattle.design_defs.specs.Hierarchy.{Sources, Way, body_at, number_named, ports_in}
use Rattle.design_defs.specs.Ranges.{width}
use Rattle.design_defs.proofs.BitOrders.{spot_total}
use Rattle.module_rows.specs.View.{name_at}
use Rattle.net_instances.specs.Instances.{own_bits}
use Rattle.net_instances.specs.declared.numbering.InstanceRow.{InstanceRow}
use Rattle.net_places.specs.Gathered.{net_by}
use Rattle.net_places.specs.Nets.{AreOwnNets, LocalBit, OwnNet, all_spots, bit_count, first_bit, local_bits, own_net, spot_of, spots_of}
use Rattle.net_places.specs.Plans.{names_in, rows_at}
use Rattle.net_places.specs.Tables.{IsPlanOf, bits_in}
use Rattle.net_places.specs.declared.rows.NetRow.{NetRow}
use Rattle.net_places.proofs.BitLaws.{all_spots_are, bit_numbers, local_length, spot_numbers, row_counts}
use Rattle.std.proofs.lemmas.List.{length-map}
use Rattle.net_bits.specs.Placed.{ArePlaced}
use Rattle.net_bits.specs.Standing.{IsLastBegun, IsPlaceOf}
use Rattle.net_bits.specs.declared.placed.Placed.{Placed}
use Rattle.net_bits.proofs.Beginnings.{ends_behind, sums_alike}
use Rattle.design_defs.proofs.BodiesThere.{body_there}

-- what a body owns under a name has the range that it has there
pub range_owned : (s : Sources) (b : Body) (n : OwnNet) → own_net s b n.name ≡ Some n → range_in s b n.name ≡ Some n.range
range_owned s b n own = sym (same n.name (range_in s b n.name)) ∙ ap (option_map (λ (x : OwnNet). x.range)) own
  where
    same : (name : List ℕ) (o : Option (Option (ℕ × ℕ))) → option_map (λ (x : OwnNet). x.range)
        (option_map (λ (range : Option (ℕ × ℕ)). record { name = name; range = range; port = option_and_then (number_named (λ (p : Port). p.name) name) (ports_in s b) }) o) ≡ o
    same name None = refl
    same name (Some r) = refl

module _ (s : Sources) (p : Placed) (there : ArePlaced s p) where
  abbrev symbols : List (List ℕ)
  symbols = p.modules.now.symbols

  abbrev pub ways : List Way
  ways = there.instances.ways

  abbrev rows : List InstanceRow
  rows = p.instances.now.rows

  -- the nets of what is at a way
  abbrev pub nets_of : Option Body → List OwnNet
  nets_of None = []
  nets_of (Some b) = map (net_by (names_in symbols s b)) (rows_at p.plans.now b)

  abbrev pub nets_at : Way → List OwnNet
  nets_at way = nets_of (body_at s way)

  pub plan_at : (way : Way) (b : Body) → body_at s way ≡ Some b → IsPlanOf (own_net s b) (names_in symbols s b) (rows_at p.plans.now b)
  plan_at way b is = there.plans.each b (body_there s way b is)

  owned : (way : Way) (b : Body) → body_at s way ≡ Some b → AreOwnNets s b (nets_at way)
  owned way b is = subst (AreOwnNets s b) (sym (ap nets_of is)) (plan_at way b is).nets

  -- the bits of all instances, one instance after the other, are all spots
  pub same_spots : (spots : List Spot) → AreAllRising spot_cmp (IsSpot s) spots → spots ≡ all_spots nets_at ways
  same_spots spots all = one_list spot_cmp spot_total (IsSpot s) spots (all_spots nets_at ways) all (all_spots_are s nets_at ways there.instances.all_ways owned)

  pub counted_at : (way : Way) (b : Body) → body_at s way ≡ Some b → bit_count (nets_at way) ≡ bits_in (rows_at p.plans.now b)
  counted_at way b is = ap bit_count (ap nets_of is) ∙ row_counts (names_in symbols s b) (rows_at p.plans.now b)

  pub own_counted : (number : ℕ) (row : InstanceRow) (way : Way) → slice_get rows number ≡ Some row → slice_get ways number ≡ Some way
      → own_bits there.bits row ≡ bits_in (rows_at p.plans.now row.body)
  own_counted number row way at_row at_way = let body = (there.instances.each number way row at_way at_row).body in there.counted row.body (body_there s way row.body body)

  abbrev bits_of_way : Way → ℕ
  bits_of_way way = bit_count (nets_at way)

  same_count : (number : ℕ) (row : InstanceRow) (way : Way) → slice_get rows number ≡ Some row → slice_get ways number ≡ Some way → own_bits there.bits row ≡ bits_of_way way
  same_count number row way at_row at_way =
      let body = (there.instances.each number way row at_way at_row).body in
      own_counted number row way at_row at_way ∙ sym (counted_at way row.body body)

  sums_are : (k : ℕ) → sum_by (own_bits there.bits) (take k rows) ≡ sum_by bits_of_way (take k ways)
  sums_are = sums_alike (own_bits there.bits) bits_of_way rows ways there.instances.count same_count

  pub total : sum_by (own_bits there.bits) rows ≡ length (all_spots nets_at ways)
  total =
      let whole_rows : sum_by (own_bits there.bits) (take (length rows) rows) ≡ sum_by (own_bits there.bits) rows = ap (sum_by (own_bits there.bits)) (take_all (length rows) rows (omega arith)) in
      let whole_ways : take (length rows) ways ≡ ways = take_all (length rows) ways (omega (arith, there.instances.count)) in
      let lengths : sum_by bits_of_way (take (length ways) ways) ≡ sum_by (λ (w : Way). length (spots_of nets_at w)) (take (length ways) ways) =
      sums_alike bits_of_way (λ (w : Way). length (spots_of nets_at w)) ways ways refl
      (λ i v w at_v at_w. sym (local_length (nets_at v)) ∙ sym (length-map (local_bits (nets_at v)) (spot_of v))
      ∙ ap (λ (u : Way). length (spots_of nets_at u)) (same_Some v w (sym at_v ∙ at_w))) (length ways) in
      let all_ways : take (length ways) ways ≡ ways = take_all (length ways) ways (omega arith) in
      sym whole_rows ∙ sums_are (length rows) ∙ ap (sum_by bits_of_way) (whole_ways ∙ sym all_ways) ∙ lengths
      ∙ ap (sum_by (λ (w : Way). length (spots_of nets_at w))) all_ways ∙ sym (length-flat_map (spots_of nets_at) ways)

  -- the number of a bit of an instance is that of the first bit of the instance and its number in the body more
  pub bit_there : (owner : ℕ) (row : InstanceRow) (way : Way) (k : ℕ) (x : List ℕ × ℕ) → slice_get rows owner ≡ Some row → slice_get ways owner ≡ Some way
      → slice_get (local_bits (nets_at way)) k ≡ Some x → slice_get (all_spots nets_at ways) (row.first_bit + k) ≡ Some (spot_of way x)
  bit_there owner row way k x at_row at_way at_x =
      let begins : row.first_bit ≡ sum_by bits_of_way (take owner ways) = there.instances.first_bits owner row at_row ∙ sums_are owner in
      ap (λ (n : ℕ). slice_get (all_spots nets_at ways) (n + k)) begins ∙ spot_numbers nets_at ways owner way k x at_way at_x

  -- the number of a bit of a net in its body
  pub net_bit_there : (way : Way) (b : Body) (i : ℕ) (net : NetRow) (place : ℕ) → body_at s way ≡ Some b → slice_get (rows_at p.plans.now b) i ≡ Some net → place < width net.range
      → slice_get (local_bits (nets_at way)) (net.first + place) ≡ Some (name_at (names_in symbols s b) net.name, place)
  net_bit_there way b i net place is at within =
      let nets = map (net_by (names_in symbols s b)) (rows_at p.plans.now b) in
      let at_net : slice_get nets i ≡ Some (net_by (names_in symbols s b) net) =
      slice_get-map (net_by (names_in symbols s b)) (rows_at p.plans.now b) i ∙ ap (option_map (net_by (names_in symbols s b))) at in
      let first : net.first ≡ first_bit nets i =
      sym (ap (λ (r : NetRow). r.first) (get_or_from_slice_get (rows_at p.plans.now b) i net net at))
      ∙ (plan_at way b is).firsts i net (slice_get_within (rows_at p.plans.now b) i net at) in
      ap (λ ns. slice_get (local_bits ns) (net.first + place)) (ap nets_of is) ∙ ap (λ (n : ℕ). slice_get (local_bits nets) (n + place)) first
      ∙ bit_numbers nets i (net_by (names_in symbols s b) net) place at_net within

  net_firsts : (way : Way) (b : Body) → body_at s way ≡ Some b → (i : ℕ) (net : NetRow) → slice_get (rows_at p.plans.now b) i ≡ Some net
      → net.first ≡ sum_by (λ (r : NetRow). width r.range) (take i (rows_at p.plans.now b))
  net_firsts way b is i net at =
      let by_name = net_by (names_in symbols s b) in
      sym (ap (λ (r : NetRow). r.first) (get_or_from_slice_get (rows_at p.plans.now b) i net net at))
      ∙ (plan_at way b is).firsts i net (slice_get_within (rows_at p.plans.now b) i net at)
      ∙ ap bit_count (take-map by_name i (rows_at p.plans.now b)) ∙ row_counts (names_in symbols s b) (take i (rows_at p.plans.now b))

  -- a bit of an instance, by its number there
  pub record IsOwner (bit : ℕ) (x : Spot) (owner : ℕ) (row : InstanceRow) : Type 0 where
    pub way : slice_get ways owner ≡ Some x.way
    pub body : body_at s x.way ≡ Some row.body
    pub low : row.first_bit ≤ bit
    pub few : bit - row.first_bit < bits_in (rows_at p.plans.now row.body)
    pub local : slice_get (local_bits (nets_at x.way)) (bit - row.first_bit) ≡ Some (x.net, x.place)

  -- THE BIT of a number is one of the last instance that begins at or before it.
  pub owner_stands : (spots : List Spot) → AreAllRising spot_cmp (IsSpot s) spots → (bit : ℕ) (x : Spot) → slice_get spots bit ≡ Some x
      → (owner : ℕ) (row : InstanceRow) → IsLastBegun (λ (r : InstanceRow). r.first_bit) rows bit owner row → IsOwner bit x owner row
  owner_stands spots all bit x at_x owner row last = record {
    way = at_way ∙ ap Some (sym (ap (λ (y : Spot). y.way) is));
    body = ap (body_at s) (ap (λ (y : Spot). y.way) is) ∙ body;
    low = last.before;
    few = few;
    local = ap (λ (w : Way). slice_get (local_bits (nets_at w)) (bit - row.first_bit)) (ap (λ (y : Spot). y.way) is) ∙ at_local
        ∙ ap Some (λ i. ((sym is i).net, (sym is i).place));
  }
    where
      same : slice_get (all_spots nets_at ways) bit ≡ Some x
      same = ap (λ ys. slice_get ys bit) (sym (same_spots spots all)) ∙ at_x

      way : Way
      way = get_or ways owner []

      at_way : slice_get ways owner ≡ Some way
      at_way = slice_get-get_or ways owner [] (omega (arith, slice_get_within rows owner row last.there, there.instances.count))

      body : body_at s way ≡ Some row.body
      body = (there.instances.each owner way row at_way last.there).body

      low : row.first_bit ≤ bit
      low = last.before

      high : bit < row.first_bit + own_bits there.bits row
      high =
          ends_behind (λ (r : InstanceRow). r.first_bit) (own_bits there.bits) rows there.instances.first_bits bit
          (omega (arith, slice_get_within (all_spots nets_at ways) bit x same, total)) owner row last

      few : bit - row.first_bit < bits_in (rows_at p.plans.now row.body)
      few = omega (arith, low, high, own_counted owner row way last.there at_way)

      local : LocalBit
      local = get_or (local_bits (nets_at way)) (bit - row.first_bit) ([], 0)

      at_local : slice_get (local_bits (nets_at way)) (bit - row.first_bit) ≡ Some local
      at_local = slice_get-get_or (local_bits (nets_at way)) (bit - row.first_bit) ([], 0) (omega (arith, few, local_length (nets_at way), counted_at way row.body body))

      found : slice_get (all_spots nets_at ways) (row.first_bit + (bit - row.first_bit)) ≡ Some (spot_of way local)
      found = bit_there owner row way (bit - row.first_bit) local last.there at_way at_local

      number : row.first_bit + (bit - row.first_bit) ≡ bit
      number = omega (arith, low)

      is : x ≡ spot_of way local
      is = same_Some x (spot_of way local) (sym same ∙ ap (slice_get (all_spots nets_at ways)) (sym number) ∙ found)

  -- It is of the last net there that begins at or before it.
  pub stands : (spots : List Spot) → AreAllRising spot_cmp (IsSpot s) spots → (bit : ℕ) (x : Spot) → slice_get spots bit ≡ Some x
      → (owner : ℕ) (row : InstanceRow) → IsLastBegun (λ (r : InstanceRow). r.first_bit) rows bit owner row
      → (i : ℕ) (net : NetRow) → IsLastBegun (λ (r : NetRow). r.first) (rows_at p.plans.now row.body) (bit - row.first_bit) i net
      → IsPlaceOf s symbols ways x (record { owner = owner; body = row.body; name = net.name; range = net.range; place = bit - row.first_bit - net.first })
  stands spots all bit x at_x owner row last i net last_net = record {
    way = owned_by.way;
    body = owned_by.body;
    net = named ∙ ap Some (sym (ap (λ (y : LocalBit). y.0) is));
    range = ap (range_in s row.body) (ap (λ (y : LocalBit). y.0) is) ∙ range_owned s row.body own (plan.nets.each own (IsIn-map by_name net nets (IsIn-slice_get nets i net last_net.there)));
    place = ap (λ (y : LocalBit). y.1) is;
  }
    where
      owned_by : IsOwner bit x owner row
      owned_by = owner_stands spots all bit x at_x owner row last

      plan : IsPlanOf (own_net s row.body) (names_in symbols s row.body) (rows_at p.plans.now row.body)
      plan = plan_at x.way row.body owned_by.body

      nets : List NetRow
      nets = rows_at p.plans.now row.body

      by_name : NetRow → OwnNet
      by_name = net_by (names_in symbols s row.body)

      own : OwnNet
      own = by_name net

      k : ℕ
      k = bit - row.first_bit

      net_low : net.first ≤ k
      net_low = last_net.before

      net_high : k < net.first + width net.range
      net_high = ends_behind (λ (r : NetRow). r.first) (λ (r : NetRow). width r.range) nets (net_firsts x.way row.body owned_by.body) k owned_by.few i net last_net

      local : slice_get (local_bits (nets_at x.way)) (net.first + (k - net.first)) ≡ Some (own.name, k - net.first)
      local = net_bit_there x.way row.body i net (k - net.first) owned_by.body last_net.there (omega (arith, net_low, net_high))

      number : net.first + (k - net.first) ≡ k
      number = omega (arith, net_low)

      here : LocalBit
      here = (x.net, x.place)

      found : LocalBit
      found = (own.name, k - net.first)

      is : here ≡ found
      is = same_Some here found (sym owned_by.local ∙ ap (slice_get (local_bits (nets_at x.way))) (sym number) ∙ local)

      named : slice_get (names_in symbols s row.body) net.name ≡ Some own.name
      named = slice_get-get_or (names_in symbols s row.body) net.name []
          (subst (λ (r : NetRow). r.name < length (names_in symbols s row.body)) (get_or_from_slice_get nets i net net last_net.there)
          (All-get_or (λ (r : NetRow). r.name < length (names_in symbols s row.body)) nets i net (slice_get_within nets i net last_net.there) plan.named))
