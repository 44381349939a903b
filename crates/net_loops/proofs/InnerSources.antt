-- What the tables of cells and models say of the bits of instances.
use Rattle.std.proofs.Common.{◌≡◌, ℕ, ◌+◌, ◌-◌, List, Some, length, option_and_then, slice_get, sym, ap, ◌∙◌, subst, arith}
use Rattle.std.proofs.lemmas.Option.{none-some, same_Some, slice_get_within}
use Rattle.pw_defs.specs.declared.design.Body.{Body}
use Rattle.pw_defs.specs.declared.design.Body.TheVariants.{Module as ModuleBody, Cell as CellBody, Model as ModelBody}
use Rattle.list_defs.specs.Members.{IsIn}
use Rattle.list_defs.specs.Orders.{AreAllRising}
use Rattle.list_defs.proofs.Few.{place_of_member}
use Rattle.list_defs.proofs.Members.{IsIn-slice_get}
use Rattle.list_defs.proofs.OneList.{one_place}
use Rattle.design_defs.specs.Bits.{IsSpot, Spot, range_in, spot_cmp}
use Rattle.design_defs.specs.DesignFaults.{FaultKind, HasNoneBefore}
use Rattle.design_defs.specs.Hierarchy.{Sources, Way, body_at}
use Rattle.design_defs.specs.Inputs.{AreReadSources}
use Rattle.design_defs.specs.Ranges.{bit_name}
use Rattle.design_defs.proofs.BitOrders.{spot_total}
use Rattle.net_bits.specs.Placed.{ArePlaced}
use Rattle.net_bits.specs.declared.placed.Placed.{Placed}
use Rattle.net_bits.proofs.Spots.{IsOwner, bit_there, counted_at, nets_of, same_spots, ways}
use Rattle.net_inner.specs.Inside.{AreInnerSources, AreSources, IsFedInside, names_of_bits, source_in}
use Rattle.net_inner.specs.Pairs.{pairs_of}
use Rattle.net_inner.specs.declared.inner.Inner.{Inner}
use Rattle.net_instances.specs.declared.numbering.InstanceRow.{InstanceRow}
use Rattle.net_places.specs.Nets.{LocalBit, bit_count, local_bits, spot_of}
use Rattle.net_places.specs.Plans.{rows_at}
use Rattle.net_places.specs.Tables.{bits_in}
use Rattle.net_places.proofs.BitLaws.{local_length}
use Rattle.net_loops.proofs.Insides.{IsNameAt, at_name, feeds_said, local_are, name_at, names_differ, said_feeds}
use Rattle.net_loops.proofs.OwnPorts.{IsLeaf}

-- only cells and models have tables
pub leaf_of_source : (inner : Inner) (b : Body) (k from : ℕ) → source_in inner b k ≡ Some from → IsLeaf b
leaf_of_source inner (ModuleBody c) k from is = absurd (none-some from is)
leaf_of_source inner (CellBody c) k from is = tt
leaf_of_source inner (ModelBody c) k from is = tt

module _ (s : Sources) (p : Placed) (there : ArePlaced s p) (read : AreReadSources s) (early : HasNoneBefore FaultKind.wire_loop s)
    (spots : List Spot) (all : AreAllRising spot_cmp (IsSpot s) spots) (inner : Inner) (sources : AreInnerSources s p inner) where
  abbrev rows : List InstanceRow
  rows = p.instances.now.rows

  spot_at : (n : ℕ) (x : Spot) → slice_get spots n ≡ Some x → IsSpot s x
  spot_at n x at = all.each x (IsIn-slice_get spots n x at)

  -- a bit of a body by the number of an instance's first bit and its own
  pub local_spot : (owner : ℕ) (row : InstanceRow) (way : Way) (b : LocalBit) (k : ℕ) → slice_get rows owner ≡ Some row → slice_get (ways s p there) owner ≡ Some way
      → body_at s way ≡ Some row.body → slice_get (local_bits (nets_of s p there (Some row.body))) k ≡ Some b → slice_get spots (row.first_bit + k) ≡ Some (spot_of way b)
  local_spot owner row way b k at_row at_way body at_b =
      ap (λ ys. slice_get ys (row.first_bit + k)) (same_spots s p there spots all)
      ∙ bit_there s p there owner row way k b at_row at_way (ap (λ o. slice_get (local_bits (nets_of s p there o)) k) body ∙ at_b)

  -- a bit of an instance has a number in its body
  pub own_bit : (n : ℕ) (x : Spot) → slice_get spots n ≡ Some x → (owner : ℕ) (row : InstanceRow) → slice_get rows owner ≡ Some row → slice_get (ways s p there) owner ≡ Some x.way
      → IsOwner s p there n x owner row
  own_bit n x at_x owner row at_row at_way = record {
    way = at_way;
    body = body;
    low = omega (arith, number);
    few = omega (arith, number, slice_get_within bits k.0 (x.net, x.place) k.1, count);
    local = ap (λ o. slice_get (local_bits (nets_of s p there o)) (n - row.first_bit)) body ∙ ap (slice_get bits) behind ∙ k.1;
  }
    where
      body : body_at s x.way ≡ Some row.body
      body = (there.instances.each owner x.way row at_way at_row).body

      is : IsSpot s x
      is = spot_at n x at_x

      bits : List LocalBit
      bits = local_bits (nets_of s p there (Some row.body))

      k : (k : ℕ) × (slice_get bits k ≡ Some (x.net, x.place))
      k =
          place_of_member (x.net, x.place) bits ((local_are s p there x.way row.body body).all (x.net, x.place)
          (record { range = is.0; is_range = sym (ap (option_and_then (λ b. range_in s b x.net)) body) ∙ is.1; within = is.2 }))

      number : row.first_bit + k.0 ≡ n
      number = one_place spot_cmp spot_total spots all.rising (row.first_bit + k.0) n x (local_spot owner row x.way (x.net, x.place) k.0 at_row at_way body k.1) at_x

      behind : n - row.first_bit ≡ k.0
      behind = omega (arith, number)

      count : length bits ≡ bits_in (rows_at p.plans.now row.body)
      count = local_length (nets_of s p there (Some row.body)) ∙ sym (ap (λ o. bit_count (nets_of s p there o)) body) ∙ counted_at s p there x.way row.body body

  -- WHAT the table of a cell or model says of a bit
  module _ (n : ℕ) (x : Spot) (at_x : slice_get spots n ≡ Some x) (owner : ℕ) (row : InstanceRow) (at_row : slice_get rows owner ≡ Some row)
      (own : IsOwner s p there n x owner row) (leaf : IsLeaf row.body) where
    differ : AreSources (names_of_bits s p row.body) (pairs_of s row.body) (source_in inner row.body)
    differ = sources owner row at_row (names_differ s p there early x.way row.body leaf own.body)

    pub record HasSource (from : ℕ) : Type 0 where
      pub y : Spot
      pub at_y : slice_get spots (row.first_bit + from) ≡ Some y
      pub inside : IsFedInside s x y

    here : IsNameAt s p there row.body (n - row.first_bit) (bit_name x.net ((spot_at n x at_x).0) x.place)
    here = name_at s p there x.way row.body own.body (n - row.first_bit) _ (at_name s p there row.body (n - row.first_bit) (x.net, x.place) (spot_at n x at_x).0
        (sym (ap (λ o. slice_get (local_bits (nets_of s p there o)) (n - row.first_bit)) own.body) ∙ own.local)
        (sym (ap (option_and_then (λ b. range_in s b x.net)) own.body) ∙ (spot_at n x at_x).1))

    pub source_of : (from : ℕ) → source_in inner row.body (n - row.first_bit) ≡ Some from → HasSource from
    source_of from is =
        let said = differ.said (n - row.first_bit) from is in
        let a = name_at s p there x.way row.body own.body (n - row.first_bit) said.0 said.2 in
        let b = name_at s p there x.way row.body own.body from said.1 said.3 in
        let same : (x.net, x.place) ≡ a.bit = same_Some (x.net, x.place) a.bit (sym own.local ∙ ap (λ o. slice_get (local_bits (nets_of s p there o)) (n - row.first_bit)) own.body ∙ a.at) in
        let fed_there : IsFedInside s (spot_of x.way a.bit) (spot_of x.way b.bit) =
        said_feeds s p there read x.way a.bit b.bit a.range b.range row.body own.body a.is_range b.is_range b.within
        (subst (λ z. IsIn (z, bit_name b.bit.0 b.range b.bit.1) (pairs_of s row.body)) a.is_name (subst (λ z. IsIn (said.0, z) (pairs_of s row.body)) b.is_name said.4)) in
        record {
          y = spot_of x.way b.bit;
          at_y = local_spot owner row x.way b.bit from at_row own.way own.body b.at;
          inside = subst (λ (z : LocalBit). IsFedInside s (spot_of x.way z) (spot_of x.way b.bit)) (sym same) fed_there;
        }

    pub some_source : (y : Spot) → IsSpot s y → y.way ≡ x.way → IsFedInside s x y → (from : ℕ) × (source_in inner row.body (n - row.first_bit) ≡ Some from)
    some_source y is_y same is =
        let body_y : body_at s y.way ≡ Some row.body = ap (body_at s) same ∙ own.body in
        let range_x : range_in s row.body x.net ≡ Some (spot_at n x at_x).0 = sym (ap (option_and_then (λ b. range_in s b x.net)) own.body) ∙ (spot_at n x at_x).1 in
        let range_y : range_in s row.body y.net ≡ Some is_y.0 = sym (ap (option_and_then (λ b. range_in s b y.net)) body_y) ∙ is_y.1 in
        let bits : List LocalBit = local_bits (nets_of s p there (Some row.body)) in
        let j = place_of_member (y.net, y.place) bits ((local_are s p there x.way row.body own.body).all (y.net, y.place) (record { range = is_y.0; is_range = range_y; within = is_y.2 })) in
        let at_k : slice_get bits (n - row.first_bit) ≡ Some (x.net, x.place) = sym (ap (λ o. slice_get (local_bits (nets_of s p there o)) (n - row.first_bit)) own.body) ∙ own.local in
        let fed_there : IsFedInside s (spot_of x.way (x.net, x.place)) (spot_of x.way (y.net, y.place)) =
        subst (λ (w : Way). IsFedInside s x (record { way = w; net = y.net; place = y.place })) same is in
        differ.some (n - row.first_bit) j.0 (bit_name x.net (spot_at n x at_x).0 x.place) (bit_name y.net is_y.0 y.place)
        (at_name s p there row.body (n - row.first_bit) (x.net, x.place) (spot_at n x at_x).0 at_k range_x) (at_name s p there row.body j.0 (y.net, y.place) is_y.0 j.1 range_y)
        (feeds_said s p there read x.way (x.net, x.place) (y.net, y.place) (spot_at n x at_x).0 is_y.0 row.body own.body range_x range_y fed_there)
