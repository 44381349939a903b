-- Where the instances and the bits of rows stand in a hierarchy.
use Rattle.std.proofs.Common.{◌≡◌, ℕ, zero, suc, ◌+◌, ◌<◌, ◌≤◌, ◌⊎◌, inl, inr, List, [], ◌∷◌, ◌++◌, Option}
use Rattle.std.proofs.Common.{Some, None, get_or, length, map, option_and_then, option_map, take, refl, sym, ap, ◌∙◌, subst, arith}
use Rattle.std.specs.List.{AllZip, range_with_len, slice_get, slice_range, sum_by}
use Rattle.std.proofs.lemmas.Bool.{cases_order}
use Rattle.std.proofs.lemmas.List.{length-map, map-append}
use Rattle.std.proofs.lemmas.Option.{get_or_from_slice_get, same_Some, slice_get-get_or, slice_get-map, slice_get_within}
use Rattle.std.proofs.lemmas.Slice.Zip.{AllZip-long}
use Rattle.pw_defs.specs.declared.cells.Cells.{Cells}
use Rattle.pw_defs.specs.declared.design.Body.{Body}
use Rattle.pw_defs.specs.declared.design.Body.TheVariants.{Module as ModuleBody, Cell as CellBody, Model as ModelBody}
use Rattle.pw_defs.specs.declared.model.Model.{Model}
use Rattle.pw_defs.specs.declared.netlist.Port.{Port}
use Rattle.list_defs.specs.Members.{IsIn}
use Rattle.list_defs.specs.Orders.{AreAllRising}
use Rattle.list_defs.proofs.Longer.{slice_get-append}
use Rattle.list_defs.proofs.Members.{IsIn-flat_map_from, IsIn-map_from, IsIn-slice_get}
use Rattle.list_defs.proofs.OneList.{one_list, one_place}
use Rattle.design_defs.specs.Bits.{IsSpot, Spot, range_in, spot_cmp}
use Rattle.design_defs.specs.Designs.{head_of}
use Rattle.design_defs.specs.Hierarchy.{Sources, Way, body_at, number_named, path, ports_in, way_cmp}
use Rattle.design_defs.specs.Names.{joined}
use Rattle.design_defs.specs.Ranges.{width}
use Rattle.design_defs.proofs.BitOrders.{spot_total, way_total}
use Rattle.design_laws.proofs.FirstFound.{left_of}
use Rattle.design_laws.proofs.Top.{lower_place, outer_before}
use Rattle.design_rows.specs.declared.tables.KindRow.{KindRow}
use Rattle.design_rows.specs.declared.tables.PlaceRow.{PlaceRow}
use Rattle.design_rows.specs.declared.tables.Rows.{Rows}
use Rattle.design_rows.specs.Sound.{AreRows, Owns}
use Rattle.design_rows.specs.View.{inst_at, kind_of, name_at, no_instance, no_kind, no_place, path_at, size}
use Rattle.design_rows.proofs.Owners.{next_first}
use Rattle.design_rows.proofs.Paths.{path_top, path_under}
use Rattle.module_rows.specs.declared.plain.Netlist.{Netlist}
use Rattle.net_instances.specs.declared.numbering.InstanceRow.{InstanceRow}
use Rattle.net_instances.specs.declared.numbering.Instances.{Instances}
use Rattle.net_instances.specs.Instances.{AreInstances, IsInsideAt, IsInstanceRow}
use Rattle.net_places.specs.declared.plans.Plans.{Plans}
use Rattle.net_places.specs.Gathered.{net_by}
use Rattle.net_places.specs.Nets.{AreOwnNets, LocalBit, OwnNet, all_spots, bit_count, bit_of, local_bits, own_net}
use Rattle.net_places.specs.Plans.{ArePlans, IsOf, names_in, rows_at}
use Rattle.net_places.proofs.BitLaws.{all_spots_are, local_bits_are, local_length, spot_numbers}
use Rattle.net_sizes.specs.declared.sizes.Counts.{Counts}
use Rattle.net_frames.specs.Feeding.{body_in, own_place}
use Rattle.net_frames.specs.Framed.{AreFramed, IsRowOf}
use Rattle.net_frames.specs.Places.{IsPlaceOf, NetBit, bits_in, bits_of_nets, net_bits, spellings}
use Rattle.net_frames.proofs.ListLemmas.{get_part, part_length, sums_by_place}
use Rattle.design_defs.proofs.BodiesThere.{body_there}

-- NETS with their bits, by names and places
abbrev local_of : NetBit → LocalBit
local_of bit = (bit.0.name, bit.1)

locals_in_net : (net : OwnNet) (ks : List ℕ) → map (bit_of net) ks ≡ map local_of (map (λ place. (net, place)) ks)
locals_in_net net [] = refl
locals_in_net net (k ∷ ks) = ap (λ rest. (net.name, k) ∷ rest) (locals_in_net net ks)

pub locals_are : (nets : List OwnNet) → local_bits nets ≡ map local_of (bits_of_nets nets)
locals_are [] = refl
locals_are (net ∷ nets) =
    ap (λ front. front ++ local_bits nets) (locals_in_net net (range_with_len 0 (width net.range)))
    ∙ ap (λ rest. map local_of (net_bits net) ++ rest) (locals_are nets)
    ∙ sym (map-append local_of (net_bits net) (bits_of_nets nets))

-- the net of a bit is one of the nets
net_of_bit : (nets : List OwnNet) (bit : NetBit) → IsIn bit (bits_of_nets nets) → IsIn bit.0 nets
net_of_bit nets bit there =
    let from = IsIn-flat_map_from net_bits nets bit there in
    let place = IsIn-map_from (λ k. (from.0, k)) bit (range_with_len 0 (width from.0.range)) from.2 in
    let same : bit.0 ≡ from.0 = ap (λ (x : NetBit). x.0) place.2 in
    subst (λ x. IsIn x nets) (sym same) from.1

-- what a net that is owned says
pub owned : (s : Sources) (body : Body) (name : List ℕ) (net : OwnNet) → own_net s body name ≡ Some net
    → (range_in s body name ≡ Some net.range) × (net.port ≡ option_and_then (number_named (λ (q : Port). q.name) name) (ports_in s body))
owned s body name net is = by (range_in s body name) refl is
  where
    number : Option ℕ
    number = option_and_then (number_named (λ (q : Port). q.name) name) (ports_in s body)

    by : (o : Option (Option (ℕ × ℕ))) → range_in s body name ≡ o
        → option_map (λ (range : Option (ℕ × ℕ)). record { name = name; range = range; port = number }) o ≡ Some net
        → (range_in s body name ≡ Some net.range) × (net.port ≡ number)
    by None none e = cc
    by (Some range) there e =
        let is_net : record { name = name; range = range; port = number } ≡ net = same_Some _ net e in
        (there ∙ ap (λ (x : OwnNet). Some x.range) is_net, sym (ap (λ (x : OwnNet). x.port) is_net))

-- OWNERS. One instance owns a bit.
later_owner : (r : Rows) → AreRows r → (j i n : ℕ) → i < j → Owns r i n → j < length r.insts → n < (inst_at r j).first_bit
later_owner r rows zero i n less one within = absurd (omega arith)
later_owner r rows (suc j) i n less one within = by (cases_order i j) (λ before. later_owner r rows j i n before one (omega arith))
  where
    next : (inst_at r (suc j)).first_bit ≡ (inst_at r j).first_bit + size r (inst_at r j)
    next = next_first r rows j (suc j) (omega arith) within

    by : (i ≡ j) ⊎ ((i < j) ⊎ (j < i)) → (i < j → n < (inst_at r j).first_bit) → n < (inst_at r (suc j)).first_bit
    by (inl same) rest =
        let end : (inst_at r i).first_bit + size r (inst_at r i) ≡ (inst_at r j).first_bit + size r (inst_at r j) =
        ap (λ (k : ℕ). (inst_at r k).first_bit + size r (inst_at r k)) same in
        omega (arith, one.to, end, next)
    by (inr (inl before)) rest = let early = rest before in omega (arith, next, early)
    by (inr (inr behind)) rest = absurd (omega arith)

pub one_owner : (r : Rows) → AreRows r → (i j n : ℕ) → Owns r i n → Owns r j n → i ≡ j
one_owner r rows i j n one other = by (cases_order i j)
  where
    by : (i ≡ j) ⊎ ((i < j) ⊎ (j < i)) → i ≡ j
    by (inl same) = same
    by (inr (inl before)) = let past = later_owner r rows j i n before one other.there in absurd (omega (arith, past, other.from))
    by (inr (inr behind)) = let past = later_owner r rows i j n behind other one.there in absurd (omega (arith, past, one.from))

-- what is known of whole rows
pub record IsWhole (n : Netlist) (p : Plans) (instances : List InstanceRow) (r : Rows) : Type 0 where
  pub rows : AreRows r
  pub heads : r.modules ≡ map head_of n.modules
  pub framed : AreFramed n p instances r

module _ (s : Sources) (n : Netlist) (p : Plans) (made : Instances) (counts : Counts) (r : Rows) (whole : IsWhole n p made.rows r) (is_of : IsOf n r.cells r.models s)
    (insts : AreInstances s n counts made) where
  -- INSTANCES
  abbrev ways : List Way
  ways = insts.ways

  pub as_many : length r.insts ≡ length ways
  as_many = AllZip-long (IsRowOf r) made.rows r.insts whole.framed.rows ∙ insts.count

  -- an instance of the rows with its way
  pub record IsAt (o : ℕ) (way : Way) : Type 0 where
    pub there : slice_get ways o ≡ Some way
    pub within : o < length r.insts
    pub instance : InstanceRow
    pub is : IsInstanceRow s n.symbols ways made.children way instance
    pub row : IsRowOf r instance (inst_at r o)

  pub at_way : (o : ℕ) (way : Way) → slice_get ways o ≡ Some way → IsAt o way
  at_way o way there =
      let within : o < length r.insts = omega (arith, slice_get_within ways o way there, as_many) in
      let found = left_of (IsRowOf r) made.rows r.insts whole.framed.rows o (inst_at r o) (slice_get-get_or r.insts o no_instance within) in
      record { there = there; within = within; instance = found.0; is = insts.each o way found.0 there found.1; row = found.2 }

  pub way_at : (o : ℕ) → o < length r.insts → (way : Way) × IsAt o way
  way_at o within =
      let way : Way = get_or ways o [] in
      (way, at_way o way (slice_get-get_or ways o [] (omega (arith, within, as_many))))

  -- the first is the top
  pub first_is_top : (way : Way) → slice_get ways 0 ≡ Some way → way ≡ []
  first_is_top way there = by way there (at_way 0 way there).is.inside
    where
      by : (w : Way) → slice_get ways 0 ≡ Some w → IsInsideAt s n.symbols ways (at_way 0 way there).instance w → w ≡ []
      by w at IsInsideAt.top = refl
      by w at (IsInsideAt.inner name outer outer_at named line) =
          let before = lower_place way_cmp way_total ways insts.all_ways.rising _ 0 outer (name ∷ outer) outer_at at (outer_before name outer) in
          absurd (omega (arith, before))

  pub top_is_first : (o : ℕ) → slice_get ways o ≡ Some [] → o ≡ 0
  top_is_first o there =
      let some : 0 < length ways = omega (arith, slice_get_within ways o [] there) in
      let first : Way = get_or ways 0 [] in
      let at = slice_get-get_or ways 0 [] some in
      one_place way_cmp way_total ways insts.all_ways.rising o 0 [] there (at ∙ ap Some (first_is_top first at))

  -- the name of an instance
  pub inst_name : (o : ℕ) (name : List ℕ) (instance : InstanceRow) → IsRowOf r instance (inst_at r o) → slice_get n.symbols instance.name ≡ Some name
      → name_at r (inst_at r o).name ≡ name
  inst_name o name instance row named =
      let has = whole.framed.kinds.symbols in
      let there : slice_get r.names (inst_at r o).name ≡ Some name =
      ap (λ (names : List (List ℕ)). slice_get names (inst_at r o).name) has.1 ∙ ap (slice_get (n.symbols ++ has.0)) row.name
      ∙ slice_get-append n.symbols has.0 instance.name name named in
      get_or_from_slice_get r.names (inst_at r o).name name [] there

  -- the path of an instance, by the paths of those before it
  path_step : (o : ℕ) → ((q : ℕ) (outer : Way) → q < o → slice_get ways q ≡ Some outer → path_at r q ≡ path outer) → o < length r.insts → (w : Way)
      → slice_get ways o ≡ Some w → (instance : InstanceRow) → IsRowOf r instance (inst_at r o) → IsInsideAt s n.symbols ways instance w → path_at r o ≡ path w
  path_step o before within w there instance row IsInsideAt.top = path_top r whole.rows o (top_is_first o there)
  path_step o before within w there instance row (IsInsideAt.inner name outer outer_at named line) =
      let some : 0 < o = below o there in
      let parent : slice_get ways (inst_at r o).parent ≡ Some outer = ap (slice_get ways) row.inside ∙ outer_at in
      path_under r whole.rows o some
      ∙ ap (λ xs. joined xs (name_at r (inst_at r o).name)) (before (inst_at r o).parent outer (whole.rows.parents o some within) parent)
      ∙ ap (joined (path outer)) (inst_name o name instance row named)
    where
      below : (k : ℕ) → slice_get ways k ≡ Some (name ∷ outer) → 0 < k
      below zero at = let no = first_is_top (name ∷ outer) at in cc
      below (suc k) at = omega arith

  path_to : (bound o : ℕ) (way : Way) → o ≤ bound → slice_get ways o ≡ Some way → path_at r o ≡ path way
  path_to zero o way few there =
      let at = at_way o way there in
      path_step o (λ q outer less e. absurd (omega arith)) at.within way there at.instance at.row at.is.inside
  path_to (suc bound) o way few there =
      let at = at_way o way there in
      path_step o (λ q outer less e. path_to bound q outer (omega arith) e) at.within way there at.instance at.row at.is.inside

  pub path_is : (o : ℕ) (way : Way) → slice_get ways o ≡ Some way → path_at r o ≡ path way
  path_is o way there = path_to o o way (omega arith) there

  -- what an instance is an instance of
  pub body_is : (o : ℕ) (way : Way) → IsAt o way → body_at s way ≡ Some (body_in r o)
  body_is o way at =
      let kind = at.row.kind in
      let same : kind_of r (inst_at r o) ≡ kind.0 = get_or_from_slice_get r.kinds (inst_at r o).kind kind.0 no_kind kind.1 in
      at.is.body ∙ ap Some (sym kind.2 ∙ ap (λ (k : KindRow). k.body) (sym same))

  -- NETS
  abbrev pub nets_of : Option Body → List OwnNet
  nets_of None = []
  nets_of (Some body) = map (net_by (names_in n.symbols s body)) (rows_at p body)

  abbrev nets : Way → List OwnNet
  nets way = nets_of (body_at s way)

  abbrev spelled_by : List (List ℕ) → Cells → List Model → Body → List (List ℕ)
  spelled_by symbols cells models body = names_in symbols (record { modules = n.modules; cells = cells; models = models; top = [] }) body

  same_spelled : (body : Body) → spellings n r body ≡ names_in n.symbols s body
  same_spelled (ModuleBody m) = refl
  same_spelled (CellBody c) = ap (λ (cells : Cells). spelled_by n.symbols cells r.models (CellBody c)) (sym is_of.1)
  same_spelled (ModelBody m) = ap (λ (models : List Model). spelled_by n.symbols r.cells models (ModelBody m)) (sym is_of.2)

  same_bits : (o : ℕ) (way : Way) → IsAt o way → bits_in n p r (body_in r o) ≡ bits_of_nets (nets way)
  same_bits o way at =
      ap (λ names. bits_of_nets (map (net_by names) (rows_at p (body_in r o)))) (same_spelled (body_in r o))
      ∙ ap (λ (body : Option Body). bits_of_nets (nets_of body)) (sym (body_is o way at))

  -- the places of an instance are those of the bits of its nets
  abbrev places_of : ℕ → List PlaceRow
  places_of o = let kind = kind_of r (inst_at r o) in slice_range r.places kind.first (kind.first + kind.size)

  pub places_are : (o : ℕ) (way : Way) → IsAt o way → AllZip (IsPlaceOf r.names) (bits_of_nets (nets way)) (places_of o)
  places_are o way at =
      let kind = at.row.kind in
      let same : kind_of r (inst_at r o) ≡ kind.0 = get_or_from_slice_get r.kinds (inst_at r o).kind kind.0 no_kind kind.1 in
      let are = whole.framed.kinds.each (inst_at r o).kind kind.0 kind.1 in
      let P : KindRow → Type 0 = λ k. AllZip (IsPlaceOf r.names) (bits_in n p r k.body) (slice_range r.places k.first (k.first + k.size)) in
      subst (λ xs. AllZip (IsPlaceOf r.names) xs (places_of o)) (same_bits o way at) (subst P (sym same) are)

  fits : (o : ℕ) (way : Way) → IsAt o way → (kind_of r (inst_at r o)).first + size r (inst_at r o) ≤ length r.places
  fits o way at = whole.rows.kind_places (inst_at r o).kind (slice_get_within r.kinds (inst_at r o).kind at.row.kind.0 at.row.kind.1)

  pub size_is : (o : ℕ) (way : Way) → IsAt o way → size r (inst_at r o) ≡ bit_count (nets way)
  size_is o way at =
      let kind = kind_of r (inst_at r o) in
      let count : length (places_of o) ≡ kind.size = part_length r.places kind.first kind.size (fits o way at) in
      let long : length (places_of o) ≡ length (bits_of_nets (nets way)) = AllZip-long (IsPlaceOf r.names) (bits_of_nets (nets way)) (places_of o) (places_are o way at) in
      sym count ∙ long ∙ sym (length-map (bits_of_nets (nets way)) local_of) ∙ sym (ap length (locals_are (nets way))) ∙ local_length (nets way)

  -- the instances begin where the bits of those before them end
  pub first_is : (o : ℕ) → o < length r.insts → (inst_at r o).first_bit ≡ sum_by (λ (w : Way). bit_count (nets w)) (take o ways)
  first_is o within =
      whole.rows.firsts o within
      ∙ sums_by_place (size r) (λ (w : Way). bit_count (nets w)) r.insts ways as_many (λ i row way here there.
      let at = at_way i way there in
      let same : inst_at r i ≡ row = get_or_from_slice_get r.insts i row no_instance here in
      ap (size r) (sym same) ∙ size_is i way at) o

  -- BITS
  module _ (plans : ArePlans s n.symbols p) where
    pub nets_are : (way : Way) (body : Body) → body_at s way ≡ Some body → AreOwnNets s body (nets way)
    nets_are way body is =
        let are = plans.each body (body_there s way body is) in
        subst (λ (o : Option Body). AreOwnNets s body (nets_of o)) (sym is) are.nets

    pub spots_are : (spots : List Spot) → AreAllRising spot_cmp (IsSpot s) spots → spots ≡ all_spots nets ways
    spots_are spots are = one_list spot_cmp spot_total (IsSpot s) spots (all_spots nets ways) are (all_spots_are s nets ways insts.all_ways nets_are)

    -- a bit of an instance, with its net and its place
    pub record IsBit (way : Way) (o at : ℕ) : Type 0 where
      pub bit : NetBit
      pub place : IsPlaceOf r.names bit (own_place r o at)
      pub own : own_net s (body_in r o) bit.0.name ≡ Some bit.0
      pub within : bit.1 < width bit.0.range
      pub number : (spots : List Spot) → AreAllRising spot_cmp (IsSpot s) spots
          → slice_get spots ((inst_at r o).first_bit + at) ≡ Some (record { way = way; net = bit.0.name; place = bit.1 })

    pub bit_of_inst : (o at : ℕ) (way : Way) → IsAt o way → at < size r (inst_at r o) → IsBit way o at
    bit_of_inst o at way is inside = record { bit = bit; place = found.2; own = own; within = within; number = number }
      where
        kind : KindRow
        kind = kind_of r (inst_at r o)

        there : slice_get (places_of o) at ≡ Some (own_place r o at)
        there = get_part r.places kind.first kind.size at inside ∙ slice_get-get_or r.places (kind.first + at) no_place (omega (arith, fits o way is))

        found : (bit : NetBit) × (slice_get (bits_of_nets (nets way)) at ≡ Some bit) × IsPlaceOf r.names bit (own_place r o at)
        found = left_of (IsPlaceOf r.names) (bits_of_nets (nets way)) (places_of o) (places_are o way is) at (own_place r o at) there

        bit : NetBit
        bit = found.0

        own : own_net s (body_in r o) bit.0.name ≡ Some bit.0
        own = (nets_are way (body_in r o) (body_is o way is)).each bit.0 (net_of_bit (nets way) bit (IsIn-slice_get (bits_of_nets (nets way)) at bit found.1))

        local_there : slice_get (local_bits (nets way)) at ≡ Some (local_of bit)
        local_there = ap (λ xs. slice_get xs at) (locals_are (nets way)) ∙ slice_get-map local_of (bits_of_nets (nets way)) at ∙ ap (option_map local_of) found.1

        within : bit.1 < width bit.0.range
        within =
            let local = (local_bits_are s (body_in r o) (nets way) (nets_are way (body_in r o) (body_is o way is))).each (local_of bit)
            (IsIn-slice_get (local_bits (nets way)) at (local_of bit) local_there) in
            let range : local.range ≡ bit.0.range = same_Some local.range bit.0.range (sym local.is_range ∙ (owned s (body_in r o) bit.0.name bit.0 own).0) in
            subst (λ (x : Option (ℕ × ℕ)). bit.1 < width x) range local.within

        number : (spots : List Spot) → AreAllRising spot_cmp (IsSpot s) spots
            → slice_get spots ((inst_at r o).first_bit + at) ≡ Some (record { way = way; net = bit.0.name; place = bit.1 })
        number spots are =
            ap (λ xs. slice_get xs ((inst_at r o).first_bit + at)) (spots_are spots are)
            ∙ ap (λ (k : ℕ). slice_get (all_spots nets ways) (k + at)) (first_is o is.within)
            ∙ spot_numbers nets ways o way at (local_of bit) is.there local_there
