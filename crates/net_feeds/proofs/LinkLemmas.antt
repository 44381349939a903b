-- The links of the modules of instances are those of the hierarchy.
use Rattle.std.proofs.Common.{◌≡◌, ℕ, ◌+◌, List, [], ◌∷◌, get_or, map, refl, sym, ap, ◌∙◌, subst, arith}
use Rattle.std.specs.Prelude.{Option, Some, None, option_and_then, option_map}
use Rattle.std.specs.List.{slice_get, slice_index_or}
use Rattle.std.proofs.lemmas.Option.{same_Some, slice_get-get_or, slice_get-map, slice_get_within}
use Rattle.pw_defs.specs.declared.design.Body.TheVariants.{Module as ModuleBody}
use Rattle.pw_defs.specs.declared.netlist.Module.{Module}
use Rattle.list_defs.specs.Orders.{AreAllRising}
use Rattle.list_defs.proofs.Members.{IsIn-slice_get}
use Rattle.list_defs.proofs.OneList.{one_list}
use Rattle.design_defs.specs.Bits.{IsSpot, Spot, spot_cmp}
use Rattle.design_defs.specs.Hierarchy.{IsOfModule, Sources, Way, body_at, body_inside}
use Rattle.design_defs.specs.Links.{End, Link, links_in}
use Rattle.design_defs.specs.Links.{spot_of as end_spot}
use Rattle.design_laws.proofs.FirstFound.{left_of, right_of}
use Rattle.design_laws.proofs.SpotLists.{net_place_total}
use Rattle.net_hierarchy.specs.Graph.{AreInstsApart}
use Rattle.net_hierarchy.proofs.Ways.{inside_of_line}
use Rattle.net_instances.specs.Instances.{HasChildAt, child_in}
use Rattle.net_instances.specs.declared.numbering.InstanceRow.{InstanceRow}
use Rattle.net_instances.specs.declared.numbering.Instances.{Instances}
use Rattle.net_places.specs.Nets.{AreOwnNets, IsLocalBit, LocalBit, local_bits, local_cmp, spot_of}
use Rattle.net_places.proofs.BitLaws.{local_bits_are}
use Rattle.net_runs.specs.LocalNumbers.{IsBitNumber}
use Rattle.net_links.specs.LocalLinks.{AreLocalLinks, IsLocalEnd, IsLocalLink, LocalEnd, LocalLink, locals}
use Rattle.net_links.specs.declared.rows.LinkRow.{LinkRow}
use Rattle.net_bits.specs.Placed.{ArePlaced}
use Rattle.net_bits.specs.declared.placed.Placed.{Placed}
use Rattle.net_bits.proofs.Spots.{bit_there, nets_at, nets_of, plan_at, same_spots}
use Rattle.net_feeds.specs.declared.links.LinkAt.{LinkAt}
use Rattle.net_feeds.specs.LinkNumbers.{HasSpotAt, IsLinkAt, IsLinkOf, bit_behind, end_number, first_bit_of, link_at, links_at, rows_of, rows_of_body, rows_of_row}
use Rattle.design_defs.proofs.BodiesThere.{body_there}

-- what a mapped thing is mapped from
pub mapped : {A B : Type 0} (f : A → B) (o : Option A) (y : B) → option_map f o ≡ Some y → (x : A) × (o ≡ Some x) × (f x ≡ y)
mapped f None y e = cc
mapped f (Some x) y e = (x, refl, same_Some (f x) y e)

-- the module of an instance of one
pub module_there : (s : Sources) (way : Way) (number : ℕ) → body_at s way ≡ Some (ModuleBody number) → (m : Module) × IsOfModule s way number m
module_there s way number is =
    let has = body_there s way (ModuleBody number) is in
    let m = mapped (λ (x : Module). x.ports) (slice_get s.modules number) has.0 has.1 in
    (m.0, record { body = is; is_module = m.1 })

-- a number has a bit
spot_there : (spots : List Spot) (n : Option ℕ) (o : Option Spot) (bit : ℕ) → n ≡ Some bit → HasSpotAt spots n o → (x : Spot) × (o ≡ Some x)
spot_there spots None o bit e has = cc
spot_there spots (Some n) None bit e has = absurd has
spot_there spots (Some n) (Some x) bit e has = (x, refl)

module _ (s : Sources) (p : Placed) (there : ArePlaced s p) (spots : List Spot) (all : AreAllRising spot_cmp (IsSpot s) spots) where
  abbrev made : Instances
  made = p.instances.now

  abbrev ways_of : List Way
  ways_of = there.instances.ways

  -- the row of an instance
  pub record HasRow (inst : ℕ) (way : Way) : Type 0 where
    pub row : InstanceRow
    pub at : slice_get made.rows inst ≡ Some row
    pub is : body_at s way ≡ Some row.body

  pub row_of : (inst : ℕ) (way : Way) → slice_get ways_of inst ≡ Some way → HasRow inst way
  row_of inst way at = record { row = row; at = at_row; is = (there.instances.each inst way row at at_row).body }
    where
      no_row : InstanceRow
      no_row = record { parent = 0; inst = 0; name = 0; body = ModuleBody 0; first_bit = 0; first_child = 0 }

      row : InstanceRow
      row = get_or made.rows inst no_row

      at_row : slice_get made.rows inst ≡ Some row
      at_row = slice_get-get_or made.rows inst no_row (omega (arith, slice_get_within ways_of inst way at, there.instances.count))

  -- a bit of the body of an instance
  pub bit_of_body : (inst : ℕ) (way : Way) (row : InstanceRow) → slice_get made.rows inst ≡ Some row → slice_get ways_of inst ≡ Some way → (x : LocalBit) (bit : ℕ)
      → IsBitNumber s row.body x bit → slice_get spots (row.first_bit + bit) ≡ Some (spot_of way x)
  bit_of_body inst way row at_row at_way x bit number =
      ap (λ ys. slice_get ys (row.first_bit + bit)) (same_spots s p there spots all)
      ∙ bit_there s p there inst row way bit x at_row at_way (ap (λ bits. slice_get bits bit) (sym same) ∙ number.there)
    where
      body : body_at s way ≡ Some row.body
      body = (there.instances.each inst way row at_way at_row).body

      owned : AreOwnNets s row.body (nets_at s p there way)
      owned = subst (AreOwnNets s row.body) (sym (ap (nets_of s p there) body)) (plan_at s p there way row.body body).nets

      same : number.bits ≡ local_bits (nets_at s p there way)
      same = one_list local_cmp net_place_total (IsLocalBit s row.body) number.bits (local_bits (nets_at s p there way)) number.all (local_bits_are s row.body (nets_at s p there way) owned)

  -- an end of a link of the module of an instance
  module _ (apart : AreInstsApart s) (inst : ℕ) (way : Way) (at_way : slice_get ways_of inst ≡ Some way) (number : ℕ) (m : Module) (of_module : IsOfModule s way number m) where
    row_is : HasRow inst way
    row_is = row_of inst way at_way

    body_is : row_is.row.body ≡ ModuleBody number
    body_is = same_Some row_is.row.body (ModuleBody number) (sym row_is.is ∙ of_module.body)

    pub end_there : (e : End) (l : LocalEnd) → IsLocalEnd s number m e l → HasSpotAt spots (end_number made inst l) (end_spot way e)
    end_there _ _ (IsLocalEnd.inner net place bit is) =
        let at : end_number made inst (LocalEnd.own bit) ≡ Some (row_is.row.first_bit + bit) = ap (λ o. bit_behind bit (option_map (λ (r : InstanceRow). r.first_bit) o)) row_is.at in
        let here : IsBitNumber s row_is.row.body (net, place) bit = subst (λ b. IsBitNumber s b (net, place) bit) (sym body_is) is in
        subst (λ o. HasSpotAt spots o (Some (record { way = way; net = net; place = place }))) (sym at)
        (bit_of_body inst way row_is.row row_is.at at_way (net, place) bit here)
    end_there _ _ (IsLocalEnd.child name port place line bit i body at_line named typed is) =
        let child : HasChildAt ways_of made.children way row_is.row.first_child line i.name =
        (there.instances.each inst way row_is.row at_way row_is.at).found number line m i of_module at_line in
        let below : HasRow child.number (i.name ∷ way) = row_of child.number (i.name ∷ way) child.there in
        let inside : body_inside s i.name (ModuleBody number) ≡ Some body =
        inside_of_line s apart number (Some body) (record { m = m; i = i; is_module = of_module.is_module; one = IsIn-slice_get m.insts line i at_line; is_type = typed }) in
        let at_child : body_at s (i.name ∷ way) ≡ Some body = ap (option_and_then (body_inside s i.name)) of_module.body ∙ inside in
        let same : body ≡ below.row.body = same_Some body below.row.body (sym at_child ∙ below.is) in
        let listed : child_in made.rows made.children inst line ≡ Some child.number =
        ap (option_and_then (λ (r : InstanceRow). slice_get made.children (r.first_child + line))) row_is.at ∙ child.listed in
        let at : end_number made inst (LocalEnd.child line bit) ≡ Some (below.row.first_bit + bit) =
        ap (λ o. bit_behind bit (option_and_then (first_bit_of made) o)) listed ∙ ap (λ o. bit_behind bit (option_map (λ (r : InstanceRow). r.first_bit) o)) below.at in
        let here : slice_get spots (below.row.first_bit + bit) ≡ Some (spot_of (i.name ∷ way) (port, place)) =
        bit_of_body child.number (i.name ∷ way) below.row below.at child.there (port, place) bit (subst (λ b. IsBitNumber s b (port, place) bit) same is) in
        subst (λ o. HasSpotAt spots o (Some (record { way = name ∷ way; net = port; place = place }))) (sym at)
        (here ∙ ap (λ (n : List ℕ). Some (record { way = n ∷ way; net = port; place = place })) named)
    end_there _ _ IsLocalEnd.constant = tt

    module _ (links : List (List LinkRow)) (local : AreLocalLinks s number m (locals (slice_index_or links number []))) where
      rows_are : rows_of links made inst ≡ slice_index_or links number []
      rows_are = ap (rows_of_row links) row_is.at ∙ ap (rows_of_body links) body_is

      links_are : links_at links made inst ≡ map (link_at made inst) (locals (slice_index_or links number []))
      links_are = ap (λ rows. map (link_at made inst) (locals rows)) rows_are

      -- a link of the module by numbers is one of the hierarchy
      pub link_of : (k : ℕ) (l : LinkAt) (fed : ℕ) → slice_get (links_at links made inst) k ≡ Some l → l.fed ≡ Some fed → IsLinkOf s spots way k l
      link_of k l fed at is_fed = record {
        fed_spot = found_spot.0;
        source_spot = end_spot way link.source;
        fed_there = subst (λ n. HasSpotAt spots n (Some found_spot.0)) (ap (λ (x : LinkAt). x.fed) from.2)
            (subst (HasSpotAt spots (end_number made inst from.0.fed)) found_spot.1 (end_there link.fed from.0.fed is.fed));
        source_there = subst (λ n. HasSpotAt spots n (end_spot way link.source)) (ap (λ (x : LinkAt). x.source) from.2) (end_there link.source from.0.source is.source);
        link = record {
          module_number = number;
          of_module = m;
          is_module = of_module;
          link = link;
          there = found.1;
          on_line = sym is.line ∙ ap (λ (x : LinkAt). x.line) from.2;
          fed_there = found_spot.1;
          source_there = refl;
        };
      }
        where
          from : (x : LocalLink) × (slice_get (locals (slice_index_or links number [])) k ≡ Some x) × (link_at made inst x ≡ l)
          from = mapped (link_at made inst) (slice_get (locals (slice_index_or links number [])) k) l
              (sym (slice_get-map (link_at made inst) (locals (slice_index_or links number [])) k) ∙ ap (λ ls. slice_get ls k) (sym links_are) ∙ at)

          found : (x : Link) × (slice_get (links_in s m) k ≡ Some x) × IsLocalLink s number m x from.0
          found = left_of (IsLocalLink s number m) (links_in s m) (locals (slice_index_or links number [])) local k from.0 from.1

          link : Link
          link = found.0

          is : IsLocalLink s number m link from.0
          is = found.2

          found_spot : (x : Spot) × (end_spot way link.fed ≡ Some x)
          found_spot = spot_there spots (end_number made inst from.0.fed) (end_spot way link.fed) fed (ap (λ (x : LinkAt). x.fed) from.2 ∙ is_fed) (end_there link.fed from.0.fed is.fed)

      -- a link of the hierarchy is one of the module by numbers
      pub link_at_number : (k line : ℕ) (x : Spot) (source : Option Spot) (link : Link) → slice_get (links_in s m) k ≡ Some link → link.line ≡ line
          → end_spot way link.fed ≡ Some x → end_spot way link.source ≡ source → IsLinkAt spots ways_of links made way k line x source
      link_at_number k line x source link at on fed_is source_is =
          let found = right_of (IsLocalLink s number m) (links_in s m) (locals (slice_index_or links number [])) local k link at in
          let l = found.0 in
          let is = found.2 in
          record {
            inst = inst;
            at = link_at made inst l;
            inst_there = at_way;
            there = ap (λ ls. slice_get ls k) links_are ∙ slice_get-map (link_at made inst) (locals (slice_index_or links number [])) k ∙ ap (option_map (link_at made inst)) found.1;
            on_line = is.line ∙ on;
            fed_there = subst (HasSpotAt spots (end_number made inst l.fed)) fed_is (end_there link.fed l.fed is.fed);
            source_there = subst (HasSpotAt spots (end_number made inst l.source)) source_is (end_there link.source l.source is.source);
          }
