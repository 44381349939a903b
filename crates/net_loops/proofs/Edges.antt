-- What feeds bits by their numbers is what feeds them in the hierarchy.
use Rattle.std.proofs.Common.{◌≡◌, ℕ, ◌+◌, ◌-◌, ◌<◌, ◌≤◌, ◌⊎◌, inl, inr, List, [], ◌∷◌, ◌++◌, Option, None, Some, get_or, length, option_map, slice_get, refl, sym, ap, ◌∙◌, subst, arith}
use Rattle.std.specs.List.{AllZip}
use Rattle.std.specs.Option.{IsSomeAnd, MatchOption, option_to_list}
use Rattle.std.proofs.lemmas.Bool.{cases_lt}
use Rattle.std.proofs.lemmas.List.{get_or_past}
use Rattle.std.proofs.lemmas.Option.{none-some, same_Some, slice_get-get_or, slice_get_within}
use Rattle.std.proofs.lemmas.Slice.Zip.{AllZip-left, AllZip-right}
use Rattle.pw_defs.specs.declared.design.Body.TheVariants.{Cell as CellBody, Model as ModelBody}
use Rattle.list_defs.specs.Members.{IsIn}
use Rattle.list_defs.specs.Orders.{AreAllRising}
use Rattle.list_defs.proofs.Members.{IsIn-append_cases, IsIn-append_left, IsIn-append_right, IsIn-slice_get}
use Rattle.list_defs.proofs.OneList.{one_place}
use Rattle.design_defs.specs.Bits.{IsSpot, Spot, spot_cmp}
use Rattle.design_defs.specs.DesignFaults.{FaultKind, HasNoneBefore}
use Rattle.design_defs.specs.Designs.{IsLinked}
use Rattle.design_defs.specs.Hierarchy.{Sources, Way, body_at}
use Rattle.design_defs.specs.Inputs.{AreReadSources}
use Rattle.design_defs.specs.Links.{Feeds, IsFed}
use Rattle.design_defs.proofs.BitOrders.{spot_total}
use Rattle.design_laws.proofs.Lines.{cell_inside, inst_line, line_of, model_inside}
use Rattle.design_rows.specs.declared.tables.Feed.{Feed}
use Rattle.design_rows.specs.declared.tables.Feed.TheVariants.{Nothing}
use Rattle.net_bits.specs.Placed.{ArePlaced}
use Rattle.net_bits.specs.declared.placed.Placed.{Placed}
use Rattle.net_bits.proofs.Spots.{IsOwner, owner_stands}
use Rattle.net_feeds.specs.Feeds.{AreFedSo, IsFedSo}
use Rattle.net_inner.specs.Inside.{AreInnerSources, IsFedInside, source_in}
use Rattle.net_inner.specs.declared.inner.Inner.{Inner}
use Rattle.net_instances.specs.declared.numbering.InstanceRow.{InstanceRow}
use Rattle.net_rings.specs.Fed.{IsFedBy}
use Rattle.net_loops.specs.Graphs.{BeginsFirst, IsGraph, IsGraphRow, inner_bit, linked_bit}
use Rattle.net_loops.proofs.InnerSources.{leaf_of_source, some_source, source_of}
use Rattle.net_loops.proofs.OwnPorts.{IsLeaf}
use Rattle.design_defs.proofs.OneDesign.{one_source}
use Rattle.design_laws.proofs.OneFeed.{IsFedFrom, fed_from, one_feed}

in_option : (m : ℕ) (o : Option ℕ) → IsIn m (option_to_list o) → o ≡ Some m
in_option m None there = absurd there
in_option m (Some n) (inl same) = ap Some (sym same)
in_option m (Some n) (inr later) = absurd later

option_in : (m : ℕ) (o : Option ℕ) → o ≡ Some m → IsIn m (option_to_list o)
option_in m o is = subst (λ p. IsIn m (option_to_list p)) (sym is) (inl refl)

-- what a mapped thing is mapped from
mapped : {A B : Type 0} (f : A → B) (o : Option A) (y : B) → option_map f o ≡ Some y → (x : A) × (o ≡ Some x) × (f x ≡ y)
mapped f None y e = cc
mapped f (Some x) y e = (x, refl, same_Some (f x) y e)

-- a bit that is fed inside is fed by the line of its instance
pub inside_feeds : (s : Sources) (x y : Spot) → IsFedInside s x y → Feeds s x y
inside_feeds s x y is = by x.way refl is
  where
    by : (w : Way) → x.way ≡ w → IsFedInside s x y → Feeds s x y
    by [] e (IsFedInside.through t) = cell_inside s t.number (ap (body_at s) (sym e) ∙ t.body)
    by [] e (IsFedInside.feed f) = model_inside s f.number (ap (body_at s) (sym e) ∙ f.body)
    by (name ∷ outer) e (IsFedInside.through t) =
        let line = line_of s name outer (CellBody t.number) (ap (body_at s) (sym e) ∙ t.body) in
        (outer, line.inst.line, IsFed.through name e (inst_line s name outer (CellBody t.number) line) t)
    by (name ∷ outer) e (IsFedInside.feed f) =
        let line = line_of s name outer (ModelBody f.number) (ap (body_at s) (sym e) ∙ f.body) in
        (outer, line.inst.line, IsFed.feed name e (inst_line s name outer (ModelBody f.number) line) f)

module _ (s : Sources) (p : Placed) (there : ArePlaced s p) (read : AreReadSources s) (early : HasNoneBefore FaultKind.wire_loop s)
    (spots : List Spot) (all : AreAllRising spot_cmp (IsSpot s) spots) (feeds : List Feed) (fed : AreFedSo s spots feeds)
    (inner : Inner) (sources : AreInnerSources s p inner) (graph : List (List ℕ)) (is_graph : IsGraph p.instances.now.rows inner feeds graph) where
  abbrev rows : List InstanceRow
  rows = p.instances.now.rows

  begins : BeginsFirst rows
  begins row at = there.instances.first_bits 0 row at

  spot_at : (n : ℕ) (x : Spot) → slice_get spots n ≡ Some x → IsSpot s x
  spot_at n x at = all.each x (IsIn-slice_get spots n x at)

  one_number : (n m : ℕ) (x : Spot) → slice_get spots n ≡ Some x → slice_get spots m ≡ Some x → n ≡ m
  one_number n m x at other = one_place spot_cmp spot_total spots all.rising n m x at other

  zipped : {A B : Type 0} (R : A → B → Type 0) (xs : List A) (ys : List B) → AllZip R xs ys → (k : ℕ) (x : A) → slice_get xs k ≡ Some x → (y : B) × (slice_get ys k ≡ Some y) × R x y
  zipped {A} {B} R xs ys are k x at = other (slice_get ys k) (subst (λ o. MatchOption o (Unit {0}) (λ z. IsSomeAnd (slice_get ys k) (R z))) at (AllZip-left R xs ys are k))
    where
      other : (o : Option B) → IsSomeAnd o (R x) → (y : B) × (o ≡ Some y) × R x y
      other None is = absurd is
      other (Some y) is = (y, refl, is)

  zipped_back : {A B : Type 0} (R : A → B → Type 0) (xs : List A) (ys : List B) → AllZip R xs ys → (k : ℕ) (y : B) → slice_get ys k ≡ Some y → (x : A) × (slice_get xs k ≡ Some x) × R x y
  zipped_back {A} {B} R xs ys are k y at = other (slice_get xs k) (subst (λ o. MatchOption o (Unit {0}) (λ z. IsSomeAnd (slice_get xs k) (λ x. R x z))) at (AllZip-right R xs ys are k))
    where
      other : (o : Option A) → IsSomeAnd o (λ x. R x y) → (x : A) × (o ≡ Some x) × R x y
      other None is = absurd is
      other (Some x) is = (x, refl, is)

  -- the row of a bit in the graph, with the bit
  record HasRow (n : ℕ) (x : Spot) : Type 0 where
    graph_row : IsGraphRow rows inner feeds n (get_or graph n [])
    feed : Feed
    at_feed : slice_get feeds n ≡ Some feed
    fed_so : IsFedSo s spots x feed
    owner : IsOwner s p there n x (graph_row.owner) (graph_row.row)

  row_of : (n : ℕ) (x : Spot) → slice_get spots n ≡ Some x → HasRow n x
  row_of n x at =
      let feed = zipped (IsFedSo s spots) spots feeds fed n x at in
      let row = is_graph.each begins n (slice_get_within feeds n feed.0 feed.1) in
      record { graph_row = row; feed = feed.0; at_feed = feed.1; fed_so = feed.2; owner = owner_stands s p there spots all n x at row.owner row.row row.last }

  -- the bit of a number has a row in the graph
  bit_of : (n m : ℕ) → IsFedBy graph n m → (x : Spot) × (slice_get spots n ≡ Some x)
  bit_of n m step = by (cases_lt n (length graph))
    where
      by : (n < length graph) ⊎ (length graph ≤ n) → (x : Spot) × (slice_get spots n ≡ Some x)
      by (inl inside) =
          let at = slice_get-get_or feeds n Nothing (omega (arith, inside, is_graph.count)) in
          let x = zipped_back (IsFedSo s spots) spots feeds fed n (get_or feeds n Nothing) at in
          (x.0, x.1)
      by (inr past) = absurd (subst (IsIn m) (get_or_past graph n [] past) step)

  -- EDGES
  pub edge_of : (n m : ℕ) → IsFedBy graph n m → (x y : Spot) × (slice_get spots n ≡ Some x) × (slice_get spots m ≡ Some y) × Feeds s x y
  edge_of n m step =
      elim (IsIn-append_cases m links insides (subst (IsIn m) row.graph_row.is step)) [ inl link ↦ of_link row.feed row.fed_so (linked link) | inr inside ↦ of_inside (in_option m _ inside) ]
    where
      x : Spot
      x = (bit_of n m step).0

      at_x : slice_get spots n ≡ Some x
      at_x = (bit_of n m step).1

      row : HasRow n x
      row = row_of n x at_x

      links : List ℕ
      links = option_to_list (linked_bit (slice_get feeds n))

      insides : List ℕ
      insides = option_to_list (inner_bit inner row.graph_row.row n)

      linked : IsIn m links → linked_bit (Some row.feed) ≡ Some m
      linked there = sym (ap linked_bit row.at_feed) ∙ in_option m (linked_bit (slice_get feeds n)) there

      of_link : (f : Feed) → IsFedSo s spots x f → linked_bit (Some f) ≡ Some m → (x y : Spot) × (slice_get spots n ≡ Some x) × (slice_get spots m ≡ Some y) × Feeds s x y
      of_link _ (IsFedSo.bit source k link at) e =
          (x, source, at_x, subst (λ (j : ℕ). slice_get spots j ≡ Some source) (same_Some k m e) at, (link.0, link.2, IsFed.link link.1 link.3))
      of_link _ (IsFedSo.constant link) e = absurd (none-some m e)
      of_link _ (IsFedSo.nothing none) e = absurd (none-some m e)

      of_inside : inner_bit inner row.graph_row.row n ≡ Some m → (x y : Spot) × (slice_get spots n ≡ Some x) × (slice_get spots m ≡ Some y) × Feeds s x y
      of_inside e =
          let from = mapped (λ (local : ℕ). row.graph_row.row.first_bit + local) (source_in inner row.graph_row.row.body (n - row.graph_row.row.first_bit)) m e in
          let leaf = leaf_of_source inner row.graph_row.row.body (n - row.graph_row.row.first_bit) from.0 from.1 in
          let found = source_of s p there read early spots all inner sources n x at_x row.graph_row.owner row.graph_row.row row.graph_row.last.there row.owner leaf from.0 from.1 in
          (x, found.y, at_x, subst (λ (j : ℕ). slice_get spots j ≡ Some found.y) from.2 found.at_y, inside_feeds s x found.y found.inside)

  pub edge_to : (n m : ℕ) (x y : Spot) → slice_get spots n ≡ Some x → slice_get spots m ≡ Some y → Feeds s x y → IsFedBy graph n m
  edge_to n m x y at_x at_y feeds_xy = subst (IsIn m) (sym row.graph_row.is) (by (fed_from s x y feeds_xy))
    where
      row : HasRow n x
      row = row_of n x at_x

      links : List ℕ
      links = option_to_list (linked_bit (slice_get feeds n))

      insides : List ℕ
      insides = option_to_list (inner_bit inner row.graph_row.row n)

      by_feed : (f : Feed) → IsFedSo s spots x f → IsLinked s x (Some y) → linked_bit (Some f) ≡ Some m
      by_feed _ (IsFedSo.bit source k other at) link =
          let same : source ≡ y = same_Some source y (one_source s early x (spot_at n x at_x) (Some source) (Some y) other link) in
          ap Some (one_number k m y (at ∙ ap Some same) at_y)
      by_feed _ (IsFedSo.constant other) link = let never = one_source s early x (spot_at n x at_x) (Some y) None link other in absurd (none-some y (sym never))
      by_feed _ (IsFedSo.nothing none) link = absurd (none (Some y) link)

      inside : IsLeaf row.graph_row.row.body → y.way ≡ x.way → IsFedInside s x y → IsIn m (links ++ insides)
      inside leaf same is =
          let from = some_source s p there read early spots all inner sources n x at_x row.graph_row.owner row.graph_row.row row.graph_row.last.there row.owner leaf y (spot_at m y at_y) same is in
          let found = source_of s p there read early spots all inner sources n x at_x row.graph_row.owner row.graph_row.row row.graph_row.last.there row.owner leaf from.0 from.1 in
          let number : row.graph_row.row.first_bit + from.0 ≡ m = elim (one_feed s read early x y found.y (spot_at n x at_x) (spot_at m y at_y) feeds_xy (inside_feeds s x found.y found.inside)) [
            | inl is_y ↦ one_number (row.graph_row.row.first_bit + from.0) m y (found.at_y ∙ ap Some is_y) at_y
            | inr ghost ↦ absurd (ghost.no_bit (spot_at (row.graph_row.row.first_bit + from.0) found.y found.at_y))
          ] in
          IsIn-append_right m links insides (option_in m (inner_bit inner row.graph_row.row n)
          (ap (option_map (λ (local : ℕ). row.graph_row.row.first_bit + local)) from.1 ∙ ap Some number))

      by : IsFedFrom s x y → IsIn m (links ++ insides)
      by (IsFedFrom.by_link link) = IsIn-append_left m links insides (option_in m (linked_bit (slice_get feeds n)) (ap linked_bit row.at_feed ∙ by_feed row.feed row.fed_so link))
      by (IsFedFrom.by_through t) =
          let body : row.graph_row.row.body ≡ CellBody t.number = same_Some row.graph_row.row.body (CellBody t.number) (sym row.owner.body ∙ t.body) in
          inside (subst IsLeaf (sym body) tt) (ap (λ (z : Spot). z.way) t.is_source) (IsFedInside.through t)
      by (IsFedFrom.by_model f) =
          let body : row.graph_row.row.body ≡ ModelBody f.number = same_Some row.graph_row.row.body (ModelBody f.number) (sym row.owner.body ∙ f.body) in
          inside (subst IsLeaf (sym body) tt) f.one_instance (IsFedInside.feed f)
