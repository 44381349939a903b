-- The lines that feed bits by numbers are those of the hierarchy.
use Rattle.std.proofs.Common.{◌≡◌, ℕ, zero, suc, ◌+◌, ◌-◌, ◌<◌, ◌≤◌, ◌⊎◌, inl, inr, List, [], ◌∷◌, Option, None, Some, get_or, length, option_and_then, slice_get, refl, sym, ap, ◌∙◌, subst, arith}
use Rattle.std.specs.List.{flat_map, range_with_len}
use Rattle.std.proofs.lemmas.Bool.{cases_lt}
use Rattle.std.proofs.lemmas.Option.{get_or_from_slice_get, none-some, same_Some, slice_get-get_or, slice_get_within}
use Rattle.pw_defs.specs.declared.design.Body.{Body}
use Rattle.pw_defs.specs.declared.design.Body.TheVariants.{Module as ModuleBody, Cell as CellBody, Model as ModelBody}
use Rattle.pw_defs.specs.declared.netlist.Inst.{Inst}
use Rattle.pw_defs.specs.declared.netlist.Module.{Module}
use Rattle.list_defs.specs.Members.{IsIn}
use Rattle.list_defs.specs.Orders.{AreAllRising}
use Rattle.list_defs.proofs.Few.{place_of_member}
use Rattle.list_defs.proofs.Members.{IsIn-append_cases, IsIn-append_left, IsIn-append_right, IsIn-flat_map, IsIn-flat_map_from, IsIn-slice_get}
use Rattle.list_defs.proofs.OneList.{one_place}
use Rattle.design_defs.specs.Bits.{IsSpot, Spot, spot_cmp}
use Rattle.design_defs.specs.DesignFaults.{FaultKind, HasNoneBefore}
use Rattle.design_defs.specs.Hierarchy.{IsOfModule, Sources, Way, body_at, way_cmp}
use Rattle.design_defs.specs.Inputs.{AreReadSources}
use Rattle.design_defs.specs.Links.{IsFed, IsInstLine, IsLink}
use Rattle.design_defs.proofs.BitOrders.{spot_total, way_total}
use Rattle.design_defs.proofs.Lookups.{inst_found}
use Rattle.design_laws.proofs.LinkCases.{own_inst}
use Rattle.module_rows.specs.Growth.{no_module}
use Rattle.module_rows.specs.Reads.{inst_at, no_inst}
use Rattle.module_rows.specs.Reads as reads
use Rattle.net_bits.specs.Placed.{ArePlaced}
use Rattle.net_bits.specs.declared.placed.Placed.{Placed}
use Rattle.net_bits.proofs.Spots.{IsOwner, counted_at, nets_at, nets_of, ways}
use Rattle.net_feeds.specs.LinkNumbers.{AreAllLocal, HasSpotAt, IsLinkAt, IsLinkOf, links_at, links_of_rows, rows_of_body, rows_of_row}
use Rattle.net_feeds.specs.declared.links.LinkAt.{LinkAt}
use Rattle.net_feeds.proofs.LinkLemmas.{link_at_number, link_of, module_there}
use Rattle.net_inner.specs.Inside.{AreInnerSources, IsFedInside, source_in}
use Rattle.net_inner.specs.declared.inner.Inner.{Inner}
use Rattle.net_instances.specs.Instances.{HasChildAt, child_in}
use Rattle.net_instances.specs.declared.numbering.InstanceRow.{InstanceRow}
use Rattle.net_links.specs.declared.rows.LinkRow.{LinkRow}
use Rattle.net_places.specs.Nets.{LocalBit, bit_count, local_bits, spot_of}
use Rattle.net_places.proofs.BitLaws.{local_length}
use Rattle.net_places.specs.Plans.{rows_at}
use Rattle.net_places.specs.Tables.{bits_in}
use Rattle.net_loops.specs.Lines.{LineBit, line_if, line_of_bit, lines_at, lines_inside, lines_of_body, lines_of_inst, lines_of_link, lines_of_row}
use Rattle.net_loops.proofs.Between.{insts_apart}
use Rattle.net_loops.proofs.InnerSources.{HasSource, leaf_of_source, local_spot, own_bit, some_source, source_of}
use Rattle.net_loops.proofs.OwnPorts.{IsLeaf}

-- what a look-up past the end gives
no_row : InstanceRow
no_row = record { parent = 0; inst = 0; name = 0; body = ModuleBody 0; first_bit = 0; first_child = 0 }

in_line_if : (line n l : ℕ) (fed source : Option ℕ) → IsIn (line, n) (line_if l fed source) → (m : ℕ) × (line ≡ l) × (fed ≡ Some n) × (source ≡ Some m)
in_line_if line n l None source there = absurd there
in_line_if line n l (Some k) None there = absurd there
in_line_if line n l (Some k) (Some m) (inl same) = (m, ap (λ (q : LineBit). q.0) same, ap (λ (q : LineBit). Some q.1) (sym same), refl)
in_line_if line n l (Some k) (Some m) (inr later) = absurd later

line_if_in : (line n m : ℕ) (fed source : Option ℕ) → fed ≡ Some n → source ≡ Some m → IsIn (line, n) (line_if line fed source)
line_if_in line n m fed source f g = subst (λ o. IsIn (line, n) (line_if line o source)) (sym f) (subst (λ o. IsIn (line, n) (line_if line (Some n) o)) (sym g) (inl refl))

in_range : (a n k : ℕ) → IsIn k (range_with_len a n) → (a ≤ k) × (k < a + n)
in_range a zero k there = absurd there
in_range a (suc n) k (inl is) = (omega arith, omega arith)
in_range a (suc n) k (inr later) = let rest = in_range (a + 1) n k later in (omega (arith, rest.0), omega (arith, rest.1))

range_in : (a n k : ℕ) → a ≤ k → k < a + n → IsIn k (range_with_len a n)
range_in a zero k low high = absurd (omega arith)
range_in a (suc n) k low high = by (cases_lt a k) (range_in (a + 1) n k)
  where
    by : (a < k) ⊎ (k ≤ a) → (a + 1 ≤ k → k < a + 1 + n → IsIn k (range_with_len (a + 1) n)) → IsIn k (range_with_len a (suc n))
    by (inl more) rest = inr (rest (omega arith) (omega arith))
    by (inr equal) rest = inl (omega arith)

module _ (s : Sources) (p : Placed) (there : ArePlaced s p) (read : AreReadSources s) (early : HasNoneBefore FaultKind.wire_loop s)
    (spots : List Spot) (all : AreAllRising spot_cmp (IsSpot s) spots) (inner : Inner) (sources : AreInnerSources s p inner)
    (links : List (List LinkRow)) (local : AreAllLocal s links) where
  abbrev rows : List InstanceRow
  rows = p.instances.now.rows

  -- a line in the module at a way feeds a bit
  pub record IsLineAt (inst line n : ℕ) : Type 0 where
    pub way : Way
    pub x : Spot
    pub y : Spot
    pub at_way : slice_get (ways s p there) inst ≡ Some way
    pub at_x : slice_get spots n ≡ Some x
    pub fed : IsFed s x y way line

  way_of : (inst : ℕ) → inst < length rows → (way : Way) × (slice_get (ways s p there) inst ≡ Some way)
  way_of inst within = (get_or (ways s p there) inst [], slice_get-get_or (ways s p there) inst [] (omega (arith, within, there.instances.count)))

  module _ (inst : ℕ) (row : InstanceRow) (at_row : slice_get rows inst ≡ Some row) where
    way : Way
    way = (way_of inst (slice_get_within rows inst row at_row)).0

    at_way : slice_get (ways s p there) inst ≡ Some way
    unfolding way way_of
    at_way = (way_of inst (slice_get_within rows inst row at_row)).1

    body : body_at s way ≡ Some row.body
    body = (there.instances.each inst way row at_way at_row).body

    -- links
    link_line : (line n number : ℕ) (m : Module) → row.body ≡ ModuleBody number → IsOfModule s way number m
        → IsIn (line, n) (flat_map lines_of_link (links_at links p.instances.now inst)) → IsLineAt inst line n
    link_line line n number m is of_module within = record {
      way = way;
      x = link.fed_spot;
      y = source.0;
      at_way = at_way;
      at_x = subst (λ o. HasSpotAt spots o (Some link.fed_spot)) parts.2 link.fed_there;
      fed = subst (λ (k : ℕ). IsFed s link.fed_spot source.0 way k) (sym parts.1) (IsFed.link at.0 (subst (IsLink s way at.0 l.line link.fed_spot) source.1 link.link));
    }
      where
        from : (l : LinkAt) × IsIn l (links_at links p.instances.now inst) × IsIn (line, n) (lines_of_link l)
        from = IsIn-flat_map_from lines_of_link (links_at links p.instances.now inst) (line, n) within

        l : LinkAt
        l = from.0

        parts : (k : ℕ) × (line ≡ l.line) × (l.fed ≡ Some n) × (l.source ≡ Some k)
        parts = in_line_if line n l.line l.fed l.source from.2

        at : (k : ℕ) × (slice_get (links_at links p.instances.now inst) k ≡ Some l)
        at = place_of_member l (links_at links p.instances.now inst) from.1

        link : IsLinkOf s spots way at.0 l
        link = link_of s p there spots all (insts_apart s read) inst way at_way number m of_module links (local way number m of_module) at.0 l n at.1 parts.2

        source_is : (k : ℕ) (o : Option ℕ) → o ≡ Some k → (source : Option Spot) → HasSpotAt spots o source → (y : Spot) × (source ≡ Some y)
        source_is k None e source has = absurd (none-some k e)
        source_is k (Some j) e None has = absurd has
        source_is k (Some j) e (Some y) has = (y, refl)

        source : (y : Spot) × (link.source_spot ≡ Some y)
        source = source_is parts.0 l.source parts.3 link.source_spot link.source_there

    -- the instance that a line of the module makes
    module _ (number : ℕ) (m : Module) (is : row.body ≡ ModuleBody number) (of_module : IsOfModule s way number m) (j : ℕ) (i : Inst) (at_i : slice_get m.insts j ≡ Some i) where
      child : HasChildAt (ways s p there) p.instances.now.children way row.first_child j i.name
      child = (there.instances.each inst way row at_way at_row).found number j m i of_module at_i

      child_is : child_in rows p.instances.now.children inst j ≡ Some child.number
      child_is = ap (option_and_then (λ (r : InstanceRow). slice_get p.instances.now.children (r.first_child + j))) at_row ∙ child.listed

      abbrev child_row : InstanceRow
      child_row = get_or rows child.number row

      at_child : slice_get rows child.number ≡ Some child_row
      at_child = slice_get-get_or rows child.number row (omega (arith, slice_get_within (ways s p there) child.number (i.name ∷ way) child.there, there.instances.count))

      same_module : reads.module_at p.modules.now number ≡ m
      same_module = get_or_from_slice_get p.modules.now.modules number m no_module (ap (λ ms. slice_get ms number) (sym there.of_sources.0) ∙ of_module.is_module)

      inst_line : (inst_at p.modules.now number j).line ≡ i.line
      inst_line = ap (λ (x : Inst). x.line) (ap (λ (x : Module). get_or x.insts j no_inst) same_module ∙ get_or_from_slice_get m.insts j i no_inst at_i)

      lines_are : lines_of_inst p inner inst number j ≡ lines_inside p inner i.line (Some child_row)
      lines_are =
          ap (λ (k : ℕ). lines_inside p inner k (option_and_then (slice_get rows) (child_in rows p.instances.now.children inst j))) inst_line
          ∙ ap (λ o. lines_inside p inner i.line (option_and_then (slice_get rows) o)) child_is ∙ ap (lines_inside p inner i.line) at_child

      made_there : IsInstLine s way i.name i.line
      made_there = record {
        module_number = number;
        of_module = m;
        is_module = of_module;
        inst = i;
        is_inst = own_inst m i (read.each_module m (IsIn-slice_get s.modules number m of_module.is_module)).own_names (IsIn-slice_get m.insts j i at_i);
        on_line = refl;
      }

      body_child : body_at s (i.name ∷ way) ≡ Some child_row.body
      body_child = (there.instances.each child.number (i.name ∷ way) child_row child.there at_child).body

      -- a bit of that instance which is fed inside it
      inside_line : (line n : ℕ) → IsIn (line, n) (lines_inside p inner i.line (Some child_row)) → IsLineAt inst line n
      inside_line line n within = record {
        way = way;
        x = x;
        y = found.y;
        at_way = at_way;
        at_x = subst (λ (k : ℕ). slice_get spots k ≡ Some x) number_is at_x;
        fed = by found.inside;
      }
        where
          from : (k : ℕ) × IsIn k (range_with_len 0 (bits_in (rows_at p.plans.now child_row.body))) × IsIn (line, n) (line_of_bit inner i.line child_row k)
          from = IsIn-flat_map_from (line_of_bit inner i.line child_row) (range_with_len 0 (bits_in (rows_at p.plans.now child_row.body))) (line, n) within

          k : ℕ
          k = from.0

          parts : (m : ℕ) × (line ≡ i.line) × (Some (child_row.first_bit + k) ≡ Some n) × (source_in inner child_row.body k ≡ Some m)
          parts = in_line_if line n i.line (Some (child_row.first_bit + k)) (source_in inner child_row.body k) from.2

          number_is : child_row.first_bit + k ≡ n
          number_is = same_Some (child_row.first_bit + k) n parts.2

          bits : List LocalBit
          bits = local_bits (nets_of s p there (Some child_row.body))

          few : k < bits_in (rows_at p.plans.now child_row.body)
          few = omega (arith, (in_range 0 (bits_in (rows_at p.plans.now child_row.body)) k from.1).1)

          count : length bits ≡ bits_in (rows_at p.plans.now child_row.body)
          count = local_length (nets_of s p there (Some child_row.body)) ∙ sym (ap (λ o. bit_count (nets_of s p there o)) body_child) ∙ counted_at s p there (i.name ∷ way) child_row.body body_child

          b : LocalBit
          b = get_or bits k ([], 0)

          at_b : slice_get bits k ≡ Some b
          at_b = slice_get-get_or bits k ([], 0) (omega (arith, few, count))

          x : Spot
          x = spot_of (i.name ∷ way) b

          at_x : slice_get spots (child_row.first_bit + k) ≡ Some x
          at_x = local_spot s p there read early spots all inner sources child.number child_row (i.name ∷ way) b k at_child child.there body_child at_b

          behind : child_row.first_bit + k - child_row.first_bit ≡ k
          behind = omega arith

          own : IsOwner s p there (child_row.first_bit + k) x (child.number) child_row
          own = record {
            way = child.there;
            body = body_child;
            low = omega arith;
            few = omega (arith, few);
            local = ap (slice_get (local_bits (nets_at s p there (i.name ∷ way)))) behind ∙ ap (λ o. slice_get (local_bits (nets_of s p there o)) k) body_child ∙ at_b;
          }

          found : HasSource s p there read early spots all inner sources (child_row.first_bit + k) x at_x (child.number) child_row at_child own
              (leaf_of_source inner child_row.body k parts.0 parts.3) (parts.0)
          found =
              source_of s p there read early spots all inner sources (child_row.first_bit + k) x at_x child.number child_row at_child own
              (leaf_of_source inner child_row.body k parts.0 parts.3) parts.0 (ap (source_in inner child_row.body) behind ∙ parts.3)

          by : IsFedInside s x (found.y) → IsFed s x (found.y) way line
          by (IsFedInside.through t) = subst (λ (l : ℕ). IsFed s x found.y way l) (sym parts.1) (IsFed.through i.name refl made_there t)
          by (IsFedInside.feed f) = subst (λ (l : ℕ). IsFed s x found.y way l) (sym parts.1) (IsFed.feed i.name refl made_there f)

      -- a bit that is fed inside that instance has its line
      line_inside : (n : ℕ) (x y : Spot) → slice_get spots n ≡ Some x → IsSpot s y → x.way ≡ i.name ∷ way → y.way ≡ x.way → IsFedInside s x y
          → IsIn (i.line, n) (lines_of_inst p inner inst number j)
      line_inside n x y at_x is_y of_child of_x is = subst (IsIn (i.line, n)) (sym lines_are) (IsIn-flat_map (line_of_bit inner i.line child_row) k
          (range_with_len 0 (bits_in (rows_at p.plans.now child_row.body))) (i.line, n) (range_in 0 (bits_in (rows_at p.plans.now child_row.body)) k (omega arith) (omega (arith, own.few)))
          (line_if_in i.line n source.0 (Some (child_row.first_bit + k)) (source_in inner child_row.body k) (ap Some number_is) source.1))
        where
          k : ℕ
          k = n - child_row.first_bit

          own : IsOwner s p there n x (child.number) child_row
          own = own_bit s p there read early spots all inner sources n x at_x child.number child_row at_child (child.there ∙ ap Some (sym of_child))

          number_is : child_row.first_bit + k ≡ n
          number_is = let low = own.low in omega (arith, low)

          leaf : IsLeaf child_row.body
          leaf = by is
            where
              by : IsFedInside s x y → IsLeaf child_row.body
              by (IsFedInside.through t) = subst IsLeaf (sym (same_Some child_row.body (CellBody t.number) (sym own.body ∙ t.body))) tt
              by (IsFedInside.feed f) = subst IsLeaf (sym (same_Some child_row.body (ModelBody f.number) (sym own.body ∙ f.body))) tt

          source : (from : ℕ) × (source_in inner child_row.body k ≡ Some from)
          source = some_source s p there read early spots all inner sources n x at_x child.number child_row at_child own leaf y is_y of_x is

  -- LINES by numbers, and those of the hierarchy
  pub line_feeds : (inst line n : ℕ) → IsIn (line, n) (lines_at p links inner inst) → IsLineAt inst line n
  line_feeds inst line n within = by (slice_get rows inst) refl
    where
      in_module : (row : InstanceRow) (at : slice_get rows inst ≡ Some row) (number : ℕ) → row.body ≡ ModuleBody number
          → IsIn (line, n) (flat_map lines_of_link (links_at links p.instances.now inst)) ⊎ IsIn (line, n) (lines_of_body p inner inst (ModuleBody number)) → IsLineAt inst line n
      in_module row at number is found =
          let m = module_there s (way inst row at) number (body inst row at ∙ ap Some is) in
          elim found [
            | inl link ↦ link_line inst row at line n number m.0 is m.1 link
            | inr inside ↦
                (let j = IsIn-flat_map_from (lines_of_inst p inner inst number) (range_with_len 0 (length (reads.module_at p.modules.now number).insts)) (line, n) inside in
                let same : reads.module_at p.modules.now number ≡ m.0 =
                get_or_from_slice_get p.modules.now.modules number m.0 no_module (ap (λ ms. slice_get ms number) (sym there.of_sources.0) ∙ m.1.is_module) in
                let few : j.0 < length m.0.insts = subst (λ (x : Module). j.0 < length x.insts) same (omega (arith, (in_range 0 (length (reads.module_at p.modules.now number).insts) j.0 j.1).1)) in
                let i = get_or m.0.insts j.0 no_inst in
                let at_i = slice_get-get_or m.0.insts j.0 no_inst few in
                inside_line inst row at number m.0 is m.1 j.0 i at_i line n (subst (IsIn (line, n)) (lines_are inst row at number m.0 is m.1 j.0 i at_i) j.2))
          ]

      links_of : (row : InstanceRow) → slice_get rows inst ≡ Some row → (b : Body) → row.body ≡ b
          → links_at links p.instances.now inst ≡ links_of_rows p.instances.now inst (rows_of_body links b)
      links_of row at b is =
          ap (λ o. links_of_rows p.instances.now inst (rows_of_row links o)) at ∙ ap (λ z. links_of_rows p.instances.now inst (rows_of_body links z)) is

      in_body : (row : InstanceRow) → slice_get rows inst ≡ Some row → (b : Body) → row.body ≡ b
          → IsIn (line, n) (flat_map lines_of_link (links_at links p.instances.now inst)) ⊎ IsIn (line, n) (lines_of_body p inner inst b)
          → IsLineAt inst line n
      in_body row at (ModuleBody number) is found = in_module row at number is found
      in_body row at (CellBody c) is (inl link) = absurd (subst (λ ls. IsIn (line, n) (flat_map lines_of_link ls)) (links_of row at (CellBody c) is) link)
      in_body row at (CellBody c) is (inr inside) = absurd inside
      in_body row at (ModelBody c) is (inl link) = absurd (subst (λ ls. IsIn (line, n) (flat_map lines_of_link ls)) (links_of row at (ModelBody c) is) link)
      in_body row at (ModelBody c) is (inr inside) = absurd inside

      by : (o : Option InstanceRow) → slice_get rows inst ≡ o → IsLineAt inst line n
      by None e =
          elim (IsIn-append_cases (line, n) (flat_map lines_of_link (links_at links p.instances.now inst)) (lines_of_row p inner inst (slice_get rows inst)) within) [
            | inl link ↦ absurd (subst (λ o. IsIn (line, n) (flat_map lines_of_link (links_of_rows p.instances.now inst (rows_of_row links o)))) e link)
            | inr inside ↦ absurd (subst (λ o. IsIn (line, n) (lines_of_row p inner inst o)) e inside)
          ]
      by (Some row) e =
          in_body row e row.body refl (elim (IsIn-append_cases (line, n) (flat_map lines_of_link (links_at links p.instances.now inst)) (lines_of_row p inner inst (slice_get rows inst)) within)
          [ inl link ↦ inl link | inr inside ↦ inr (subst (λ o. IsIn (line, n) (lines_of_row p inner inst o)) e inside) ])

  pub feeds_line : (inst line n : ℕ) (x y : Spot) (way : Way) → slice_get (ways s p there) inst ≡ Some way → slice_get spots n ≡ Some x → IsSpot s y → IsFed s x y way line
      → IsIn (line, n) (lines_at p links inner inst)
  feeds_line inst line n x y w at_w at_x is_y fed = by fed
    where
      row : InstanceRow
      row = get_or rows inst no_row

      at_row : slice_get rows inst ≡ Some row
      at_row = slice_get-get_or rows inst no_row (omega (arith, slice_get_within (ways s p there) inst w at_w, there.instances.count))

      same_way : way inst row at_row ≡ w
      same_way = same_Some (way inst row at_row) w (sym (at_way inst row at_row) ∙ at_w)

      link_there : (m : ℕ) (number : ℕ) (is : IsLinkAt spots (ways s p there) links p.instances.now w number line x (Some y)) → slice_get spots m ≡ Some y
          → IsIn (line, n) (flat_map lines_of_link (links_at links p.instances.now inst))
      link_there m number is at_y =
          let insts : is.inst ≡ inst = one_place way_cmp way_total (ways s p there) there.instances.all_ways.rising is.inst inst w is.inst_there at_w in
          let at : slice_get (links_at links p.instances.now inst) number ≡ Some is.at = subst (λ (k : ℕ). slice_get (links_at links p.instances.now k) number ≡ Some is.at) insts is.there in
          IsIn-flat_map lines_of_link is.at (links_at links p.instances.now inst) (line, n) (IsIn-slice_get (links_at links p.instances.now inst) number is.at at)
          (subst (λ (k : ℕ). IsIn (line, n) (line_if k is.at.fed is.at.source)) (sym is.on_line) (line_if_in line n m is.at.fed is.at.source (numbered n x is.at.fed at_x is.fed_there)
          (numbered m y is.at.source at_y is.source_there)))
        where
          numbered : (k : ℕ) (z : Spot) (o : Option ℕ) → slice_get spots k ≡ Some z → HasSpotAt spots o (Some z) → o ≡ Some k
          numbered k z None at has = absurd has
          numbered k z (Some j) at has = ap Some (one_place spot_cmp spot_total spots all.rising j k z has at)

      of_link : (number : ℕ) → IsLink s w number line x (Some y) → IsIn (line, n) (lines_at p links inner inst)
      of_link number l =
          let m = place_of_member y spots (all.all y is_y) in
          IsIn-append_left (line, n) (flat_map lines_of_link (links_at links p.instances.now inst)) (lines_of_row p inner inst (slice_get rows inst)) (link_there m.0 number
          (link_at_number s p there spots all (insts_apart s read) inst w at_w l.module_number l.of_module l.is_module links (local w l.module_number l.of_module l.is_module) number line x
          (Some y) l.link l.there l.on_line l.fed_there l.source_there) m.1)

      of_inside : (name : List ℕ) → x.way ≡ name ∷ w → IsInstLine s w name line → y.way ≡ x.way → IsFedInside s x y → IsIn (line, n) (lines_at p links inner inst)
      of_inside name of_x made of_y is =
          let found = inst_found made.of_module name made.inst made.is_inst in
          let j = place_of_member made.inst made.of_module.insts found.0 in
          let of_module : IsOfModule s (way inst row at_row) made.module_number made.of_module = subst (λ v. IsOfModule s v made.module_number made.of_module) (sym same_way) made.is_module in
          let is_body : row.body ≡ ModuleBody made.module_number = same_Some row.body (ModuleBody made.module_number) (sym (body inst row at_row) ∙ of_module.body) in
          let of_child : x.way ≡ made.inst.name ∷ way inst row at_row = of_x ∙ (λ i. found.1 i ∷ (sym same_way i)) in
          let one = line_inside inst row at_row made.module_number made.of_module is_body of_module j.0 made.inst j.1 n x y at_x is_y of_child of_y is in
          let same_module = get_or_from_slice_get p.modules.now.modules made.module_number made.of_module no_module
          (ap (λ ms. slice_get ms made.module_number) (sym there.of_sources.0) ∙ made.is_module.is_module) in
          let few : j.0 < length (reads.module_at p.modules.now made.module_number).insts =
          subst (λ (m : Module). j.0 < length m.insts) (sym same_module) (slice_get_within made.of_module.insts j.0 made.inst j.1) in
          let all_insts : IsIn (made.inst.line, n) (lines_of_body p inner inst (ModuleBody made.module_number)) =
          IsIn-flat_map (lines_of_inst p inner inst made.module_number) j.0 (range_with_len 0 (length (reads.module_at p.modules.now made.module_number).insts)) (made.inst.line, n)
          (range_in 0 (length (reads.module_at p.modules.now made.module_number).insts) j.0 (omega arith) (omega (arith, few))) one in
          let here : IsIn (line, n) (lines_of_row p inner inst (slice_get rows inst)) =
          subst (λ o. IsIn (line, n) (lines_of_row p inner inst o)) (sym at_row) (subst (λ b. IsIn (line, n) (lines_of_body p inner inst b)) (sym is_body)
          (subst (λ (k : ℕ). IsIn (k, n) (lines_of_body p inner inst (ModuleBody made.module_number))) made.on_line all_insts)) in
          IsIn-append_right (line, n) (flat_map lines_of_link (links_at links p.instances.now inst)) (lines_of_row p inner inst (slice_get rows inst)) here

      by : IsFed s x y w line → IsIn (line, n) (lines_at p links inner inst)
      by (IsFed.link number l) = of_link number l
      by (IsFed.through name of_x made t) = of_inside name of_x made (ap (λ (z : Spot). z.way) t.is_source) (IsFedInside.through t)
      by (IsFed.feed name of_x made f) = of_inside name of_x made f.one_instance (IsFedInside.feed f)
