-- The least link of an instance to a bit that is fed already is the first fault.
use Rattle.std.proofs.Common.{◌≡◌, ◌≢◌, ℕ, ◌<◌, ◌≤◌, ◌⊎◌, inl, inr, Bool, List, [], get_or, refl, sym, ap, ◌∙◌, subst, arith}
use Rattle.std.specs.Prelude.{Option, Some, option_map}
use Rattle.std.specs.List.{slice_get}
use Rattle.std.specs.Cmp.{nat_cmp_is}
use Rattle.std.specs.Ordering.{nat_cmp, ordering_then}
use Rattle.std.specs.declared.cmp.Ordering.TheVariants.{Less, Equal, Greater}
use Rattle.std.proofs.lemmas.Bool.{cases_lt, cases_order}
use Rattle.std.proofs.lemmas.Option.{same_Some, slice_get-get_or, slice_get_within}
use Rattle.pw_defs.specs.declared.design.Body.TheVariants.{Module as ModuleBody}
use Rattle.pw_defs.specs.declared.faults.DesignFault.TheVariants.{N8}
use Rattle.pw_defs.specs.declared.netlist.Module.{Module}
use Rattle.list_defs.specs.Orders.{AreAllRising, name_cmp}
use Rattle.list_defs.proofs.Members.{IsIn-slice_get}
use Rattle.list_defs.proofs.Rising.{not_both_before}
use Rattle.design_defs.specs.Bits.{HasSpotName, IsSpot, Spot, spot_cmp}
use Rattle.design_defs.specs.DesignFaults.{Fault, FaultKind, HasFirstFault, IsFault, IsTopInput, at_line, fault_cmp, kind_number, place_cmp, HasNoneBefore}
use Rattle.design_defs.specs.Hierarchy.{IsOfModule, Sources, Way, path, way_cmp}
use Rattle.design_defs.specs.Links.{IsLink}
use Rattle.design_defs.specs.Names.{joined}
use Rattle.design_defs.specs.Ranges.{bit_name}
use Rattle.design_defs.proofs.BitOrders.{place_total, way_total}
use Rattle.design_laws.proofs.SpotLists.{same_way_equal}
use Rattle.design_laws.proofs.Top.{lower_place}
use Rattle.net_hierarchy.specs.Graph.{AreInstsApart}
use Rattle.net_hierarchy.proofs.NoneBefore.{later_kind, nat_cmp_same, not_less, same_or_less}
use Rattle.net_instances.specs.declared.numbering.InstanceRow.{InstanceRow}
use Rattle.net_instances.specs.declared.numbering.Instances.{Instances}
use Rattle.net_least.specs.OwnFaults.{line_cmp}
use Rattle.net_least.proofs.OwnFirst.{not_before_at}
use Rattle.net_links.specs.declared.rows.LinkRow.{LinkRow}
use Rattle.net_bits.specs.Placed.{ArePlaced}
use Rattle.net_bits.specs.declared.placed.Placed.{Placed}
use Rattle.net_feeds.specs.declared.links.LinkAt.{LinkAt}
use Rattle.net_feeds.specs.declared.marks.Marks.{Marks}
use Rattle.net_feeds.specs.declared.seconds.Found.{Found}
use Rattle.net_feeds.specs.LeastNames.{IsLeastName, IsNameOf}
use Rattle.net_feeds.specs.LinkNumbers.{AreAllLocal, HasSpotAt, IsLinkAt, IsLinkOf, links_at, links_before}
use Rattle.net_feeds.specs.Marked.{AreApart, AreMarks, IsFedByOne, IsMarked}
use Rattle.net_feeds.specs.Seconds.{AreSeconds, IsFound, IsSecond}
use Rattle.net_feeds.specs.TopInputs.{AreTopMarks}
use Rattle.net_feeds.proofs.FeedLemmas.{IsOther, IsTwice, earlier_way, fed_number, from_before, in_before, link_from, link_to, none_early, one_bit, one_inst, twice_of}
use Rattle.net_feeds.proofs.LinkLemmas.{mapped, module_there}

-- a line that is not before another
not_before_line : (line low : ℕ) → low ≤ line → nat_cmp line low ≢ Less
not_before_line line low le = by (same_or_less low line le)
  where
    by : (low ≡ line) ⊎ (low < line) → nat_cmp line low ≢ Less
    by (inl same) less = let never : Equal ≡ Less = sym (nat_cmp_same line low (sym same)) ∙ less in cc
    by (inr more) less = let never : Greater ≡ Less = nat_cmp_is line low Greater more ∙ less in cc

before_line : (line other : ℕ) → line < other → nat_cmp line other ≡ Less
before_line line other less = sym (nat_cmp_is line other Less less)

module _ (s : Sources) (p : Placed) (there : ArePlaced s p) (spots : List Spot) (all : AreAllRising spot_cmp (IsSpot s) spots) (apart : AreInstsApart s)
    (links : List (List LinkRow)) (local : AreAllLocal s links) (given : List Bool) (tops : AreTopMarks s spots given) (inst : ℕ) where
  abbrev made : Instances
  made = p.instances.now

  abbrev ways_of : List Way
  ways_of = there.instances.ways

  module _ (links_apart : AreApart given (links_before links made inst)) (marks : Marks) (are : AreMarks given (links_before links made inst) marks)
      (way : Way) (at_way : slice_get ways_of inst ≡ Some way) (number : ℕ) (m : Module) (of_module : IsOfModule s way number m) where
    to : (i : ℕ) (w : Way) → slice_get ways_of i ≡ Some w → (k : ℕ) (l : LinkAt) (fed : ℕ) → slice_get (links_at links made i) k ≡ Some l → l.fed ≡ Some fed → IsLinkOf s spots w k l
    to = link_to s p there spots all apart links local

    spot_is : (l : LinkAt) (bit : ℕ) (x : Spot) → l.fed ≡ Some bit → HasSpotAt spots l.fed (Some x) → slice_get spots bit ≡ Some x
    spot_is l bit x fed has = let n = fed_number spots l.fed x has in ap (slice_get spots) (same_Some bit n.0 (sym fed ∙ n.1)) ∙ n.2

    -- the name of a bit
    named_so : (bit : ℕ) (x : Spot) (name : List ℕ) → slice_get spots bit ≡ Some x → IsNameOf s spots bit name → HasSpotName s x name
    named_so bit x name at named =
        let spot = all.each x (IsIn-slice_get spots bit x at) in
        let other = joined (path x.way) (bit_name x.net spot.0 x.place) in
        subst (HasSpotName s x) (sym (named x other at (spot.0, spot.1, refl))) (spot.0, spot.1, refl)

    -- what is second is a fault
    twice : (line k j : ℕ) (a : LinkAt) (x : Spot) (source other_source : Option Spot) (name : List ℕ) (w : Way) (other_line : ℕ) → IsLink s way k a.line x source → a.line ≡ line
        → IsLink s w j other_line x other_source → (w ≡ way → j ≢ k) → place_cmp (way, line) (w, other_line) ≢ Less → HasSpotName s x name
        → IsFault s (at_line FaultKind.multi_driven way number line name)
    twice line k j a x source other_source name w other_line link on other differ behind named =
        IsFault.multi_driven way w number k j line other_line m x source other_source name other (subst (λ (n : ℕ). IsLink s way k n x source) on link) differ behind of_module named

    second_is_fault : (line bit : ℕ) (name : List ℕ) → IsNameOf s spots bit name → IsSecond marks.taken.items (links_at links made inst) line bit
        → IsFault s (at_line FaultKind.multi_driven way number line name)
    second_is_fault line bit name named (IsSecond.before i a at fed on marked) = by (are.cause bit marked)
      where
        link : IsLinkOf s spots way i a
        link = to inst way at_way i a bit at fed

        at_bit : slice_get spots bit ≡ Some link.fed_spot
        at_bit = spot_is a bit link.fed_spot fed link.fed_there

        by : IsMarked given bit ⊎ IsFedByOne (links_before links made inst) bit → IsFault s (at_line FaultKind.multi_driven way number line name)
        by (inl outside) =
            IsFault.driven_input way number i line m link.fed_spot link.source_spot name (subst (λ (n : ℕ). IsLink s way i n link.fed_spot link.source_spot) on link.link)
            ((tops.each bit link.fed_spot at_bit).0 outside) of_module (named_so bit link.fed_spot name at_bit named)
        by (inr one) =
            let of_inst = from_before links made inst one.one one.listed in
            let w : Way = get_or ways_of of_inst.inst [] in
            let at_w : slice_get ways_of of_inst.inst ≡ Some w = slice_get-get_or ways_of of_inst.inst [] (omega (arith, of_inst.early, slice_get_within ways_of inst way at_way)) in
            let other = to of_inst.inst w at_w of_inst.number one.one bit of_inst.there one.fed in
            let at_other : slice_get spots bit ≡ Some other.fed_spot = spot_is one.one bit other.fed_spot one.fed other.fed_there in
            let same : other.fed_spot ≡ link.fed_spot = same_Some other.fed_spot link.fed_spot (sym at_other ∙ at_bit) in
            let before : way_cmp w way ≡ Less = earlier_way s p there spots all apart links local of_inst.inst inst w way at_w at_way of_inst.early in
            twice line i of_inst.number a link.fed_spot link.source_spot other.source_spot name w one.one.line link.link on
            (subst (λ y. IsLink s w of_inst.number one.one.line y other.source_spot) same other.link)
            (λ e. absurd (omega (arith, of_inst.early, one_inst s p there spots all apart links local of_inst.inst inst way (at_w ∙ ap Some e) at_way)))
            (not_both_before place_cmp place_total (w, one.one.line) (way, line) (ap (λ c. ordering_then c (nat_cmp one.one.line line)) before))
            (named_so bit link.fed_spot name at_bit named)
    second_is_fault line bit name named (IsSecond.again i j a b at_i at_j fed_a fed_b differ on low) =
        let link = to inst way at_way i a bit at_i fed_a in
        let other = to inst way at_way j b bit at_j fed_b in
        let at_bit : slice_get spots bit ≡ Some link.fed_spot = spot_is a bit link.fed_spot fed_a link.fed_there in
        let at_other : slice_get spots bit ≡ Some other.fed_spot = spot_is b bit other.fed_spot fed_b other.fed_there in
        let same : other.fed_spot ≡ link.fed_spot = same_Some other.fed_spot link.fed_spot (sym at_other ∙ at_bit) in
        twice line i j a link.fed_spot link.source_spot other.source_spot name way b.line link.link on
        (subst (λ y. IsLink s way j b.line y other.source_spot) same other.link) (λ e. differ)
        (λ less. not_before_line line b.line low (sym (ap (λ c. ordering_then c (nat_cmp line b.line)) (same_way_equal way)) ∙ less))
        (named_so bit link.fed_spot name at_bit named)

    -- a fault of the kind in this instance is second
    record IsSecondAt (g : Fault) (x : Spot) : Type 0 where
      pub bit : ℕ
      pub at_bit : slice_get spots bit ≡ Some x
      pub second : IsSecond marks.taken.items (links_at links made inst) g.line bit

    fault_is_second : (g : Fault) (t : IsTwice s g) → g.way ≡ way → IsSecondAt g t.x
    fault_is_second g t same_way = record { bit = fed.0; at_bit = fed.2; second = by t.cause }
      where
        at : IsLinkAt spots ways_of links made g.way t.number g.line t.x t.source
        at = link_from s p there spots all apart links local g.way t.number g.line t.x t.source t.link

        fed : (n : ℕ) × (at.at.fed ≡ Some n) × (slice_get spots n ≡ Some t.x)
        fed = fed_number spots at.at.fed t.x at.fed_there

        here : at.inst ≡ inst
        here = one_inst s p there spots all apart links local at.inst inst way (at.inst_there ∙ ap Some same_way) at_way

        there_at : slice_get (links_at links made inst) t.number ≡ Some at.at
        there_at = ap (λ (n : ℕ). slice_get (links_at links made n) t.number) (sym here) ∙ at.there

        marked : IsMarked marks.taken.items fed.0 → IsSecond marks.taken.items (links_at links made inst) g.line fed.0
        marked is = IsSecond.before t.number at.at there_at fed.1 at.on_line is

        other : (o : IsOther s g.way t.number g.line t.x) → (a : IsLinkAt spots ways_of links made o.other_way o.other o.other_line t.x o.other_source)
            → (a.inst ≡ inst) ⊎ ((a.inst < inst) ⊎ (inst < a.inst)) → IsSecond marks.taken.items (links_at links made inst) g.line fed.0
        other o a (inr (inl early)) =
            let fed' = fed_number spots a.at.fed t.x a.fed_there in
            let same : fed'.0 ≡ fed.0 = one_bit s p there spots all apart links local fed'.0 fed.0 t.x fed'.2 fed.2 in
            marked (are.marked a.at fed.0 (in_before links made inst a.inst o.other a.at early a.there) (fed'.1 ∙ ap Some same))
        other o a (inr (inr late)) =
            let less : way_cmp g.way o.other_way ≡ Less =
            earlier_way s p there spots all apart links local at.inst a.inst g.way o.other_way at.inst_there a.inst_there (omega (arith, here, late)) in
            absurd (o.not_behind (ap (λ c. ordering_then c (nat_cmp g.line o.other_line)) less))
        other o a (inl same) =
            let fed' = fed_number spots a.at.fed t.x a.fed_there in
            let same_bit : fed'.0 ≡ fed.0 = one_bit s p there spots all apart links local fed'.0 fed.0 t.x fed'.2 fed.2 in
            let way_same : o.other_way ≡ g.way = same_Some o.other_way g.way (sym a.inst_there ∙ ap (slice_get ways_of) (same ∙ sym here) ∙ at.inst_there) in
            let a_there : slice_get (links_at links made inst) o.other ≡ Some a.at = ap (λ (n : ℕ). slice_get (links_at links made n) o.other) (sym same) ∙ a.there in
            IsSecond.again t.number o.other at.at a.at there_at a_there fed.1 (fed'.1 ∙ ap Some same_bit) (o.differ way_same) at.on_line (low way_same (cases_lt g.line o.other_line))
          where
            low : o.other_way ≡ g.way → (g.line < o.other_line) ⊎ (o.other_line ≤ g.line) → a.at.line ≤ g.line
            low way_same (inr le) = omega (arith, a.on_line, le)
            low way_same (inl less) =
                let equal : way_cmp g.way o.other_way ≡ Equal = ap (way_cmp g.way) way_same ∙ same_way_equal g.way in
                absurd (o.not_behind (ap (λ c. ordering_then c (nat_cmp g.line o.other_line)) equal ∙ before_line g.line o.other_line less))

        by : IsTopInput s t.x ⊎ IsOther s g.way t.number g.line t.x → IsSecond marks.taken.items (links_at links made inst) g.line fed.0
        by (inl top) = marked (are.kept fed.0 ((tops.each fed.0 t.x fed.2).1 top))
        by (inr o) =
            let a = link_from s p there spots all apart links local o.other_way o.other o.other_line t.x o.other_source o.link in
            other o a (cases_order a.inst inst)

    module _ (found : Found) (seconds : AreSeconds marks.taken.items (links_at links made inst) found) (name : List ℕ) (is : IsLeastName s spots found.bits.items name)
        (none : HasNoneBefore FaultKind.multi_driven s) where
      abbrev f : Fault
      f = at_line FaultKind.multi_driven way number found.line name

      by_line : (g : Fault) (t : IsTwice s g) → g ≡ at_line FaultKind.multi_driven way number g.line g.name → line_cmp (g.line, g.name) (found.line, name) ≢ Less
      by_line g t same = by (same_or_less found.line g.line first.low)
        where
          at : IsSecondAt g t.x
          at = fault_is_second g t (ap (λ (h : Fault). h.way) same)

          first : IsFound found g.line at.bit
          first = seconds.first g.line at.bit at.second

          by : (found.line ≡ g.line) ⊎ (found.line < g.line) → line_cmp (g.line, g.name) (found.line, name) ≢ Less
          by (inl e) less =
              is.least at.bit t.x g.name (first.same (sym e)) at.at_bit t.named (sym (ap (λ c. ordering_then c (name_cmp g.name name)) (nat_cmp_same g.line found.line (sym e))) ∙ less)
          by (inr late) less =
              let greater : line_cmp (g.line, g.name) (found.line, name) ≡ Greater =
              ap (λ c. ordering_then c (name_cmp g.name name)) (sym (nat_cmp_is g.line found.line Greater late)) in
              not_less (line_cmp (g.line, g.name) (found.line, name)) greater less

      least : (g : Fault) → IsFault s g → fault_cmp g f ≢ Less
      least g fault = by (same_or_less 8 (kind_number g.kind) (none g fault))
        where
          by : (8 ≡ kind_number g.kind) ⊎ (8 < kind_number g.kind) → fault_cmp g f ≢ Less
          by (inl same) =
              let t = twice_of s g fault (sym same) in
              let at = link_from s p there spots all apart links local g.way t.number g.line t.x t.source t.link in
              not_before_at s FaultKind.multi_driven way number m of_module found.line name g t.m t.of_module t.same
              (λ less. none_early s p there spots all apart links local given tops inst links_apart g t at.inst at.inst_there
              (lower_place way_cmp way_total ways_of there.instances.all_ways.rising at.inst inst g.way way at.inst_there at_way less))
              (by_line g t)
          by (inr later) = later_kind f g later

      first_here : HasFirstFault s (N8 (record { «module» = number; line = found.line; name = name }))
      first_here = (f, record { holds = second_is_fault found.line is.bit name is.named (seconds.each is.bit is.one); least = least }, refl)

  -- the least link of an instance to a bit that is fed already, where no earlier instance has one
  pub first_fault : (marks : Marks) → AreApart given (links_before links made inst) → AreMarks given (links_before links made inst) marks → (found : Found)
      → AreSeconds marks.taken.items (links_at links made inst) found → (name : List ℕ) → IsLeastName s spots found.bits.items name → HasNoneBefore FaultKind.multi_driven s
      → (number : ℕ) → option_map (λ (row : InstanceRow). row.body) (slice_get made.rows inst) ≡ Some (ModuleBody number)
      → HasFirstFault s (N8 (record { «module» = number; line = found.line; name = name }))
  first_fault marks links_apart are found seconds name is none number body =
      let row = mapped (λ (r : InstanceRow). r.body) (slice_get made.rows inst) (ModuleBody number) body in
      let way : Way = get_or ways_of inst [] in
      let at_way : slice_get ways_of inst ≡ Some way = slice_get-get_or ways_of inst [] (omega (arith, slice_get_within made.rows inst row.0 row.1, there.instances.count)) in
      let m = module_there s way number ((there.instances.each inst way row.0 at_way row.1).body ∙ ap Some row.2) in
      first_here links_apart marks are way at_way number m.0 m.1 found seconds name is none
