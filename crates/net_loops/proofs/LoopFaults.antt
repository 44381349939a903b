-- The first ring is the first fault of a hierarchy without earlier ones.
use Rattle.std.proofs.Common.{◌≡◌, ◌≢◌, ℕ, ◌<◌, ◌≤◌, ◌⊎◌, inl, inr, List, Option, Some, length, slice_get, refl, sym, ap, ◌∙◌, subst, arith}
use Rattle.std.specs.Ordering.{nat_cmp, ordering_reverse, ordering_then}
use Rattle.std.specs.declared.cmp.Ordering.TheVariants.{Less, Equal, Greater}
use Rattle.std.proofs.lemmas.Bool.{cases_order}
use Rattle.std.proofs.lemmas.Cmp.{tied_itself}
use Rattle.std.proofs.lemmas.Option.{same_Some, slice_get_within}
use Rattle.std.specs.Cmp.{nat_cmp_is}
use Rattle.pw_defs.specs.declared.design.Body.TheVariants.{Module as ModuleBody}
use Rattle.pw_defs.specs.declared.faults.AtModule.{AtModule}
use Rattle.pw_defs.specs.declared.faults.DesignFault.TheVariants.{N10}
use Rattle.pw_defs.specs.declared.netlist.Module.{Module}
use Rattle.list_defs.specs.Members.{IsIn}
use Rattle.list_defs.specs.Orders.{AreAllRising, name_cmp}
use Rattle.list_defs.specs.Rings.{IsReached}
use Rattle.list_defs.proofs.Few.{place_of_member}
use Rattle.design_defs.specs.Bits.{IsSpot, Spot, spot_cmp}
use Rattle.design_defs.specs.DesignFaults.{Fault, FaultKind, HasFirstFault, IsFault, IsLeastOnRing, at_line, fault_cmp, kind_number, HasNoneBefore}
use Rattle.design_defs.specs.Hierarchy.{IsOfModule, Sources, Way, body_at, way_cmp}
use Rattle.design_defs.specs.Links.{Feeds, IsFed}
use Rattle.design_defs.proofs.BitOrders.{way_total}
use Rattle.design_laws.proofs.RingLemmas.{first_step}
use Rattle.design_laws.proofs.Top.{rising_places}
use Rattle.net_rings.proofs.RingLaws.{last_step}
use Rattle.net_hierarchy.specs.Ordered.{HasNoneOf}
use Rattle.design_defs.specs.Inputs.{AreReadSources}
use Rattle.net_bits.specs.Placed.{ArePlaced}
use Rattle.net_bits.specs.declared.placed.Placed.{Placed}
use Rattle.net_feeds.specs.LinkNumbers.{AreAllLocal}
use Rattle.net_feeds.proofs.LinkLemmas.{module_there}
use Rattle.net_inner.specs.Inside.{AreInnerSources}
use Rattle.net_inner.specs.declared.inner.Inner.{Inner}
use Rattle.net_links.specs.declared.rows.LinkRow.{LinkRow}
use Rattle.net_loops.specs.Least.{AreLeastBits, HasMark, IsFaultAt, IsLeastAt}
use Rattle.net_loops.specs.Lines.{HasNoneAt, IsFirstAt, IsNotBehind, lines_at, mark_at}
use Rattle.net_loops.specs.declared.lines.Candidate.{Candidate}
use Rattle.net_loops.proofs.Between.{between, input_of, link_spot, through_spot}
use Rattle.net_loops.proofs.LineLaws.{IsLineAt, feeds_line, line_feeds}
use Rattle.design_laws.proofs.OneFeed.{IsGhost, one_feed}

-- what a fault of this kind says
pub record IsLoop (s : Sources) (f : Fault) : Type 0 where
  pub way : Way
  pub number : ℕ
  pub line : ℕ
  pub m : Module
  pub x : Spot
  pub source : Spot
  pub name : List ℕ
  pub least : IsLeastOnRing s x name
  pub fed : IsFed s x source way line
  pub of_module : IsOfModule s way number m
  pub is : f ≡ at_line FaultKind.wire_loop way number line name

-- a fault that comes behind all other kinds is a ring
pub is_loop : (s : Sources) (f : Fault) → IsFault s f → kind_number FaultKind.wire_loop ≤ kind_number f.kind → IsLoop s f
is_loop s _ (IsFault.module_twice n earlier m other a b c d) late = absurd (omega (arith, late))
is_loop s _ (IsFault.module_and_cell n c m a b) late = absurd (omega (arith, late))
is_loop s _ (IsFault.port_mismatch n m model a b c d) late = absurd (omega (arith, late))
is_loop s _ (IsFault.recursion way n of_inst m i a b c d) late = absurd (omega (arith, late))
is_loop s _ (IsFault.no_top a) late = absurd (omega (arith, late))
is_loop s _ (IsFault.unknown_type way n m i a b c) late = absurd (omega (arith, late))
is_loop s _ (IsFault.size a) late = absurd (omega (arith, late))
is_loop s _ (IsFault.unknown_port way n m i c body a b d e f) late = absurd (omega (arith, late))
is_loop s _ (IsFault.selected_in_conn way n m i c e name a b d f g) late = absurd (omega (arith, late))
is_loop s _ (IsFault.selected_in_assign way n m a name b c d) late = absurd (omega (arith, late))
is_loop s _ (IsFault.width_of_conn way n m i c e p a b d f g h j) late = absurd (omega (arith, late))
is_loop s _ (IsFault.width_of_assign way n m a name names b c d e f g) late = absurd (omega (arith, late))
is_loop s _ (IsFault.path_twice x y name way n line a b c d e) late = absurd (omega (arith, late))
is_loop s _ (IsFault.multi_driven way other_way n number other line other_line m x source other_source name a b c d e f) late = absurd (omega (arith, late))
is_loop s _ (IsFault.driven_input way n number line m x source name a b c d) late = absurd (omega (arith, late))
is_loop s _ (IsFault.wire_loop way n line m x source name least fed of_module) late =
    record { way = way; number = n; line = line; m = m; x = x; source = source; name = name; least = least; fed = fed; of_module = of_module; is = refl }

-- RINGS. What feeds a bit that is on one.
record HasNextBit (s : Sources) (x : Spot) : Type 0 where
  z : Spot
  is_spot : IsSpot s z
  feeds : Feeds s x z

module _ (s : Sources) (between : (x y z : Spot) → Feeds s x y → Feeds s y z → IsSpot s y) where
  pub on_ring : (x : Spot) → IsReached (Feeds s) x x → IsSpot s x
  on_ring x ring = let before = last_step (Feeds s) x x ring in let next = first_step (Feeds s) x x ring in between before.before x next.0 before.step next.1

  next_bit : (x y : Spot) → IsSpot s y → IsReached (Feeds s) x y → HasNextBit s x
  next_bit _ _ is (IsReached.one x y step) = record { z = y; is_spot = is; feeds = step }
  next_bit _ _ is (IsReached.more x z y step rest) = let after = first_step (Feeds s) z y rest in record { z = z; is_spot = between x z after.0 step after.1; feeds = step }

module _ (s : Sources) (p : Placed) (there : ArePlaced s p) (read : AreReadSources s) (early : HasNoneBefore FaultKind.wire_loop s)
    (spots : List Spot) (all : AreAllRising spot_cmp (IsSpot s) spots) (inner : Inner) (sources : AreInnerSources s p inner)
    (links : List (List LinkRow)) (local : AreAllLocal s links) (marks : List (Option ℕ)) (least_bits : AreLeastBits s spots marks) where
  is_between : (x y z : Spot) → Feeds s x y → Feeds s y z → IsSpot s y
  is_between = between s read early p there spots all links local

  -- the line that feeds a bit of a ring feeds it from a bit that there is
  real_feed : (x z source : Spot) (way : Way) (line : ℕ) → IsSpot s x → IsSpot s z → Feeds s x z → IsFed s x source way line → IsFed s x z way line
  real_feed x z source way line is_x is_z next fed = by fed (one_feed s read early x z source is_x is_z next (way, line, fed))
    where
      by : IsFed s x source way line → (source ≡ z) ⊎ IsGhost s source z → IsFed s x z way line
      by f (inl same) = subst (λ y. IsFed s x y way line) same f
      by (IsFed.link number l) (inr ghost) = absurd (ghost.no_bit (link_spot s read early p there spots all links local x source (way, number, line, l)))
      by (IsFed.through name of_x made t) (inr ghost) = absurd (ghost.no_bit (through_spot s x source t))
      by (IsFed.feed name of_x made f) (inr ghost) =
          let input = input_of s read early x source f in
          elim (one_feed s read early x z input.bit is_x is_z next (way, line, IsFed.feed name of_x made input.feeds)) [
            | inl same ↦ subst (λ y. IsFed s x y way line) same (IsFed.feed name of_x made input.feeds)
            | inr other ↦ absurd (other.no_bit input.is_bit)
          ]

  -- a fault of this kind by numbers
  record IsLoopAt (f : Fault) (loop : IsLoop s f) : Type 0 where
    inst : ℕ
    n : ℕ
    mark : ℕ
    at_way : slice_get (there.instances.ways) inst ≡ Some (loop.way)
    at_x : slice_get spots n ≡ Some (loop.x)
    marked : mark_at marks n ≡ Some mark
    listed : IsIn (loop.line, n) (lines_at p links inner inst)

  loop_at : (f : Fault) (loop : IsLoop s f) → IsLoopAt f loop
  loop_at f loop = record {
    inst = inst.0;
    n = has.n;
    mark = has.mark;
    at_way = inst.1;
    at_x = has.at;
    marked = has.marked;
    listed = feeds_line s p there read early spots all inner sources links local inst.0 loop.line has.n loop.x next.z loop.way inst.1 has.at next.is_spot
        (real_feed loop.x next.z loop.source loop.way loop.line is_x next.is_spot next.feeds loop.fed);
  }
    where
      has : HasMark spots marks (loop.x)
      has = least_bits.all loop.x loop.name loop.least

      is_x : IsSpot s (loop.x)
      is_x = on_ring s is_between loop.x loop.least.ring

      next : HasNextBit s (loop.x)
      next = next_bit s is_between loop.x loop.x is_x loop.least.ring

      inst : (n : ℕ) × (slice_get there.instances.ways n ≡ Some loop.way)
      inst = place_of_member loop.way there.instances.ways (there.instances.all_ways.all loop.way (ModuleBody loop.number, loop.of_module.body))

  -- NO LINE feeds the least bit of a ring: there is no ring.
  pub no_loop : HasNoneAt p links inner marks (length p.instances.now.rows) → HasNoneOf s FaultKind.wire_loop
  no_loop none f is same =
      let loop = is_loop s f is (omega (arith, same)) in
      let at = loop_at f loop in
      none at.inst (omega (arith, slice_get_within there.instances.ways at.inst loop.way at.at_way, there.instances.count)) loop.line at.n at.mark at.listed at.marked

  -- THE FIRST LINE that does is the first fault.
  module _ (inst : ℕ) (c : Candidate) (first : IsFirstAt p links inner marks inst c) (at : AtModule) (said : IsFaultAt p inst c at) where
    line : IsLineAt s p there read early spots all inner sources links local inst (c.line) (c.bit)
    line = line_feeds s p there read early spots all inner sources links local inst c.line c.bit first.first.there

    bit : IsLeastAt s spots (c.bit)
    bit = least_bits.each c.bit c.rank first.first.marked

    same_bit : line.x ≡ bit.x
    same_bit = same_Some line.x bit.x (sym line.at_x ∙ bit.at)

    name_is : at.name ≡ bit.name
    name_is = said.named s there spots all bit.x bit.at bit.name bit.least.named

    body_is : body_at s line.way ≡ Some (ModuleBody at.«module»)
    body_is = (there.instances.each inst line.way said.row line.at_way said.at_row).body ∙ ap Some said.body

    of_module : (m : Module) × IsOfModule s line.way at.«module» m
    of_module = module_there s line.way at.«module» body_is

    abbrev fault : Fault
    fault = at_line FaultKind.wire_loop line.way at.«module» at.line at.name

    is_fault : IsFault s fault
    is_fault =
        IsFault.wire_loop line.way at.«module» at.line of_module.0 line.x line.y at.name
        (subst (λ x. IsLeastOnRing s x at.name) (sym same_bit) (subst (IsLeastOnRing s bit.x) (sym name_is) bit.least))
        (subst (λ (l : ℕ). IsFed s line.x line.y line.way l) (sym said.on_line) line.fed) of_module.1

    none_less : (g : Fault) → IsFault s g → fault_cmp g fault ≢ Less
    none_less g is_g less = compare (cases_order at_g.inst inst)
      where
        loop : IsLoop s g
        loop = is_loop s g is_g (early g is_g)

        at_g : IsLoopAt g loop
        at_g = loop_at g loop

        same_kind : fault_cmp g fault ≡ ordering_then (way_cmp loop.way line.way)
            (ordering_then (nat_cmp loop.number at.«module») (ordering_then (nat_cmp loop.line at.line) (name_cmp loop.name at.name)))
        same_kind = ap (λ f. fault_cmp f fault) loop.is ∙ refl

        parts : ordering_then (way_cmp loop.way line.way) (ordering_then (nat_cmp loop.number at.«module») (ordering_then (nat_cmp loop.line at.line) (name_cmp loop.name at.name))) ≡ Less
        parts = sym same_kind ∙ less

        behind : inst < at_g.inst → ⊥
        behind before =
            let later : way_cmp line.way loop.way ≡ Less =
            rising_places way_cmp there.instances.ways there.instances.all_ways.rising inst at_g.inst line.way loop.way line.at_way at_g.at_way before in
            let greater : way_cmp loop.way line.way ≡ Greater = way_total.antisymm loop.way line.way ∙ ap ordering_reverse later in
            let never : Greater ≡ Less =
            sym (ap (λ o. ordering_then o (ordering_then (nat_cmp loop.number at.«module») (ordering_then (nat_cmp loop.line at.line) (name_cmp loop.name at.name)))) greater) ∙ parts in
            cc

        on_line : at_g.inst ≡ inst → IsNotBehind c.line c.rank loop.line at_g.mark → ⊥
        on_line here order = by order
          where
            ways : loop.way ≡ line.way
            ways = same_Some loop.way line.way (sym at_g.at_way ∙ ap (slice_get there.instances.ways) here ∙ line.at_way)

            numbers : loop.number ≡ at.«module»
            numbers = by (same_Some (ModuleBody loop.number) (ModuleBody at.«module») (sym loop.of_module.body ∙ ap (body_at s) ways ∙ body_is))
              where
                by : ModuleBody loop.number ≡ ModuleBody at.«module» → loop.number ≡ at.«module»
                by e = cc

            rest : ordering_then (nat_cmp loop.line at.line) (name_cmp loop.name at.name) ≡ Less
            rest =
                sym (ap (λ o. ordering_then o (ordering_then (nat_cmp loop.number at.«module») (ordering_then (nat_cmp loop.line at.line) (name_cmp loop.name at.name)))) equal_ways
                ∙ ap (λ o. ordering_then o (ordering_then (nat_cmp loop.line at.line) (name_cmp loop.name at.name))) equal_numbers) ∙ parts
              where
                equal_ways : way_cmp loop.way line.way ≡ Equal
                equal_ways = ap (way_cmp loop.way) (sym ways) ∙ tied_itself way_total loop.way

                equal_numbers : nat_cmp loop.number at.«module» ≡ Equal
                equal_numbers = sym (nat_cmp_is loop.number at.«module» Equal numbers)

            by : IsNotBehind c.line c.rank loop.line at_g.mark → ⊥
            by (inl below) =
                let greater : nat_cmp loop.line at.line ≡ Greater = sym (nat_cmp_is loop.line at.line Greater (omega (arith, below, said.on_line))) in
                let never : Greater ≡ Less = sym (ap (λ o. ordering_then o (name_cmp loop.name at.name)) greater) ∙ rest in
                cc
            by (inr same) =
                let equal : nat_cmp loop.line at.line ≡ Equal = sym (nat_cmp_is loop.line at.line Equal (sym same.0 ∙ sym said.on_line)) in
                let names : name_cmp loop.name bit.name ≡ Less = ap (name_cmp loop.name) (sym name_is) ∙ sym (ap (λ o. ordering_then o (name_cmp loop.name at.name)) equal) ∙ rest in
                let small = (least_bits.less at_g.n c.bit at_g.mark c.rank loop.x bit.x loop.name bit.name at_g.marked first.first.marked at_g.at_x bit.at loop.least.named bit.least.named).1 names in
                absurd (omega (arith, small, same.1))

        compare : (at_g.inst ≡ inst) ⊎ ((at_g.inst < inst) ⊎ (inst < at_g.inst)) → ⊥
        compare (inl here) =
            on_line here (first.first.first loop.line at_g.n at_g.mark (subst (λ (i : ℕ). IsIn (loop.line, at_g.n) (lines_at p links inner i)) here at_g.listed) at_g.marked)
        compare (inr (inl before)) = first.before at_g.inst before loop.line at_g.n at_g.mark at_g.listed at_g.marked
        compare (inr (inr after)) = behind after

    pub first_loop : HasFirstFault s (N10 at)
    first_loop = (fault, record { holds = is_fault; least = none_less }, refl)

-- where no bits are on a ring, no fault is one
pub none_without_rings : (s : Sources) → ((x : Spot) → IsReached (Feeds s) x x → ⊥) → HasNoneOf s FaultKind.wire_loop
none_without_rings s none f is same = let loop = is_loop s f is (omega (arith, same)) in none loop.x loop.least.ring
