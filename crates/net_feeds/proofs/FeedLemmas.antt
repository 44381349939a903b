-- The links of all instances by their numbers: which bits they feed, and that links which are apart are no faults.
use Rattle.std.proofs.Common.{◌≡◌, ◌≢◌, ℕ, zero, suc, ◌+◌, ◌-◌, ◌<◌, ◌≤◌, ◌⊎◌, inl, inr, Bool, true, false, List, [], ◌∷◌, ◌++◌, get_or, length, refl, sym, ap, ◌∙◌, subst, arith}
use Rattle.std.specs.Prelude.{Option, Some, None}
use Rattle.std.specs.List.{AllZip, range_with_len, slice_get}
use Rattle.std.specs.Ordering.{nat_cmp, ordering_then}
use Rattle.std.specs.declared.cmp.Ordering.TheVariants.{Less}
use Rattle.std.proofs.lemmas.Bool.{cases_lt, cases_order}
use Rattle.std.proofs.lemmas.List.{length-append}
use Rattle.std.proofs.lemmas.List.FromFn.{get_or-range_with_len, length-range_with_len}
use Rattle.std.proofs.lemmas.Option.{get_or_from_slice_get, same_Some, slice_get-get_or, slice_get_within}
use Rattle.design_rows.specs.declared.tables.Feed.{Feed}
use Rattle.design_rows.specs.declared.tables.Feed.TheVariants.{Nothing}
use Rattle.pw_defs.specs.declared.design.Body.{Body}
use Rattle.pw_defs.specs.declared.design.Body.TheVariants.{Module as ModuleBody, Cell as CellBody, Model as ModelBody}
use Rattle.pw_defs.specs.declared.netlist.Module.{Module}
use Rattle.list_defs.specs.Members.{IsIn}
use Rattle.list_defs.specs.Orders.{AreAllRising}
use Rattle.list_defs.proofs.Few.{place_of_member}
use Rattle.list_defs.proofs.Longer.{slice_get-append}
use Rattle.list_defs.proofs.Members.{IsIn-flat_map_from, IsIn-slice_get}
use Rattle.list_defs.proofs.OneList.{one_place}
use Rattle.design_defs.specs.Bits.{HasSpotName, IsSpot, Spot, spot_cmp}
use Rattle.design_defs.specs.DesignFaults.{Fault, FaultKind, IsFault, IsTopInput, at_line, kind_number, place_cmp}
use Rattle.design_defs.specs.Designs.{IsLinked}
use Rattle.design_defs.specs.Hierarchy.{IsOfModule, Sources, Way, way_cmp}
use Rattle.design_defs.specs.Links.{IsLink}
use Rattle.design_defs.proofs.BitOrders.{spot_total, way_total}
use Rattle.design_laws.proofs.Top.{rising_places}
use Rattle.net_hierarchy.specs.Graph.{AreInstsApart}
use Rattle.net_hierarchy.specs.Ordered.{HasNoneOf}
use Rattle.net_instances.specs.declared.numbering.Instances.{Instances}
use Rattle.net_links.specs.declared.rows.LinkRow.{LinkRow}
use Rattle.net_bits.specs.Placed.{ArePlaced}
use Rattle.net_bits.specs.declared.placed.Placed.{Placed}
use Rattle.net_feeds.specs.declared.links.LinkAt.{LinkAt}
use Rattle.net_feeds.specs.declared.marks.Marks.{Marks}
use Rattle.net_feeds.specs.Feeds.{AreFedSo, IsFedSo}
use Rattle.net_feeds.specs.LinkNumbers.{AreAllLocal, HasSpotAt, IsLinkAt, IsLinkOf, links_at, links_before, links_of_rows, rows_of_body, rows_of_row}
use Rattle.net_feeds.specs.Marked.{AreApart, AreMarks, IsFedByOne, IsMarked, feed_of}
use Rattle.net_feeds.specs.TopInputs.{AreTopMarks}
use Rattle.net_feeds.proofs.LinkLemmas.{HasRow, link_at_number, link_of, module_there, row_of}
use Rattle.net_feeds.proofs.RowLinks.{before_more}

-- FAULTS. Another link to a bit that isn't behind this one
pub record IsOther (s : Sources) (way : Way) (number line : ℕ) (x : Spot) : Type 0 where
  pub other_way : Way
  pub other : ℕ
  pub other_line : ℕ
  pub other_source : Option Spot
  pub link : IsLink s other_way other other_line x other_source
  pub differ : other_way ≡ way → other ≢ number
  pub not_behind : place_cmp (way, line) (other_way, other_line) ≢ Less

-- a fault of this kind is a link to a bit that is fed from outside or by another link
pub record IsTwice (s : Sources) (g : Fault) : Type 0 where
  pub m : Module
  pub of_module : IsOfModule s g.way g.module_number m
  pub number : ℕ
  pub x : Spot
  pub source : Option Spot
  pub link : IsLink s g.way number g.line x source
  pub named : HasSpotName s x g.name
  pub cause : IsTopInput s x ⊎ IsOther s g.way number g.line x
  pub same : g ≡ at_line FaultKind.multi_driven g.way g.module_number g.line g.name

pub twice_of : (s : Sources) (g : Fault) → IsFault s g → kind_number g.kind ≡ 8 → IsTwice s g
twice_of s _ (IsFault.multi_driven way other_way n number other line other_line m x source other_source name first second differ not_behind of_module named) e =
    record {
      m = m;
      of_module = of_module;
      number = number;
      x = x;
      source = source;
      link = second;
      named = named;
      cause = inr (record { other_way = other_way; other = other; other_line = other_line; other_source = other_source; link = first; differ = differ; not_behind = not_behind });
      same = refl;
    }
twice_of s _ (IsFault.driven_input way n number line m x source name link input of_module named) e =
    record { m = m; of_module = of_module; number = number; x = x; source = source; link = link; named = named; cause = inl input; same = refl }
twice_of s _ (IsFault.module_twice n earlier m other a b c d) e = absurd (omega (arith, e))
twice_of s _ (IsFault.module_and_cell n c m a b) e = absurd (omega (arith, e))
twice_of s _ (IsFault.port_mismatch n m model a b c d) e = absurd (omega (arith, e))
twice_of s _ (IsFault.recursion way n of_inst m i a b c d) e = absurd (omega (arith, e))
twice_of s _ (IsFault.no_top a) e = absurd (omega (arith, e))
twice_of s _ (IsFault.unknown_type way n m i a b c) e = absurd (omega (arith, e))
twice_of s _ (IsFault.size a) e = absurd (omega (arith, e))
twice_of s _ (IsFault.unknown_port way n m i c body a b d f g) e = absurd (omega (arith, e))
twice_of s _ (IsFault.selected_in_conn way n m i c x name a b d f g) e = absurd (omega (arith, e))
twice_of s _ (IsFault.selected_in_assign way n m x name a b c) e = absurd (omega (arith, e))
twice_of s _ (IsFault.width_of_conn way n m i c x p a b d f g h k) e = absurd (omega (arith, e))
twice_of s _ (IsFault.width_of_assign way n m x name names a b c d f g) e = absurd (omega (arith, e))
twice_of s _ (IsFault.path_twice x y name way n line a b c d f) e = absurd (omega (arith, e))
twice_of s _ (IsFault.wire_loop way n line m x source name a b c) e = absurd (omega (arith, e))

-- LISTS. What holds of the things of two lists, place by place
zip_of : {A B : Type 0} (R : A → B → Type 0) (xs : List A) (ys : List B) → length ys ≡ length xs
    → ((k : ℕ) (x : A) (y : B) → slice_get xs k ≡ Some x → slice_get ys k ≡ Some y → R x y) → AllZip R xs ys
zip_of R [] [] same each = tt
zip_of R [] (y ∷ ys) same each = absurd (omega arith)
zip_of R (x ∷ xs) [] same each = absurd (omega arith)
zip_of R (x ∷ xs) (y ∷ ys) same each = (each 0 x y refl refl, zip_of R xs ys (omega arith) (λ k z w at_z at_w. each (suc k) z w at_z at_w))

behind_front : {X : Type 0} (xs ys : List X) (k : ℕ) → slice_get (xs ++ ys) (length xs + k) ≡ slice_get ys k
behind_front [] ys k = ap (slice_get ys) {x = 0 + k} {y = k} (omega arith)
behind_front (x ∷ xs) ys k = ap (slice_get (x ∷ (xs ++ ys))) {x = length (x ∷ xs) + k} {y = suc (length xs + k)} (omega arith) ∙ behind_front xs ys k

-- the number of a bit that is there
pub fed_number : (spots : List Spot) (o : Option ℕ) (x : Spot) → HasSpotAt spots o (Some x) → (n : ℕ) × (o ≡ Some n) × (slice_get spots n ≡ Some x)
fed_number spots None x has = absurd has
fed_number spots (Some n) x has = (n, refl, has)

module _ (links : List (List LinkRow)) (made : Instances) where
  abbrev pub starts : ℕ → ℕ
  starts inst = length (links_before links made inst)

  one_more : (inst : ℕ) → starts (inst + 1) ≡ starts inst + length (links_at links made inst)
  one_more inst = ap length (before_more links made inst) ∙ length-append (links_before links made inst) (links_at links made inst)

  grows : (i n : ℕ) → starts i ≤ starts (i + n)
  grows i zero = let same : starts (i + 0) ≡ starts i = ap starts (omega arith) in omega (arith, same)
  grows i (suc n) =
      let rest = grows i n in
      let same : starts (i + suc n) ≡ starts (i + n + 1) = ap starts (omega arith) in
      omega (arith, rest, same, one_more (i + n))

  up_to : (i j : ℕ) → i < j → starts i + length (links_at links made i) ≤ starts j
  up_to i j less =
      let n : ℕ = j - (i + 1) in
      let same : starts (i + 1 + n) ≡ starts j = ap starts (omega (arith, less)) in
      omega (arith, grows (i + 1) n, same, one_more i)

  at_place : (count inst k : ℕ) (l : LinkAt) → inst < count → slice_get (links_at links made inst) k ≡ Some l → slice_get (links_before links made count) (starts inst + k) ≡ Some l
  at_place zero inst k l early there = absurd (omega arith)
  at_place (suc count) inst k l early there = whole ∙ by (cases_lt inst count) (at_place count inst k l)
    where
      more : links_before links made (suc count) ≡ links_before links made count ++ links_at links made count
      more = ap (links_before links made) {x = suc count} {y = count + 1} (omega arith) ∙ before_more links made count

      whole : slice_get (links_before links made (suc count)) (starts inst + k) ≡ slice_get (links_before links made count ++ links_at links made count) (starts inst + k)
      whole = ap (λ ls. slice_get ls (starts inst + k)) more

      by : (inst < count) ⊎ (count ≤ inst) → (inst < count → slice_get (links_at links made inst) k ≡ Some l → slice_get (links_before links made count) (starts inst + k) ≡ Some l)
          → slice_get (links_before links made count ++ links_at links made count) (starts inst + k) ≡ Some l
      by (inl less) rest = slice_get-append (links_before links made count) (links_at links made count) (starts inst + k) l (rest less there)
      by (inr last) rest =
          let same : inst ≡ count = omega (arith, early, last) in
          ap (λ n. slice_get (links_before links made count ++ links_at links made count) (starts n + k)) same
          ∙ behind_front (links_before links made count) (links_at links made count) k ∙ ap (λ n. slice_get (links_at links made n) k) (sym same) ∙ there

  pub in_before : (count inst k : ℕ) (l : LinkAt) → inst < count → slice_get (links_at links made inst) k ≡ Some l → IsIn l (links_before links made count)
  in_before count inst k l early there = IsIn-slice_get (links_before links made count) (starts inst + k) l (at_place count inst k l early there)

  -- one of the links of the first instances
  pub record IsOfInst (count : ℕ) (l : LinkAt) : Type 0 where
    pub inst : ℕ
    pub early : inst < count
    pub number : ℕ
    pub there : slice_get (links_at links made inst) number ≡ Some l

  pub from_before : (count : ℕ) (l : LinkAt) → IsIn l (links_before links made count) → IsOfInst count l
  from_before count l one =
      let from = IsIn-flat_map_from (links_at links made) (range_with_len 0 count) l one in
      let at = place_of_member from.0 (range_with_len 0 count) from.1 in
      let within : at.0 < count = omega (arith, slice_get_within (range_with_len 0 count) at.0 from.0 at.1, length-range_with_len 0 count) in
      let is : from.0 ≡ 0 + at.0 = sym (get_or_from_slice_get (range_with_len 0 count) at.0 from.0 0 at.1) ∙ get_or-range_with_len 0 count at.0 0 within in
      let number = place_of_member l (links_at links made from.0) from.2 in
      record { inst = from.0; early = omega (arith, within, is); number = number.0; there = number.1 }

  -- one place among all links is one link of one instance
  pub one_place_of : (i j k n : ℕ) (a b : LinkAt) → slice_get (links_at links made i) k ≡ Some a → slice_get (links_at links made j) n ≡ Some b → starts i + k ≡ starts j + n
      → (i ≡ j) × (k ≡ n)
  one_place_of i j k n a b at_a at_b same = by (cases_order i j)
    where
      low : k < length (links_at links made i)
      low = slice_get_within (links_at links made i) k a at_a

      low' : n < length (links_at links made j)
      low' = slice_get_within (links_at links made j) n b at_b

      by : (i ≡ j) ⊎ ((i < j) ⊎ (j < i)) → (i ≡ j) × (k ≡ n)
      by (inl e) = let one : starts i ≡ starts j = ap starts e in (e, omega (arith, one, same))
      by (inr (inl less)) = absurd (omega (arith, up_to i j less, low, same))
      by (inr (inr less)) = absurd (omega (arith, up_to j i less, low', same))

  -- links of the first instances that feed one bit are one
  pub one_link : (given : List Bool) (count : ℕ) → AreApart given (links_before links made count) → (i j k n bit : ℕ) (a b : LinkAt) → i < count → j < count
      → slice_get (links_at links made i) k ≡ Some a → slice_get (links_at links made j) n ≡ Some b → a.fed ≡ Some bit → b.fed ≡ Some bit → (i ≡ j) × (k ≡ n)
  one_link given count are i j k n bit a b early early' at_a at_b fed_a fed_b =
      one_place_of i j k n a b at_a at_b
      (are.once (starts i + k) (starts j + n) bit a b (at_place count i k a early at_a) (at_place count j n b early' at_b) fed_a fed_b)

module _ (s : Sources) (p : Placed) (there : ArePlaced s p) (spots : List Spot) (all : AreAllRising spot_cmp (IsSpot s) spots) (apart : AreInstsApart s)
    (links : List (List LinkRow)) (local : AreAllLocal s links) where
  abbrev made : Instances
  made = p.instances.now

  abbrev ways_of : List Way
  ways_of = there.instances.ways

  -- a link by numbers is one of the hierarchy, and the other way round
  pub link_to : (inst : ℕ) (way : Way) → slice_get ways_of inst ≡ Some way → (k : ℕ) (l : LinkAt) (fed : ℕ) → slice_get (links_at links made inst) k ≡ Some l → l.fed ≡ Some fed
      → IsLinkOf s spots way k l
  link_to inst way at_way k l fed at is_fed = by row.row.body refl
    where
      row : HasRow s p there spots all inst way
      row = row_of s p there spots all inst way at_way

      none : (b : Body) → row.row.body ≡ b → rows_of_body links b ≡ [] → ⊥
      none b is without =
          let nothing : links_at links made inst ≡ [] = ap (links_of_rows made inst) (ap (rows_of_row links) row.at ∙ ap (rows_of_body links) is ∙ without) in
          let never : None ≡ Some l = sym (ap (λ ls. slice_get ls k) nothing) ∙ at in cc

      by : (b : Body) → row.row.body ≡ b → IsLinkOf s spots way k l
      by (ModuleBody number) is =
          let m = module_there s way number (row.is ∙ ap Some is) in
          link_of s p there spots all apart inst way at_way number m.0 m.1 links (local way number m.0 m.1) k l fed at is_fed
      by (CellBody c) is = absurd (none (CellBody c) is refl)
      by (ModelBody c) is = absurd (none (ModelBody c) is refl)

  pub link_from : (way : Way) (k line : ℕ) (x : Spot) (source : Option Spot) → IsLink s way k line x source → IsLinkAt spots ways_of links made way k line x source
  link_from way k line x source is =
      let place = place_of_member way ways_of (there.instances.all_ways.all way (ModuleBody is.module_number, is.is_module.body)) in
      link_at_number s p there spots all apart place.0 way place.1 is.module_number is.of_module is.is_module links (local way is.module_number is.of_module is.is_module)
      k line x source is.link is.there is.on_line is.fed_there is.source_there

  pub one_bit : (n m : ℕ) (x : Spot) → slice_get spots n ≡ Some x → slice_get spots m ≡ Some x → n ≡ m
  one_bit = one_place spot_cmp spot_total spots all.rising

  pub one_inst : (n m : ℕ) (way : Way) → slice_get ways_of n ≡ Some way → slice_get ways_of m ≡ Some way → n ≡ m
  one_inst = one_place way_cmp way_total ways_of there.instances.all_ways.rising

  pub earlier_way : (n m : ℕ) (v w : Way) → slice_get ways_of n ≡ Some v → slice_get ways_of m ≡ Some w → n < m → way_cmp v w ≡ Less
  earlier_way = rising_places way_cmp ways_of there.instances.all_ways.rising

  module _ (given : List Bool) (tops : AreTopMarks s spots given) (count : ℕ) (links_apart : AreApart given (links_before links made count)) where
    -- no fault of the kind is in one of these instances
    pub none_early : (g : Fault) → IsTwice s g → (inst : ℕ) → slice_get ways_of inst ≡ Some g.way → inst < count → ⊥
    none_early g is inst at_way early = by is.cause
      where
        at : IsLinkAt spots ways_of links made g.way is.number g.line is.x is.source
        at = link_from g.way is.number g.line is.x is.source is.link

        fed : (n : ℕ) × (at.at.fed ≡ Some n) × (slice_get spots n ≡ Some is.x)
        fed = fed_number spots at.at.fed is.x at.fed_there

        here : at.inst < count
        here = omega (arith, one_inst at.inst inst g.way at.inst_there at_way, early)

        other : (o : IsOther s g.way is.number g.line is.x) → (a : IsLinkAt spots ways_of links made o.other_way o.other o.other_line is.x o.other_source) → (a.inst < count) ⊎ (count ≤ a.inst) → ⊥
        other o a (inl early') =
            let fed' = fed_number spots a.at.fed is.x a.fed_there in
            let same : fed'.0 ≡ fed.0 = one_bit fed'.0 fed.0 is.x fed'.2 fed.2 in
            let one = one_link links made given count links_apart a.inst at.inst o.other is.number fed.0 a.at at.at early' here a.there at.there (fed'.1 ∙ ap Some same) fed.1 in
            let way_same : o.other_way ≡ g.way = same_Some o.other_way g.way (sym a.inst_there ∙ ap (slice_get ways_of) one.0 ∙ at.inst_there) in
            o.differ way_same one.1
        other o a (inr late) =
            let less : way_cmp g.way o.other_way ≡ Less = earlier_way at.inst a.inst g.way o.other_way at.inst_there a.inst_there (omega (arith, here, late)) in
            o.not_behind (ap (λ c. ordering_then c (nat_cmp g.line o.other_line)) less)

        by : IsTopInput s is.x ⊎ IsOther s g.way is.number g.line is.x → ⊥
        by (inl top) = links_apart.free at.at fed.0 (in_before links made count at.inst is.number at.at here at.there) fed.1 ((tops.each fed.0 is.x fed.2).1 top)
        by (inr o) =
            let a = link_from o.other_way o.other o.other_line is.x o.other_source o.link in
            other o a (cases_lt a.inst count)

    module _ (whole : count ≡ length made.rows) where
      inst_early : (inst : ℕ) (way : Way) → slice_get ways_of inst ≡ Some way → inst < count
      inst_early inst way at_way = omega (arith, slice_get_within ways_of inst way at_way, whole, there.instances.count)

      pub none_twice : HasNoneOf s FaultKind.multi_driven
      none_twice g fault same =
          let is = twice_of s g fault same in
          let at = link_from g.way is.number g.line is.x is.source is.link in
          none_early g is at.inst at.inst_there (inst_early at.inst g.way at.inst_there)

      module _ (marks : Marks) (are : AreMarks given (links_before links made count) marks) where
        -- a bit that a link feeds
        fed_by : (bit : ℕ) (x : Spot) → slice_get spots bit ≡ Some x → (source : Option Spot) → IsLinked s x source → IsFedByOne (links_before links made count) bit
        fed_by bit x at_bit source is =
            let at = link_from is.0 is.1 is.2 x source is.3 in
            let fed = fed_number spots at.at.fed x at.fed_there in
            record {
              one = at.at;
              listed = in_before links made count at.inst is.1 at.at (inst_early at.inst is.0 at.inst_there) at.there;
              fed = fed.1 ∙ ap Some (one_bit fed.0 bit x fed.2 at_bit);
            }

        fed_from : (x : Spot) (way : Way) (k line : ℕ) (number : Option ℕ) (source : Option Spot) → IsLink s way k line x source → HasSpotAt spots number source
            → IsFedSo s spots x (feed_of number)
        fed_from x way k line None None link has = IsFedSo.constant (way, k, line, link)
        fed_from x way k line None (Some y) link has = absurd has
        fed_from x way k line (Some n) None link has = absurd has
        fed_from x way k line (Some n) (Some y) link has = IsFedSo.bit y n (way, k, line, link) has

        by_one : (bit : ℕ) (x : Spot) → slice_get spots bit ≡ Some x → (one : IsFedByOne (links_before links made count) bit) → IsFedSo s spots x (feed_of one.one.source)
        by_one bit x at_bit one =
            let of_inst = from_before links made count one.one one.listed in
            let at_way : slice_get ways_of of_inst.inst ≡ Some (get_or ways_of of_inst.inst []) =
            slice_get-get_or ways_of of_inst.inst [] (omega (arith, of_inst.early, whole, there.instances.count)) in
            let link = link_to of_inst.inst (get_or ways_of of_inst.inst []) at_way of_inst.number one.one bit of_inst.there one.fed in
            let fed = fed_number spots one.one.fed link.fed_spot link.fed_there in
            let same_bit : fed.0 ≡ bit = same_Some fed.0 bit (sym fed.1 ∙ one.fed) in
            let same : link.fed_spot ≡ x = same_Some link.fed_spot x (sym fed.2 ∙ ap (slice_get spots) same_bit ∙ at_bit) in
            fed_from x (get_or ways_of of_inst.inst []) of_inst.number one.one.line one.one.source link.source_spot
            (subst (λ y. IsLink s (get_or ways_of of_inst.inst []) of_inst.number one.one.line y link.source_spot) same link.link) link.source_there

        bit_fed : (bit : ℕ) (x : Spot) (f : Feed) → slice_get spots bit ≡ Some x → slice_get marks.feeds.items bit ≡ Some f → IsFedSo s spots x f
        bit_fed bit x f at_bit at_feed = by (slice_get marks.taken.items bit) refl
          where
            short : bit < length given
            short = omega (arith, slice_get_within spots bit x at_bit, tops.all)

            nothing : (IsFedByOne (links_before links made count) bit → ⊥) → IsFedSo s spots x f
            nothing missing =
                let is : Nothing ≡ f = same_Some Nothing f (sym (are.nothing bit short missing) ∙ at_feed) in
                subst (IsFedSo s spots x) is (IsFedSo.nothing (λ source linked. missing (fed_by bit x at_bit source linked)))

            something : IsMarked given bit ⊎ IsFedByOne (links_before links made count) bit → IsFedSo s spots x f
            something (inl outside) = nothing (λ one. links_apart.free one.one bit one.listed one.fed outside)
            something (inr one) =
                let is : feed_of one.one.source ≡ f = same_Some (feed_of one.one.source) f (sym (are.feed one.one bit one.listed one.fed) ∙ at_feed) in
                subst (IsFedSo s spots x) is (by_one bit x at_bit one)

            by : (o : Option Bool) → slice_get marks.taken.items bit ≡ o → IsFedSo s spots x f
            by None e =
                let is : slice_get marks.taken.items bit ≡ Some (get_or marks.taken.items bit true) = slice_get-get_or marks.taken.items bit true (omega (arith, short, are.all_taken)) in
                let never : None ≡ Some (get_or marks.taken.items bit true) = sym e ∙ is in cc
            by (Some true) e = something (are.cause bit e)
            by (Some false) e = nothing (λ one. let never : Some true ≡ Some false = sym (are.marked one.one bit one.listed one.fed) ∙ e in cc)

        pub all_fed_so : AreFedSo s spots marks.feeds.items
        all_fed_so = zip_of (IsFedSo s spots) spots marks.feeds.items (are.all_feeds ∙ tops.all) (λ k x f at_x at_f. bit_fed k x f at_x at_f)
