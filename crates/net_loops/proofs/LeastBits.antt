-- The least bits of rings that were found by numbers.
use Rattle.std.proofs.Common.{◌≡◌, ℕ, zero, suc, ◌<◌, ◌⊎◌, Bool, List, [], ◌∷◌, Option, Some, length, slice_get, refl, ap, subst, arith}
use Rattle.std.specs.Prelude.{◌↔◌}
use Rattle.std.proofs.lemmas.Option.{slice_get_within}
use Rattle.std.specs.List.{AllZip}
use Rattle.list_defs.specs.Members.{IsIn}
use Rattle.list_defs.specs.Rings.{IsReached}
use Rattle.list_defs.proofs.Few.{place_of_member}
use Rattle.list_defs.proofs.Members.{IsIn-slice_get}
use Rattle.design_defs.specs.Bits.{IsSpot, Spot}
use Rattle.design_defs.specs.Hierarchy.{Sources}
use Rattle.design_defs.specs.Links.{Feeds}
use Rattle.design_rows.specs.declared.tables.Feed.{Feed}
use Rattle.net_bits.specs.declared.placed.Placed.{Placed}
use Rattle.net_inner.specs.Inside.{AreInnerSources}
use Rattle.net_inner.specs.declared.inner.Inner.{Inner}
use Rattle.net_links.specs.declared.rows.LinkRow.{LinkRow}
use Rattle.std.proofs.lemmas.List.{length-map}
use Rattle.net_rings.specs.Fed.{IsFedBy, IsThere, sources_at, sources_of}
use Rattle.net_rings.specs.Peeled.{IsCore}
use Rattle.net_rings.specs.declared.cores.Core.{Core}
use Rattle.net_rings.specs.Least.{AreAllRanked, AreRanked, IsLeastOfRing}
use Rattle.net_rings.specs.declared.minima.Ranked.{Ranked}
use Rattle.net_loops.specs.Graphs.{IsGraph}
use Rattle.net_loops.specs.Least.{AreLeastBits, AreMarked, AreMarkedRanks}
use Rattle.net_loops.specs.Ranks.{AreNameRanks}
use Rattle.net_loops.specs.Ready.{AreReady}
use Rattle.net_loops.proofs.Between.{between}
use Rattle.net_loops.proofs.Edges.{edge_of, edge_to}
use Rattle.net_loops.proofs.LoopFaults.{on_ring}
use Rattle.net_loops.proofs.Rings.{are_ranked, least_of_ring, reach_to, ring_of_least}
use Rattle.design_defs.proofs.OneDesign.{spot_name}
use Rattle.design_laws.proofs.OneFeed.{IsGhost, one_feed}

-- lists that agree place by place are as long
zip_length : {A B : Type 0} (R : A → B → Type 0) (xs : List A) (ys : List B) → AllZip R xs ys → length xs ≡ length ys
zip_length R [] [] are = refl
zip_length R [] (y ∷ ys) are = absurd are
zip_length R (x ∷ xs) [] are = absurd are
zip_length R (x ∷ xs) (y ∷ ys) are = ap suc (zip_length R xs ys are.1)

module _ (s : Sources) (p : Placed) (links : List (List LinkRow)) (spots : List Spot) (feeds : List Feed) (ready : AreReady s p links spots feeds)
    (inner : Inner) (sources : AreInnerSources s p inner) (graph : List (List ℕ)) (is_graph : IsGraph p.instances.now.rows inner feeds graph) where
  to_spots : (n m : ℕ) → IsFedBy graph n m → (x y : Spot) × (slice_get spots n ≡ Some x) × (slice_get spots m ≡ Some y) × Feeds s x y
  to_spots = edge_of s p ready.placed ready.read ready.early spots ready.all feeds ready.fed inner sources graph is_graph

  to_numbers : (n m : ℕ) (x y : Spot) → slice_get spots n ≡ Some x → slice_get spots m ≡ Some y → Feeds s x y → IsFedBy graph n m
  to_numbers = edge_to s p ready.placed ready.read ready.early spots ready.all feeds ready.fed inner sources graph is_graph

  is_between : (x y z : Spot) → Feeds s x y → Feeds s y z → IsSpot s y
  is_between = between s ready.read ready.early p ready.placed spots ready.all links ready.local

  is_one : (x z y : Spot) → IsSpot s x → IsSpot s z → Feeds s x z → Feeds s x y → (y ≡ z) ⊎ IsGhost s y z
  is_one = one_feed s ready.read ready.early

  record HasRing (x : Spot) : Type 0 where
    n : ℕ
    at : slice_get spots n ≡ Some x
    ring : IsReached (IsFedBy graph) n n

  ring_number : (x : Spot) → IsReached (Feeds s) x x → HasRing x
  ring_number x ring =
      let n = place_of_member x spots (ready.all.all x (on_ring s is_between x ring)) in
      record { n = n.0; at = n.1; ring = reach_to s spots ready.all graph to_spots to_numbers is_between is_one x x n.0 n.0 n.1 n.1 ring }

  -- a bit that is left is one that there is
  pub left_within : (core : Core) → IsCore graph [] core → (n : ℕ) → IsThere core.rows.bits.items n → n < length spots
  left_within core is n left =
      let rows : length (sources_of core.rows) ≡ length core.rows.bits.items = length-map core.rows.bits.items (sources_at core.rows.sources.items) in
      omega (arith, slice_get_within core.rows.bits.items n left.0 left.1, rows, ap length is.peeled.same, is_graph.count, zip_length _ spots feeds ready.fed)

  module _ (bits : List ℕ) (rings : (n : ℕ) → IsReached (IsFedBy graph) n n → IsIn n bits) where
    -- no bit is left: there is no ring
    pub no_ring : bits ≡ [] → (x : Spot) → IsReached (Feeds s) x x → ⊥
    no_ring none x ring = let at = ring_number x ring in let here : IsIn at.n [] = subst (IsIn at.n) none (rings at.n at.ring) in absurd here

    module _ (there : (n : ℕ) → IsIn n bits → n < length spots) (order : List Ranked) (names : AreNameRanks s spots bits order) where
      within : (n : ℕ) → IsIn n bits → (x : Spot) × (slice_get spots n ≡ Some x)
      within n at = spot_of_number spots n (there n at)
        where
          spot_of_number : (xs : List Spot) (k : ℕ) → k < length xs → (x : Spot) × (slice_get xs k ≡ Some x)
          spot_of_number [] k less = absurd (omega (arith, less))
          spot_of_number (x ∷ xs) zero less = (x, refl)
          spot_of_number (x ∷ xs) (suc k) less = spot_of_number xs k (omega (arith, less))

      pub order_ranked : AreRanked order
      order_ranked = are_ranked s spots ready.all graph to_spots to_numbers is_between is_one bits order names within

      pub all_ranked : AreAllRanked graph order
      all_ranked n ring = names.ranked n (rings n ring)

      module _ (found : List ℕ) (minima : (n : ℕ) → IsIn n found ↔ IsLeastOfRing graph order n) (marks : List Bool) (marked : AreMarked found (length feeds) marks)
          (ranks : List (Option ℕ)) (ranked : AreMarkedRanks order marks ranks) where
        pub least_are : AreLeastBits s spots ranks
        least_are = record {
          each = λ n mark is.
              let from = ranked.only n mark is in
              let x = within n (names.only n mark from.1) in
              let name = spot_name s x.0 (ready.all.each x.0 (IsIn-slice_get spots n x.0 x.1)) in
              record {
                x = x.0;
                name = name.0;
                at = x.1;
                least = least_of_ring s spots ready.all graph to_spots to_numbers is_between is_one bits order names within n x.0 name.0 x.1 name.1 ((minima n).0 (marked.only n from.0));
              };
          all = λ x name least.
              let n = ring_number x least.ring in
              let is = ring_of_least s spots ready.all graph to_spots to_numbers is_between is_one bits order names within all_ranked n.n x name n.at least in
              let at = marked.each n.n ((minima n.n).1 is) (omega (arith, slice_get_within spots n.n x n.at, count)) in
              let mark = ranked.each n.n is.rank is.ranked at in
              record { n = n.n; mark = mark.0; at = n.at; marked = mark.1 };
          less = λ n m r q x y a b at_n at_m at_x at_y is_a is_b. names.less n m r q x y a b (ranked.only n r at_n).1 (ranked.only m q at_m).1 at_x at_y is_a is_b;
        }
          where
            count : length spots ≡ length feeds
            count = zip_length _ spots feeds ready.fed
