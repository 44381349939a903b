-- All bits in order are those of the instances in turn, the bits of each in order.
use Rattle.std.proofs.Common.{◌≡◌, ℕ, List, [], ◌∷◌, Some, map, option_and_then, inl, inr, refl, sym, ap, ◌∙◌, subst}
use Rattle.std.specs.List.{AllByRecursion}
use Rattle.std.specs.Cmp.{IsTotalOrder}
use Rattle.std.specs.Ordering.{ordering_reverse, ordering_then}
use Rattle.std.specs.declared.cmp.Ordering.{Ordering}
use Rattle.std.specs.declared.cmp.Ordering.TheVariants.{Less, Equal, Greater}
use Rattle.std.proofs.lemmas.Cmp.{nat_cmp_total, nat_list_cmp_total, on_total, then_total}
use Rattle.pw_defs.specs.declared.design.Body.{Body}
use Rattle.list_defs.specs.Members.{IsIn}
use Rattle.list_defs.specs.Orders.{AreAllRising, IsRising}
use Rattle.list_defs.proofs.Members.{IsIn-flat_map, IsIn-flat_map_from, IsIn-map, IsIn-map_from}
use Rattle.list_defs.proofs.Rising.{IsRising-append, each_in, not_before_itself}
use Rattle.design_defs.specs.Bits.{IsSpot, Spot, range_in, spot_cmp}
use Rattle.design_defs.specs.Hierarchy.{IsInstance, Sources, Way, body_at, way_cmp}
use Rattle.design_defs.proofs.BitOrders.{way_total}
use Rattle.design_defs.proofs.Lookups.{body_of_spot}
use Rattle.design_laws.specs.OwnPlaces.{AreOwnPlaces, IsOwnPlace, all_spots, net_place_cmp, spot_at}

pub net_place_total : IsTotalOrder net_place_cmp
net_place_total = then_total (on_total (λ (e : List ℕ × ℕ). e.0) nat_list_cmp_total) (on_total (λ (e : List ℕ × ℕ). e.1) nat_cmp_total)

-- a bit of an instance is one of what the instance is of
pub own_place : (s : Sources) (way : Way) (body : Body) (e : List ℕ × ℕ) → body_at s way ≡ Some body → IsSpot s (spot_at way e) → IsOwnPlace s body e
own_place s way body e is there = (there.0, sym (ap (option_and_then (λ b. range_in s b e.0)) is) ∙ there.1, there.2)

pub own_spot : (s : Sources) (way : Way) (body : Body) (e : List ℕ × ℕ) → body_at s way ≡ Some body → IsOwnPlace s body e → IsSpot s (spot_at way e)
own_spot s way body e is there = (there.0, ap (option_and_then (λ b. range_in s b e.0)) is ∙ there.1, there.2)

-- no way comes before itself, nor behind
pub same_way_equal : (way : Way) → way_cmp way way ≡ Equal
same_way_equal way = by (way_cmp way way) refl
  where
    by : (o : Ordering) → way_cmp way way ≡ o → way_cmp way way ≡ Equal
    by Less e = absurd (not_before_itself way_cmp way_total way e)
    by Equal e = e
    by Greater e = absurd (not_before_itself way_cmp way_total way (way_total.antisymm way way ∙ ap ordering_reverse e))

-- bits of one instance go as the bits of its body
pub spot_cmp_own : (way : Way) (e f : List ℕ × ℕ) → spot_cmp (spot_at way e) (spot_at way f) ≡ net_place_cmp e f
spot_cmp_own way e f = ap (λ o. ordering_then o (net_place_cmp e f)) (same_way_equal way)

-- bits of two instances go as these
spot_cmp_apart : (v w : Way) (e f : List ℕ × ℕ) → way_cmp v w ≡ Less → spot_cmp (spot_at v e) (spot_at w f) ≡ Less
spot_cmp_apart v w e f less = ap (λ o. ordering_then o (net_place_cmp e f)) less

behind_one : (way : Way) (e : List ℕ × ℕ) (es : List (List ℕ × ℕ)) → AllByRecursion (λ f. net_place_cmp e f ≡ Less) es
    → AllByRecursion (λ y. spot_cmp (spot_at way e) y ≡ Less) (map (spot_at way) es)
behind_one way e [] below = tt
behind_one way e (f ∷ es) below = (spot_cmp_own way e f ∙ below.0, behind_one way e es below.1)

own_rising : (way : Way) (es : List (List ℕ × ℕ)) → IsRising net_place_cmp es → IsRising spot_cmp (map (spot_at way) es)
own_rising way [] rising = tt
own_rising way (e ∷ es) rising = (behind_one way e es rising.0, own_rising way es rising.1)

-- what holds of each one of a list holds of the list
each_of : {X : Type 0} (P : X → Type 0) (xs : List X) → ((x : X) → IsIn x xs → P x) → AllByRecursion P xs
each_of P [] each = tt
each_of P (x ∷ xs) each = (each x (inl refl), each_of P xs (λ y there. each y (inr there)))

-- the way of one of the bits in turn
way_in_turn : (places : Way → List (List ℕ × ℕ)) (ways : List Way) (y : Spot) → IsIn y (all_spots places ways)
    → (w : Way) × (e : List ℕ × ℕ) × IsIn w ways × IsIn e (places w) × (y ≡ spot_at w e)
way_in_turn places ways y there =
    let found = IsIn-flat_map_from (λ way. map (spot_at way) (places way)) ways y there in
    let own = IsIn-map_from (spot_at found.0) y (places found.0) found.2 in
    (found.0, own.0, found.1, own.1, own.2)

in_turn_rising : (places : Way → List (List ℕ × ℕ)) (ways : List Way) → IsRising way_cmp ways → ((w : Way) → IsIn w ways → IsRising net_place_cmp (places w))
    → IsRising spot_cmp (all_spots places ways)
in_turn_rising places [] rising each = tt
in_turn_rising places (w ∷ ws) rising each =
    IsRising-append spot_cmp (map (spot_at w) (places w)) (all_spots places ws) (own_rising w (places w) (each w (inl refl)))
    (in_turn_rising places ws rising.1 (λ v there. each v (inr there)))
    (each_of (λ x. AllByRecursion (λ y. spot_cmp x y ≡ Less) (all_spots places ws)) (map (spot_at w) (places w)) (λ x there.
    each_of (λ y. spot_cmp x y ≡ Less) (all_spots places ws) (λ y later.
    before x y (IsIn-map_from (spot_at w) x (places w) there) (way_in_turn places ws y later))))
  where
    before : (x y : Spot) → (e : List ℕ × ℕ) × IsIn e (places w) × (x ≡ spot_at w e)
        → (v : Way) × (f : List ℕ × ℕ) × IsIn v ws × IsIn f (places v) × (y ≡ spot_at v f) → spot_cmp x y ≡ Less
    before x y own other =
        let less = spot_cmp_apart w other.0 own.0 other.1 (each_in (λ v. way_cmp w v ≡ Less) ws other.0 rising.0 other.2) in
        let first : spot_cmp x y ≡ spot_cmp (spot_at w own.0) y = ap (λ z. spot_cmp z y) own.2 in
        let second : spot_cmp (spot_at w own.0) y ≡ spot_cmp (spot_at w own.0) (spot_at other.0 other.1) = ap (spot_cmp (spot_at w own.0)) other.4 in
        first ∙ second ∙ less

-- All bits in order: the instances in order, and the bits of each in order.
pub spots_in_turn : (s : Sources) (ways : List Way) (places : Way → List (List ℕ × ℕ)) → AreAllRising way_cmp (IsInstance s) ways
    → ((way : Way) (body : Body) → body_at s way ≡ Some body → AreOwnPlaces s body (places way))
    → AreAllRising spot_cmp (IsSpot s) (all_spots places ways)
spots_in_turn s ways places all own = record { rising = rising; each = each; all = all_there }
  where
    rising : IsRising spot_cmp (all_spots places ways)
    rising = in_turn_rising places ways all.rising (λ w there. let is = all.each w there in (own w is.0 is.1).rising)

    each : (x : Spot) → IsIn x (all_spots places ways) → IsSpot s x
    each x there =
        let found = way_in_turn places ways x there in
        let is = all.each found.0 found.2 in
        subst (IsSpot s) (sym found.4) (own_spot s found.0 is.0 found.1 is.1 ((own found.0 is.0 is.1).each found.1 found.3))

    all_there : (x : Spot) → IsSpot s x → IsIn x (all_spots places ways)
    all_there x there =
        let body = body_of_spot s x there.0 there.1 in
        let place = own_place s x.way body.0 (x.net, x.place) body.1 there in
        let one = (own x.way body.0 body.1).all (x.net, x.place) place in
        IsIn-flat_map (λ way. map (spot_at way) (places way)) x.way ways x (all.all x.way (body.0, body.1))
        (IsIn-map (spot_at x.way) (x.net, x.place) (places x.way) one)
