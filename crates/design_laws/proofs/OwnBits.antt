-- The bits that an instance of a made design owns are those of what it is of, in order.
use Rattle.std.proofs.Common.{◌≡◌, ℕ, suc, ◌+◌, ◌==◌, Bool, true, false, cond, List, [], ◌∷◌, Some, length, slice_get, inl, inr, refl, sym, ap, ◌∙◌, subst, arith}
use Rattle.std.specs.List.{AllByRecursion, AllZip, enumerate_from, filter_map}
use Rattle.std.proofs.lemmas.Bool.{eq-eqb, eqb-true}
use Rattle.std.proofs.lemmas.Option.{same_Some}
use Rattle.std.proofs.lemmas.Slice.Zip.{AllZip-long}
use Rattle.std.specs.declared.cmp.Ordering.TheVariants.{Less}
use Rattle.pw_defs.specs.declared.design.Bit.{Bit}
use Rattle.pw_defs.specs.declared.design.Body.{Body}
use Rattle.pw_defs.specs.declared.design.Design.{Design}
use Rattle.list_defs.specs.Members.{IsIn}
use Rattle.list_defs.specs.Orders.{IsRising}
use Rattle.list_defs.proofs.Few.{place_of_member}
use Rattle.list_defs.proofs.OneList.{one_list}
use Rattle.design_defs.specs.Alike.{own_bits, owned_by}
use Rattle.design_defs.specs.Bits.{IsSpot, Spot, spot_cmp}
use Rattle.design_defs.specs.Designs.{IsBitAt, IsMadeFrom}
use Rattle.design_defs.specs.Hierarchy.{Sources, Way, body_at}
use Rattle.design_laws.proofs.FirstFound.{left_of, right_of}
use Rattle.design_laws.proofs.Numbered.{IsSpotOf, IsWayOf, one_bit_number, one_number, one_way}
use Rattle.design_laws.proofs.SpotLists.{net_place_total, own_place, own_spot, spot_cmp_own}
use Rattle.design_laws.specs.OwnPlaces.{AreOwnPlaces, IsOwnPlace, net_place_cmp, spot_at}

-- the nets and places of the bits that an instance owns
own_places : ℕ → List Spot → List Bit → List (List ℕ × ℕ)
own_places inst [] bs = []
own_places inst (x ∷ xs) [] = []
own_places inst (x ∷ xs) (b ∷ bs) = cond (b.owner == inst) ((x.net, x.place) ∷ own_places inst xs bs) (own_places inst xs bs)

-- the instance owns the bits that stand at its way, and no others
abbrev IsOwned : ℕ → Way → Spot → Bit → Type 0
IsOwned inst way x b = (b.owner ≡ inst → x.way ≡ way) × (x.way ≡ way → b.owner ≡ inst)

-- number by number
in_order : (inst : ℕ) (way : Way) (whole : List Spot) (k : ℕ) (xs : List Spot) (bs : List Bit) → AllZip (IsOwned inst way) xs bs
    → ((at : ℕ) (x : Spot) → slice_get xs at ≡ Some x → slice_get whole (k + at) ≡ Some x)
    → AllZip (λ n e. slice_get whole n ≡ Some (spot_at way e)) (filter_map (owned_by inst) (enumerate_from k bs)) (own_places inst xs bs)
unfolding own_places
in_order inst way whole k [] [] zip there = tt
in_order inst way whole k [] (b ∷ bs) zip there = absurd zip
in_order inst way whole k (x ∷ xs) [] zip there = absurd zip
in_order inst way whole k (x ∷ xs) (b ∷ bs) zip there =
    by (b.owner == inst) refl (in_order inst way whole (k + 1) xs bs zip.1
    (λ at y e. subst (λ n. slice_get whole n ≡ Some y) (omega arith) (there (suc at) y e)))
  where
    spot : x.way ≡ way → x ≡ spot_at way (x.net, x.place)
    spot same = λ i. record { way = same i; net = x.net; place = x.place }

    by : (own : Bool) → (b.owner == inst) ≡ own
        → AllZip (λ n e. slice_get whole n ≡ Some (spot_at way e)) (filter_map (owned_by inst) (enumerate_from (k + 1) bs)) (own_places inst xs bs)
        → AllZip (λ n e. slice_get whole n ≡ Some (spot_at way e)) (filter_map (owned_by inst) (enumerate_from k (b ∷ bs))) (own_places inst (x ∷ xs) (b ∷ bs))
    by true is rest =
        let here : slice_get whole k ≡ Some x = subst (λ n. slice_get whole n ≡ Some x) (omega arith) (there 0 x refl) in
        rw is (here ∙ ap Some (spot (zip.0.0 (eqb-true b.owner inst is))), rest)
    by false is rest = rw is rest

-- what stands behind the first bit in all stands behind it among those that the instance owns
behind : (inst : ℕ) (way : Way) (x : Spot) (xs : List Spot) (bs : List Bit) → AllZip (IsOwned inst way) xs bs → x.way ≡ way
    → AllByRecursion (λ y. spot_cmp x y ≡ Less) xs → AllByRecursion (λ e. net_place_cmp (x.net, x.place) e ≡ Less) (own_places inst xs bs)
unfolding own_places
behind inst way x [] [] zip same below = tt
behind inst way x [] (b ∷ bs) zip same below = tt
behind inst way x (y ∷ ys) [] zip same below = tt
behind inst way x (y ∷ ys) (b ∷ bs) zip same below = by (b.owner == inst) refl (behind inst way x ys bs zip.1 same below.1)
  where
    own : b.owner ≡ inst → net_place_cmp (x.net, x.place) (y.net, y.place) ≡ Less
    own is =
        let ways : y.way ≡ x.way = zip.0.0 is ∙ sym same in
        let moved : spot_cmp x (spot_at x.way (y.net, y.place)) ≡ Less =
        subst (λ w. spot_cmp x (record { way = w; net = y.net; place = y.place }) ≡ Less) ways below.0 in
        sym (spot_cmp_own x.way (x.net, x.place) (y.net, y.place)) ∙ moved

    by : (o : Bool) → (b.owner == inst) ≡ o → AllByRecursion (λ e. net_place_cmp (x.net, x.place) e ≡ Less) (own_places inst ys bs)
        → AllByRecursion (λ e. net_place_cmp (x.net, x.place) e ≡ Less) (cond o ((y.net, y.place) ∷ own_places inst ys bs) (own_places inst ys bs))
    by true is rest = (own (eqb-true b.owner inst is), rest)
    by false is rest = rest

places_rising : (inst : ℕ) (way : Way) (xs : List Spot) (bs : List Bit) → AllZip (IsOwned inst way) xs bs → IsRising spot_cmp xs
    → IsRising net_place_cmp (own_places inst xs bs)
unfolding own_places
places_rising inst way [] [] zip rising = tt
places_rising inst way [] (b ∷ bs) zip rising = tt
places_rising inst way (x ∷ xs) [] zip rising = tt
places_rising inst way (x ∷ xs) (b ∷ bs) zip rising = by (b.owner == inst) refl (places_rising inst way xs bs zip.1 rising.1)
  where
    by : (o : Bool) → (b.owner == inst) ≡ o → IsRising net_place_cmp (own_places inst xs bs)
        → IsRising net_place_cmp (cond o ((x.net, x.place) ∷ own_places inst xs bs) (own_places inst xs bs))
    by true is rest = (behind inst way x xs bs zip.1 (zip.0.0 (eqb-true b.owner inst is)) rising.0, rest)
    by false is rest = rest

-- each of them stands at the way, and all that stand there are among them
each_own : (inst : ℕ) (way : Way) (xs : List Spot) (bs : List Bit) → AllZip (IsOwned inst way) xs bs → (e : List ℕ × ℕ) → IsIn e (own_places inst xs bs)
    → IsIn (spot_at way e) xs
unfolding own_places
each_own inst way [] bs zip e there = absurd there
each_own inst way (x ∷ xs) [] zip e there = absurd there
each_own inst way (x ∷ xs) (b ∷ bs) zip e there = by (b.owner == inst) refl there (each_own inst way xs bs zip.1 e)
  where
    here : b.owner ≡ inst → e ≡ (x.net, x.place) → spot_at way e ≡ x
    here own same = λ i. record { way = sym (zip.0.0 own) i; net = (same i).0; place = (same i).1 }

    by : (o : Bool) → (b.owner == inst) ≡ o → IsIn e (cond o ((x.net, x.place) ∷ own_places inst xs bs) (own_places inst xs bs))
        → (IsIn e (own_places inst xs bs) → IsIn (spot_at way e) xs) → IsIn (spot_at way e) (x ∷ xs)
    by true is (inl same) rest = inl (here (eqb-true b.owner inst is) same)
    by true is (inr later) rest = inr (rest later)
    by false is later rest = inr (rest later)

all_own : (inst : ℕ) (way : Way) (xs : List Spot) (bs : List Bit) → AllZip (IsOwned inst way) xs bs → (e : List ℕ × ℕ) → IsIn (spot_at way e) xs
    → IsIn e (own_places inst xs bs)
unfolding own_places
all_own inst way [] bs zip e there = absurd there
all_own inst way (x ∷ xs) [] zip e there = absurd zip
all_own inst way (x ∷ xs) (b ∷ bs) zip e (inl same) =
    let own : b.owner ≡ inst = zip.0.1 (sym (ap (λ (y : Spot). y.way) same)) in
    let pair : e ≡ (x.net, x.place) = ap (λ (y : Spot). (y.net, y.place)) same in
    rw (eq-eqb b.owner inst own) (inl pair)
all_own inst way (x ∷ xs) (b ∷ bs) zip e (inr later) = by (b.owner == inst) (all_own inst way xs bs zip.1 e later)
  where
    by : (o : Bool) → IsIn e (own_places inst xs bs) → IsIn e (cond o ((x.net, x.place) ∷ own_places inst xs bs) (own_places inst xs bs))
    by true rest = inr rest
    by false rest = rest

-- THE BITS of an instance of a made design.
all_owned : (s : Sources) (d : Design) (made : IsMadeFrom s d) (inst : ℕ) (way : Way) → IsWayOf made inst way
    → (xs : List Spot) (bs : List Bit) → AllZip (IsBitAt s made.numbering.ways made.numbering.spots) xs bs → AllZip (IsOwned inst way) xs bs
all_owned s d made inst way at [] [] zip = tt
all_owned s d made inst way at [] (b ∷ bs) zip = absurd zip
all_owned s d made inst way at (x ∷ xs) [] zip = absurd zip
all_owned s d made inst way at (x ∷ xs) (b ∷ bs) zip = (
  (
    λ own. one_way s d made inst x.way way (subst (λ k. IsWayOf made k x.way) own zip.0.owner_there) at,
    λ same. one_number s d made b.owner inst way (subst (IsWayOf made b.owner) same zip.0.owner_there) at,
  ),
  all_owned s d made inst way at xs bs zip.1,
)

abbrev places_of : {s : Sources} {d : Design} → IsMadeFrom s d → ℕ → List (List ℕ × ℕ)
places_of {s} {d} made inst = own_places inst made.numbering.spots d.bits

numbers_of : (s : Sources) (d : Design) (made : IsMadeFrom s d) (inst : ℕ) (way : Way) → IsWayOf made inst way
    → AllZip (λ n e. IsSpotOf made n (spot_at way e)) (own_bits d inst) (places_of made inst)
numbers_of s d made inst way at =
    in_order inst way made.numbering.spots 0 made.numbering.spots d.bits
    (all_owned s d made inst way at made.numbering.spots d.bits made.all_bits)
    (λ k x e. subst (λ n. slice_get made.numbering.spots n ≡ Some x) (omega arith) e)

are_own_places : (s : Sources) (d : Design) (made : IsMadeFrom s d) (inst : ℕ) (way : Way) (body : Body) → IsWayOf made inst way → body_at s way ≡ Some body
    → AreOwnPlaces s body (places_of made inst)
are_own_places s d made inst way body at is =
    let owned = all_owned s d made inst way at made.numbering.spots d.bits made.all_bits in
    record {
      rising = places_rising inst way made.numbering.spots d.bits owned made.numbering.all_spots.rising;
      each = λ e there. own_place s way body e is (made.numbering.all_spots.each (spot_at way e) (each_own inst way made.numbering.spots d.bits owned e there));
      all = λ e there. all_own inst way made.numbering.spots d.bits owned e (made.numbering.all_spots.all (spot_at way e) (own_spot s way body e is there));
    }

-- instances of one thing own bits at the same places
same_places : (s : Sources) (d : Design) (made : IsMadeFrom s d) (i j : ℕ) (v w : Way) (body : Body) → IsWayOf made i v → IsWayOf made j w
    → body_at s v ≡ Some body → body_at s w ≡ Some body → places_of made i ≡ places_of made j
same_places s d made i j v w body at at' is is' =
    one_list net_place_cmp net_place_total (IsOwnPlace s body) (places_of made i) (places_of made j) (are_own_places s d made i v body at is)
    (are_own_places s d made j w body at' is')

-- instances of one thing own as many bits
pub same_size : (s : Sources) (d : Design) (made : IsMadeFrom s d) (i j : ℕ) (v w : Way) (body : Body) → IsWayOf made i v → IsWayOf made j w
    → body_at s v ≡ Some body → body_at s w ≡ Some body → length (own_bits d i) ≡ length (own_bits d j)
same_size s d made i j v w body at at' is is' =
    sym (AllZip-long (λ n e. IsSpotOf made n (spot_at v e)) (own_bits d i) (places_of made i) (numbers_of s d made i v at))
    ∙ ap length (same_places s d made i j v w body at at' is is')
    ∙ AllZip-long (λ n e. IsSpotOf made n (spot_at w e)) (own_bits d j) (places_of made j) (numbers_of s d made j w at')

-- bits at one place among those of instances of one thing are of the same net and place
pub same_bit_place : (s : Sources) (d : Design) (made : IsMadeFrom s d) (i j : ℕ) (v w : Way) (body : Body) → IsWayOf made i v → IsWayOf made j w
    → body_at s v ≡ Some body → body_at s w ≡ Some body → (n m place : ℕ) → slice_get (own_bits d i) place ≡ Some n → slice_get (own_bits d j) place ≡ Some m
    → (e : List ℕ × ℕ) × IsSpotOf made n (spot_at v e) × IsSpotOf made m (spot_at w e)
same_bit_place s d made i j v w body at at' is is' n m place first second =
    let one = right_of (λ k e. IsSpotOf made k (spot_at v e)) (own_bits d i) (places_of made i) (numbers_of s d made i v at) place n first in
    let other = right_of (λ k e. IsSpotOf made k (spot_at w e)) (own_bits d j) (places_of made j) (numbers_of s d made j w at') place m second in
    let same : one.0 ≡ other.0 =
    same_Some one.0 other.0 (sym one.1 ∙ ap (λ (es : List (List ℕ × ℕ)). slice_get es place) (same_places s d made i j v w body at at' is is') ∙ other.1) in
    (one.0, one.2, subst (λ e. IsSpotOf made m (spot_at w e)) (sym same) other.2)

-- and bits of one net and place stand at one place
pub bit_place : (s : Sources) (d : Design) (made : IsMadeFrom s d) (i j : ℕ) (v w : Way) (body : Body) → IsWayOf made i v → IsWayOf made j w
    → body_at s v ≡ Some body → body_at s w ≡ Some body → (n m : ℕ) (e : List ℕ × ℕ) → IsSpotOf made n (spot_at v e) → IsSpotOf made m (spot_at w e) → IsSpot s (spot_at v e)
    → (place : ℕ) × (slice_get (own_bits d i) place ≡ Some n) × (slice_get (own_bits d j) place ≡ Some m)
bit_place s d made i j v w body at at' is is' n m e first second there =
    let found = place_of_member e (places_of made i) ((are_own_places s d made i v body at is).all e (own_place s v body e is there)) in
    let moved : slice_get (places_of made j) found.0 ≡ Some e =
    sym (ap (λ (es : List (List ℕ × ℕ)). slice_get es found.0) (same_places s d made i j v w body at at' is is')) ∙ found.1 in
    let one = left_of (λ k f. IsSpotOf made k (spot_at v f)) (own_bits d i) (places_of made i) (numbers_of s d made i v at) found.0 e found.1 in
    let other = left_of (λ k f. IsSpotOf made k (spot_at w f)) (own_bits d j) (places_of made j) (numbers_of s d made j w at') found.0 e moved in (
      found.0,
      one.1 ∙ ap Some (one_bit_number s d made one.0 n (spot_at v e) one.2 first),
      other.1 ∙ ap Some (one_bit_number s d made other.0 m (spot_at w e) other.2 second),
    )
