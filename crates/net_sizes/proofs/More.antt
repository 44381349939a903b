-- More than so many instances or bits are more things below the top.
use Rattle.std.proofs.Common.{◌≡◌, ℕ, zero, suc, ◌+◌, ◌<◌, ◌≤◌, ◌⊎◌, List, [], ◌∷◌, Option, None, Some, option_map, option_and_then, length, map, min, slice_get, slice_index, take, inl, inr, refl, sym, ap, ◌∙◌, subst, arith}
use Rattle.std.proofs.lemmas.Bool.{cases_lt}
use Rattle.std.proofs.lemmas.List.{length-map, length-take-le}
use Rattle.std.proofs.lemmas.Option.{same_Some, slice_get-map}
use Rattle.list_defs.specs.Members.{IsIn}
use Rattle.list_defs.proofs.Members.{IsIn-map_from}
use Rattle.pw_defs.specs.declared.design.Body.{Body}
use Rattle.pw_defs.specs.declared.design.Body.TheVariants.{Module as ModuleBody}
use Rattle.design_defs.specs.Bits.{IsSpot, Spot, range_in}
use Rattle.list_defs.specs.Members.{HasMoreThan}
use Rattle.design_defs.specs.Hierarchy.{IsInstance, Sources, Way, body_at, module_named}
use Rattle.list_defs.proofs.Few.{few, place_of_member}
use Rattle.list_defs.proofs.Members.{IsIn-slice_get}
use Rattle.net_sizes.specs.Sizes.{AreOwnSpots, IsSized, one_each}
use Rattle.net_sizes.specs.Under.{AllDiffer, IsUnder, Own}
use Rattle.net_sizes.proofs.AllUnder.{spot_of_parts}
use Rattle.net_hierarchy.proofs.Below.{at_below}
use Rattle.net_hierarchy.proofs.Cycles.{get_take}

-- where nothing comes twice, each thing has one place
one_place : {X : Type 0} (xs : List X) (i j : ℕ) (x : X) → AllDiffer xs → slice_get xs i ≡ Some x → slice_get xs j ≡ Some x → i ≡ j
one_place [] i j x differ p q = cc
one_place (y ∷ ys) zero zero x differ p q = refl
one_place (y ∷ ys) zero (suc j) x differ p q = absurd (differ.0 (subst (λ z. IsIn z ys) (sym (same_Some y x p)) (IsIn-slice_get ys j x q)))
one_place (y ∷ ys) (suc i) zero x differ p q = absurd (differ.0 (subst (λ z. IsIn z ys) (sym (same_Some y x q)) (IsIn-slice_get ys i x p)))
one_place (y ∷ ys) (suc i) (suc j) x differ p q = ap suc (one_place ys i j x differ.1 p q)

more_under : {X : Type 0} (n : ℕ) (P : X → Type 0) (xs : List X) → ((x : X) → IsIn x xs → P x) → AllDiffer xs → n < length xs → HasMoreThan n P
more_under n P xs each differ more = record {
  things = take (n + 1) xs;
  count = length-take-le (n + 1) xs (omega arith);
  each = λ x there.
      let at = place_of_member x (take (n + 1) xs) there in
      each x (IsIn-slice_get xs at.0 x (get_take xs (n + 1) at.0 x at.1).0);
  different = λ i j x p q. one_place xs i j x differ (get_take xs (n + 1) i x p).0 (get_take xs (n + 1) j x q).0;
}

-- the same number of other things
pub more_by : {X Y : Type 0} (n : ℕ) (P : X → Type 0) (Q : Y → Type 0) (f : X → Y) → ((x : X) → P x → Q (f x)) → ((x y : X) → P x → P y → f x ≡ f y → x ≡ y)
    → HasMoreThan n P → HasMoreThan n Q
more_by {X} {Y} n P Q f means one more = record {
  things = map f more.things;
  count = length-map more.things f ∙ more.count;
  each = λ y there.
      let found = IsIn-map_from f y more.things there in
      subst Q (sym found.2) (means found.0 (more.each found.0 found.1));
  different = different;
}
  where
    behind : (i : ℕ) (y : Y) (o : Option X) → slice_get more.things i ≡ o → option_map f o ≡ Some y → (x : X) × (slice_get more.things i ≡ Some x) × (f x ≡ y)
    behind i y None at e = cc
    behind i y (Some x) at e = (x, at, same_Some (f x) y e)

    thing : (i : ℕ) (y : Y) → slice_get (map f more.things) i ≡ Some y → (x : X) × (slice_get more.things i ≡ Some x) × (f x ≡ y)
    thing i y e = behind i y (slice_get more.things i) refl (sym (slice_get-map f more.things i) ∙ e)

    different : (i j : ℕ) (y : Y) → slice_get (map f more.things) i ≡ Some y → slice_get (map f more.things) j ≡ Some y → i ≡ j
    different i j y p q =
        let a = thing i y p in
        let b = thing j y q in
        let same : a.0 ≡ b.0 =
        one a.0 b.0 (more.each a.0 (IsIn-slice_get more.things i a.0 a.1)) (more.each b.0 (IsIn-slice_get more.things j b.0 b.1)) (a.2 ∙ sym b.2) in
        more.different i j a.0 a.1 (b.1 ∙ ap Some (sym same))

-- the size tells whether there is more
pub more_of_size : (s : Sources) (own : Own) (limit n : ℕ) (sizes : List ℕ) → IsSized s own (limit + 1) sizes n
    → (limit < slice_index sizes n → HasMoreThan limit (IsUnder s own (ModuleBody n))) × (HasMoreThan limit (IsUnder s own (ModuleBody n)) → limit < slice_index sizes n)
more_of_size s own limit n sizes is = (more, less)
  where
    size : slice_index sizes n ≡ min (limit + 1) is.count
    size = is.size

    count : length is.has.xs ≡ is.count
    count = is.has.length

    more : limit < slice_index sizes n → HasMoreThan limit (IsUnder s own (ModuleBody n))
    more large = more_under limit (IsUnder s own (ModuleBody n)) is.has.xs is.has.are.each is.has.are.different (omega (arith, size, count))

    cases : (a b : ℕ) → (a < b) ⊎ (b ≤ a)
    cases a b = cases_lt a b

    less : HasMoreThan limit (IsUnder s own (ModuleBody n)) → limit < slice_index sizes n
    less many =
        elim (cases limit (slice_index sizes n)) [
          | inl large ↦ large
          | inr small ↦ absurd (few limit (IsUnder s own (ModuleBody n)) is.has.xs is.has.are.all (omega (arith, size, count)) many)
        ]

pub instances_below : (s : Sources) (top limit : ℕ) → module_named s s.top ≡ Some top
    → (HasMoreThan limit (IsUnder s one_each (ModuleBody top)) → HasMoreThan limit (IsInstance s)) × (HasMoreThan limit (IsInstance s) → HasMoreThan limit (IsUnder s one_each (ModuleBody top)))
instances_below s top limit named = (outward, inward)
  where
    at_way : Way → Spot
    at_way way = record { way = way; net = []; place = 0 }

    own_parts : (x : Spot) → IsUnder s one_each (ModuleBody top) x → (x.net ≡ []) × (x.place ≡ 0)
    own_parts x is = by is.one
      where
        by : ◌≡◌ {A = List ℕ × ℕ} (x.net, x.place) ([], 0) ⊎ ⊥ → (x.net ≡ []) × (x.place ≡ 0)
        by (inl e) = (ap (λ (p : List ℕ × ℕ). p.0) e, ap (λ (p : List ℕ × ℕ). p.1) e)
        by (inr never) = absurd never

    outward : HasMoreThan limit (IsUnder s one_each (ModuleBody top)) → HasMoreThan limit (IsInstance s)
    outward =
        more_by limit (IsUnder s one_each (ModuleBody top)) (IsInstance s) (λ (x : Spot). x.way) (λ x is. (is.b, at_below s top named x.way ∙ is.there))
        (λ x y p q e. let a = own_parts x p in let b = own_parts y q in spot_of_parts x y e (a.0 ∙ sym b.0) (a.1 ∙ sym b.1))

    inward : HasMoreThan limit (IsInstance s) → HasMoreThan limit (IsUnder s one_each (ModuleBody top))
    inward =
        more_by limit (IsInstance s) (IsUnder s one_each (ModuleBody top)) at_way
        (λ way is. record { b = is.0; there = sym (at_below s top named way) ∙ is.1; one = inl refl }) (λ x y p q e. ap (λ (z : Spot). z.way) e)

pub bits_below : (s : Sources) (own : Own) (top limit : ℕ) → module_named s s.top ≡ Some top → AreOwnSpots s own
    → (HasMoreThan limit (IsUnder s own (ModuleBody top)) → HasMoreThan limit (IsSpot s)) × (HasMoreThan limit (IsSpot s) → HasMoreThan limit (IsUnder s own (ModuleBody top)))
bits_below s own top limit named spots = (outward, inward)
  where
    spot : (x : Spot) → IsUnder s own (ModuleBody top) x → IsSpot s x
    spot x is =
        let bit = (spots is.b x.net x.place).0 is.one in
        (bit.range, ap (option_and_then (λ body. range_in s body x.net)) (at_below s top named x.way ∙ is.there) ∙ bit.is_range, bit.within)

    under : (x : Spot) → IsSpot s x → IsUnder s own (ModuleBody top) x
    under x is = by (body_at s x.way) refl is.1
      where
        by : (o : Option Body) → body_at s x.way ≡ o → option_and_then (λ body. range_in s body x.net) o ≡ Some is.0 → IsUnder s own (ModuleBody top) x
        by None e h = cc
        by (Some b) e h = record { b = b; there = sym (at_below s top named x.way) ∙ e; one = (spots b x.net x.place).1 (record { range = is.0; is_range = h; within = is.2 }) }

    outward : HasMoreThan limit (IsUnder s own (ModuleBody top)) → HasMoreThan limit (IsSpot s)
    outward = more_by limit (IsUnder s own (ModuleBody top)) (IsSpot s) (λ x. x) spot (λ x y p q e. e)

    inward : HasMoreThan limit (IsSpot s) → HasMoreThan limit (IsUnder s own (ModuleBody top))
    inward = more_by limit (IsSpot s) (IsUnder s own (ModuleBody top)) (λ x. x) under (λ x y p q e. e)
