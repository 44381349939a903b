-- What follows from the soundness of an intent: each supply has a root in each unit, outer units come first, and each
-- port bit has its faces or lies inside one domain.
use Rattle.std.proofs.Common.{◌≡◌, ℕ, zero, suc, ◌<◌, Bool, true, false, eqb, List, [], ◌∷◌, Option, Some, None, IfSome, option_map, slice_get, length, inl, inr, ◌⊎◌, refl, sym, ap, ◌∙◌, subst, arith}
use Rattle.std.specs.List.{AllByRecursion}
use Rattle.std.specs.declared.cmp.Ordering.TheVariants.{Less}
use Rattle.std.proofs.lemmas.Bool.{eqb-true, eqb-false}
use Rattle.std.proofs.lemmas.Cmp.{ranked}
use Rattle.std.proofs.lemmas.Option.{slice_get_cases}
use Rattle.pw_defs.specs.declared.design.Design.{Design}
use Rattle.pw_defs.specs.declared.design.Instance.{Instance}
use Rattle.pw_defs.specs.declared.design.PortBit.{PortBit}
use Rattle.pw_defs.specs.declared.intent.Face.{Face}
use Rattle.pw_defs.specs.declared.intent.Intent.{Intent}
use Rattle.pw_defs.specs.declared.intent.Unit.{Unit as PowerUnit}
use Rattle.pw_defs.specs.declared.supplies.Supply.{Supply}
use Rattle.list_defs.specs.Orders.{IsRising}
use Rattle.design_defs.specs.Joined.{parent_of}
use Rattle.design_defs.specs.Sound.{IsSoundDesign, HasParentsFirst}
use Rattle.list_defs.proofs.Members.{IsIn-slice_get}
use Rattle.supply_defs.specs.Network.{HasFeedersInRange}
use Rattle.supply_defs.specs.UnitLists.{OutersAreSmaller}
use Rattle.supply_defs.specs.UnitViews.{IsRootIn, view_ends}
use Rattle.supply_defs.proofs.Roots.{some_root}
use Rattle.domain_defs.specs.Faces.{HasFaces, DomainsAgree, inner_face, outer_face}
use Rattle.domain_defs.specs.SoundIntent.{IsSoundIntent, IsNearestAbove, unit_cmp}

-- each feeder is one of the supplies
pub feeders_in_range : (design : Design) (intent : Intent) → IsSoundIntent design intent → HasFeedersInRange intent.supplies
feeders_in_range design intent sound a b fed = by (slice_get intent.supplies a) refl fed
  where
    below : (f : Option ℕ) → f ≡ Some b → IfSome f (λ feeder. feeder < length intent.supplies) → b < length intent.supplies
    below None e h = cc
    below (Some f) e h = let same : f ≡ b = cc in subst (λ n. n < length intent.supplies) same h

    by : (o : Option Supply) → slice_get intent.supplies a ≡ o → option_map (λ (s : Supply). s.feeder) o ≡ Some (Some b) → b < length intent.supplies
    by None there e = cc
    by (Some s) there e =
        let is : s.feeder ≡ Some b = cc in below s.feeder is (sound.supply_numbers.supplies_in s (IsIn-slice_get intent.supplies a s there)).feeder_in

-- each supply has a root in each unit
pub supply_has_root : (design : Design) (intent : Intent) → IsSoundIntent design intent → (unit supply : ℕ) → supply < length intent.supplies
    → (root : ℕ) × IsRootIn intent.supplies intent.units unit supply root
supply_has_root design intent sound unit supply there =
    some_root intent.supplies sound.network.no_ring (feeders_in_range design intent sound) (view_ends intent.supplies intent.units unit) supply there

-- the instance of the unit above is a smaller one
above_is_smaller : (design : Design) (units : List PowerUnit) → HasParentsFirst design → (inst number : ℕ) → IsNearestAbove design units inst number
    → (u : PowerUnit) × (slice_get units number ≡ Some u) × (u.inst < inst)
above_is_smaller design units parents _ _ (IsNearestAbove.next inst parent number above at) =
    (at.unit, at.there, omega (arith, at.inst_is, (parents inst parent above).0))
above_is_smaller design units parents _ _ (IsNearestAbove.higher inst parent number above none rest) =
    let found = above_is_smaller design units parents parent number rest in
    (found.0, found.1, omega (arith, found.2, (parents inst parent above).0))

-- in a rising list of units a smaller instance stands at a smaller place
each_after : (u : PowerUnit) (us : List PowerUnit) (n : ℕ) (v : PowerUnit) → AllByRecursion (λ w. unit_cmp u w ≡ Less) us → slice_get us n ≡ Some v
    → u.inst < v.inst
each_after u [] n v all there = cc
each_after u (w ∷ ws) zero v all there =
    let same : w ≡ v = cc in
    let less : u.inst < w.inst = ranked u.inst w.inst Less (sym all.0) in
    subst (λ (x : PowerUnit). u.inst < x.inst) same less
each_after u (w ∷ ws) (suc n) v all there = each_after u ws n v all.1 there

smaller_place : (us : List PowerUnit) → IsRising unit_cmp us → (n m : ℕ) (u v : PowerUnit) → slice_get us n ≡ Some u → slice_get us m ≡ Some v
    → u.inst < v.inst → n < m
smaller_place [] rising n m u v here there less = cc
smaller_place (w ∷ ws) rising zero zero u v here there less = let same : u ≡ v = cc in absurd (omega (arith, ap (λ (x : PowerUnit). x.inst) same))
smaller_place (w ∷ ws) rising zero (suc m) u v here there less = omega arith
smaller_place (w ∷ ws) rising (suc n) zero u v here there less =
    let same : w ≡ v = cc in
    absurd (omega (arith, each_after w ws n u rising.0 here, ap (λ (x : PowerUnit). x.inst) same))
smaller_place (w ∷ ws) rising (suc n) (suc m) u v here there less = omega (arith, smaller_place ws rising.1 n m u v here there less)

-- each unit's outer one has a smaller number
pub outers_are_smaller : (design : Design) (intent : Intent) → IsSoundDesign design → IsSoundIntent design intent → OutersAreSmaller intent.units
outers_are_smaller design intent good sound n outer u there is =
    let above = above_is_smaller design intent.units good.parents_first u.inst outer (sound.units_nested.nearest n outer u there is) in
    smaller_place intent.units sound.units_in_order outer n above.0 u above.1 there above.2

-- a port bit has its faces, or its instance and the parent are in one domain
entry_there : (design : Design) (intent : Intent) → IsSoundIntent design intent → (inst : ℕ) → inst < length design.insts
    → (d : ℕ) × (slice_get intent.domain_of inst ≡ Some d)
entry_there design intent sound inst within =
    elim (slice_get_cases intent.domain_of inst).1 [ inl found ↦ (found.0, found.2) | inr past ↦ absurd (omega (arith, past.0, sound.entries.count)) ]

pub faces_or_inside : (design : Design) (intent : Intent) → IsSoundDesign design → IsSoundIntent design intent → (bit : PortBit)
    → bit.inst < length design.insts
    → ((outside : Option Face) × (inside : Face) × HasFaces design intent bit outside inside) ⊎ DomainsAgree design intent bit
faces_or_inside design intent good sound bit within = by (parent_of design bit.inst) refl
  where
    here : (d : ℕ) × (slice_get intent.domain_of bit.inst ≡ Some d)
    here = entry_there design intent sound bit.inst within

    at : (parent out : ℕ) → parent_of design bit.inst ≡ Some (Some parent) → slice_get intent.domain_of parent ≡ Some out → (b : Bool) → eqb out here.0 ≡ b
        → ((outside : Option Face) × (inside : Face) × HasFaces design intent bit outside inside) ⊎ DomainsAgree design intent bit
    at parent out above there true same =
        let one : out ≡ here.0 = eqb-true out here.0 same in
        inr (record { parent = parent; above = above; domain = out; inside = here.1 ∙ ap Some (sym one); outside = there })
    at parent out above there false differ =
        inl (Some (outer_face bit out), inner_face bit here.0, HasFaces.between parent out here.0 above there here.1 (eqb-false out here.0 differ))

    no_parent : ¬ (parent_of design bit.inst ≡ None)
    no_parent none =
        elim (slice_get_cases design.insts bit.inst).1 [
          | inl found ↦ (let e : parent_of design bit.inst ≡ Some found.0.parent = ap (option_map (λ (i : Instance). i.parent)) found.2 in cc)
          | inr past ↦ omega (arith, past.0)
        ]

    by : (p : Option (Option ℕ)) → parent_of design bit.inst ≡ p
        → ((outside : Option Face) × (inside : Face) × HasFaces design intent bit outside inside) ⊎ DomainsAgree design intent bit
    by None above = absurd (no_parent above)
    by (Some None) above = inl (None, inner_face bit here.0, HasFaces.of_top here.0 above here.1)
    by (Some (Some parent)) above =
        let less : parent < bit.inst = (good.parents_first bit.inst parent above).0 in
        let there = entry_there design intent sound parent (omega arith) in
        at parent there.0 above there.1 (eqb there.0 here.0) refl
