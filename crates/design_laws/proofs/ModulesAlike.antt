-- In a design made from sources without faults and with full names any two instances of one module are alike.
use Rattle.std.proofs.Common.{◌≡◌, ℕ, List, [], ◌∷◌, ◌++◌, Some, slice_get, refl, sym, ap, ◌∙◌, subst}
use Rattle.pw_defs.specs.declared.design.Bit.{Bit}
use Rattle.pw_defs.specs.declared.design.Body.TheVariants.{Module as ModuleBody}
use Rattle.pw_defs.specs.declared.design.Design.{Design}
use Rattle.design_defs.specs.Alike.{AreAlike, AreBitsAlike, AreInSame, AreInstancesAlike, AreSameBit, HasModulesAlike, IsAtOrBelow, IsNamedBelow}
use Rattle.design_defs.specs.Bits.{Spot}
use Rattle.design_defs.specs.DesignFaults.{IsFaultless}
use Rattle.design_defs.specs.Designs.{IsBitAt, IsMadeFrom}
use Rattle.design_defs.specs.Hierarchy.{IsInstance, Sources, Way, path}
use Rattle.design_defs.specs.Inputs.{AreReadSources}
use Rattle.design_laws.proofs.Below.{named_by_way, one_way_below, way_below, way_of_name}
use Rattle.design_laws.proofs.Numbered.{IsWayOf, body_of_way, is_instance, is_spot, one_number, one_spot, parent_of_way, spot_of_bit, way_number, way_of_body}
use Rattle.design_laws.proofs.OwnBits.{same_bit_place, same_size}
use Rattle.design_laws.proofs.TwinBits.{twins_alike}
use Rattle.design_laws.proofs.Twins.{ArePair, same_below, twin_instances}
use Rattle.design_laws.specs.FullNames.{HaveFullNames}
use Rattle.design_laws.specs.OwnPlaces.{spot_at}

-- the one of a pair is inside what its twin is inside, but for the two themselves
in_same : (s : Sources) (d : Design) (made : IsMadeFrom s d) (a b : ℕ) (pair : ArePair s d made a b) (below : Way) (i j : ℕ) → IsWayOf made i (below ++ pair.way)
    → IsWayOf made j (below ++ pair.other) → AreInSame d a b i j
in_same s d made a b pair [] i j at other = AreInSame.ends (one_number s d made i a pair.way at pair.at) (one_number s d made j b pair.other other pair.at_other)
in_same s d made a b pair (name ∷ below) i j at other =
    let first = parent_of_way s d made i (name ∷ (below ++ pair.way)) at in
    let second = parent_of_way s d made j (name ∷ (below ++ pair.other)) other in
    let p = first.2 in
    let q = second.2 in
    AreInSame.inside p.0 q.0 (first.1 ∙ ap Some p.1) (second.1 ∙ ap Some q.1) (twin_instances s d made a b pair below p.0 q.0 p.2 q.2)

instances_alike : (s : Sources) (d : Design) (made : IsMadeFrom s d) (a b : ℕ) (pair : ArePair s d made a b) (below : Way) (i j : ℕ) → IsWayOf made i (below ++ pair.way)
    → IsWayOf made j (below ++ pair.other) → AreInstancesAlike d a b i j
instances_alike s d made a b pair below i j at other =
    let there = is_instance s d made i (below ++ pair.way) at in
    let same = same_below s d made a b pair below in
    record {
      body = body_of_way s d made i (below ++ pair.way) at ∙ same ∙ sym (body_of_way s d made j (below ++ pair.other) other);
      parents = in_same s d made a b pair below i j at other;
      sizes = same_size s d made i j (below ++ pair.way) (below ++ pair.other) there.0 at other there.1 (sym same ∙ there.1);
    }

-- two instances of one name below the two stand at one way
pub same_way_below : (s : Sources) (d : Design) (made : IsMadeFrom s d) (a b : ℕ) (pair : ArePair s d made a b) (name : List ℕ) (i j : ℕ) → IsNamedBelow d a name i
    → IsNamedBelow d b name j → (below : Way) × IsWayOf made i (below ++ pair.way) × IsWayOf made j (below ++ pair.other)
same_way_below s d made a b pair name i j first second =
    let one = way_of_name s d made pair.full a pair.way pair.at name i first in
    let two = way_of_name s d made pair.full b pair.other pair.at_other name j second in
    let there = is_instance s d made i (one.0 ++ pair.way) one.1 in
    let other = is_instance s d made j (two.0 ++ pair.other) two.1 in
    let moved : IsInstance s (two.0 ++ pair.way) = (other.0, same_below s d made a b pair two.0 ∙ other.1) in
    let same : one.0 ≡ two.0 = one_way_below s pair.faultless pair.full pair.way one.0 two.0 there moved (one.2 ∙ sym two.2) in
    (one.0, one.1, subst (λ (w : Way). IsWayOf made j (w ++ pair.other)) (sym same) two.1)

pair_alike : (s : Sources) (d : Design) (made : IsMadeFrom s d) (a b : ℕ) → ArePair s d made a b → AreAlike d a b
pair_alike s d made a b pair = record { instances = instances; bits = bits; named = named }
  where
    instances : (name : List ℕ) (i : ℕ) → IsNamedBelow d a name i → (j : ℕ) × IsNamedBelow d b name j × AreInstancesAlike d a b i j
    instances name i first =
        let one = way_of_name s d made pair.full a pair.way pair.at name i first in
        let there = is_instance s d made i (one.0 ++ pair.way) one.1 in
        let j = way_number s d made (one.0 ++ pair.other) (there.0, sym (same_below s d made a b pair one.0) ∙ there.1) in (
          j.0,
          subst (λ n. IsNamedBelow d b n j.0) one.2 (named_by_way s d made pair.full b pair.other pair.at_other one.0 j.0 j.1),
          instances_alike s d made a b pair one.0 i j.0 one.1 j.1,
        )

    named : (i : ℕ) → IsAtOrBelow d a i → (name : List ℕ) × IsNamedBelow d a name i
    named i under =
        let found = way_below s d made a pair.way pair.at i under i refl in
        (path found.0, named_by_way s d made pair.full a pair.way pair.at found.0 i found.1)

    bits : (n m : ℕ) (x y : Bit) → AreSameBit d a b n m → slice_get d.bits n ≡ Some x → slice_get d.bits m ≡ Some y → AreBitsAlike d a b x y
    bits n m x y same at other =
        let ways = same_way_below s d made a b pair same.owners.name same.i same.j same.owners.first same.owners.second in
        let below = ways.0 in
        let there = is_instance s d made same.i (below ++ pair.way) ways.1 in
        let place = same_bit_place s d made same.i same.j (below ++ pair.way) (below ++ pair.other) there.0 ways.1 ways.2 there.1
        (sym (same_below s d made a b pair below) ∙ there.1) n m same.place same.first same.second in
        let first = spot_of_bit s d made n x at in
        let second = spot_of_bit s d made m y other in
        let spot : first.0 ≡ spot_at (below ++ pair.way) place.0 = one_spot s d made n first.0 (spot_at (below ++ pair.way) place.0) first.1 place.1 in
        let twin : second.0 ≡ spot_at (below ++ pair.other) place.0 = one_spot s d made m second.0 (spot_at (below ++ pair.other) place.0) second.1 place.2 in
        twins_alike s d made a b pair below place.0 x y (is_spot s d made n (spot_at (below ++ pair.way) place.0) place.1)
        (subst (λ (z : Spot). IsBitAt s made.numbering.ways made.numbering.spots z x) spot first.2)
        (subst (λ (z : Spot). IsBitAt s made.numbering.ways made.numbering.spots z y) twin second.2)

-- Any two instances of one module are alike.
pub has_modules_alike : (s : Sources) (d : Design) → AreReadSources s → IsFaultless s → HaveFullNames s → IsMadeFrom s d → HasModulesAlike d
has_modules_alike s d read faultless full made a b m first second =
    let one = way_of_body s d made a (ModuleBody m) first in
    let two = way_of_body s d made b (ModuleBody m) second in
    pair_alike s d made a b (record {
      read = read;
      faultless = faultless;
      full = full;
      way = one.0;
      other = two.0;
      at = one.1;
      at_other = two.1;
      module_number = m;
      body = one.2;
      body_other = two.2;
    })
