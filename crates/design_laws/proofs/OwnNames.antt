-- In a made design no two instances, ports or port bits have one joined name.
use Rattle.std.proofs.Common.{◌≡◌, ◌≢◌, ℕ, ◌⊎◌, List, [], ◌∷◌, inl, inr, ap, subst, arith}
use Rattle.std.proofs.lemmas.Bool.{cases_order}
use Rattle.pw_defs.specs.declared.design.Design.{Design}
use Rattle.pw_defs.specs.declared.design.Named.{Named}
use Rattle.pw_defs.specs.declared.design.Named.TheVariants.{Instance, Port as PortOf, PortBit as BitOf}
use Rattle.pw_defs.specs.declared.design.PortBit.{PortBit}
use Rattle.design_defs.specs.DesignFaults.{HasThingName, IsFaultless, Thing}
use Rattle.design_defs.specs.Designs.{IsMadeFrom}
use Rattle.design_defs.specs.Hierarchy.{Sources, Way, path}
use Rattle.design_defs.specs.Joined.{HasJoinedName, HaveOwnNames}
use Rattle.design_defs.specs.Names.{joined}
use Rattle.design_defs.specs.Ranges.{bit_name}
use Rattle.design_laws.proofs.NoTwoNames.{no_two_names}
use Rattle.design_laws.proofs.Numbered.{IsWayOf, is_instance, one_number, port_of_number, way_of_path}
use Rattle.design_laws.proofs.Top.{top_is_first}
use Rattle.design_defs.proofs.OneDesign.{early_of}

-- DECISIONS. Two things of a design are the same or not.
same_or_not : (n m : ℕ) → (n ≡ m) ⊎ (n ≢ m)
same_or_not n m =
    elim (cases_order n m) [
      | inl e ↦ inl e
      | inr o ↦ elim o [ inl less ↦ inr (λ e. omega arith) | inr more ↦ inr (λ e. omega arith) ]
    ]

bit_of_parts : (b c : PortBit) → b.inst ≡ c.inst → b.port ≡ c.port → b.place ≡ c.place → b ≡ c
bit_of_parts b c p q r = λ i. record { inst = p i; port = q i; place = r i }

same_or_other_bit : (b c : PortBit) → (b ≡ c) ⊎ (b ≢ c)
same_or_other_bit b c =
    elim (same_or_not b.inst c.inst) [
      | inr other ↦ inr (λ e. other (ap (λ (x : PortBit). x.inst) e))
      | inl insts ↦
          elim (same_or_not b.port c.port) [
            | inr other ↦ inr (λ e. other (ap (λ (x : PortBit). x.port) e))
            | inl ports ↦
                elim (same_or_not b.place c.place) [
                  | inr other ↦ inr (λ e. other (ap (λ (x : PortBit). x.place) e))
                  | inl places ↦ inl (bit_of_parts b c insts ports places)
                ]
          ]
    ]

inst_of : (n m : ℕ) → Instance n ≡ Instance m → n ≡ m
inst_of n m e = cc

port_of : (n m k l : ℕ) → PortOf n k ≡ PortOf m l → (n ≡ m) × (k ≡ l)
port_of n m k l e = (cc, cc)

bit_of : (b c : PortBit) → BitOf b ≡ BitOf c → b ≡ c
bit_of b c e = cc

same_or_other : (x y : Named) → (x ≡ y) ⊎ (x ≢ y)
same_or_other (Instance n) (Instance m) = elim (same_or_not n m) [ inl e ↦ inl (ap Instance e) | inr other ↦ inr (λ e. other (inst_of n m e)) ]
same_or_other (Instance n) (PortOf m l) = inr (λ e. cc)
same_or_other (Instance n) (BitOf c) = inr (λ e. cc)
same_or_other (PortOf n k) (Instance m) = inr (λ e. cc)
same_or_other (PortOf n k) (PortOf m l) =
    elim (same_or_not n m) [
      | inr other ↦ inr (λ e. other (port_of n m k l e).0)
      | inl insts ↦ elim (same_or_not k l) [ inr other ↦ inr (λ e. other (port_of n m k l e).1) | inl ports ↦ inl cc ]
    ]
same_or_other (PortOf n k) (BitOf c) = inr (λ e. cc)
same_or_other (BitOf b) (Instance m) = inr (λ e. cc)
same_or_other (BitOf b) (PortOf m l) = inr (λ e. cc)
same_or_other (BitOf b) (BitOf c) = elim (same_or_other_bit b c) [ inl e ↦ inl (ap BitOf e) | inr other ↦ inr (λ e. other (bit_of b c e)) ]

-- THINGS. What a thing of the design is in the hierarchy.
data IsThing {s : Sources} {d : Design} (made : IsMadeFrom s d) : Named → Thing → Type 0 where
  instance : (n : ℕ) (name : List ℕ) (outer : Way) → IsWayOf made n (name ∷ outer) → IsThing made (Instance n) (Thing.instance (name ∷ outer))
  port : (n k : ℕ) (way : Way) → IsWayOf made n way → IsThing made (PortOf n k) (Thing.port way k)
  bit : (b : PortBit) (way : Way) → IsWayOf made b.inst way → IsThing made (BitOf b) (Thing.vector_bit way b.port b.place)

-- what is one thing in the hierarchy is one in the design
same_in_design : (s : Sources) (d : Design) (made : IsMadeFrom s d) (x y : Named) (t u : Thing) → IsThing made x t → IsThing made y u → t ≡ u → x ≡ y
same_in_design s d made _ _ _ _ (IsThing.instance n name outer at) (IsThing.instance m name' outer' at') e =
    let ways : name' ∷ outer' ≡ name ∷ outer = cc in
    ap Instance (one_number s d made n m (name ∷ outer) at (subst (IsWayOf made m) ways at'))
same_in_design s d made _ _ _ _ (IsThing.instance n name outer at) (IsThing.port m l way at') e = cc
same_in_design s d made _ _ _ _ (IsThing.instance n name outer at) (IsThing.bit c way at') e = cc
same_in_design s d made _ _ _ _ (IsThing.port n k way at) (IsThing.instance m name outer at') e = cc
same_in_design s d made _ _ _ _ (IsThing.port n k way at) (IsThing.port m l way' at') e =
    let ways : way' ≡ way = cc in
    let ports : k ≡ l = cc in
    let insts : n ≡ m = one_number s d made n m way at (subst (IsWayOf made m) ways at') in
    cc
same_in_design s d made _ _ _ _ (IsThing.port n k way at) (IsThing.bit c way' at') e = cc
same_in_design s d made _ _ _ _ (IsThing.bit b way at) (IsThing.instance m name outer at') e = cc
same_in_design s d made _ _ _ _ (IsThing.bit b way at) (IsThing.port m l way' at') e = cc
same_in_design s d made _ _ _ _ (IsThing.bit b way at) (IsThing.bit c way' at') e =
    let ways : way' ≡ way = cc in
    let insts : b.inst ≡ c.inst = one_number s d made b.inst c.inst way at (subst (IsWayOf made c.inst) ways at') in
    let ports : b.port ≡ c.port = cc in
    let places : b.place ≡ c.place = cc in
    ap BitOf (bit_of_parts b c insts ports places)

-- a thing of the design is one of the hierarchy, of the same name
thing_of : (s : Sources) (d : Design) (made : IsMadeFrom s d) → IsFaultless s → (x : Named) (name : List ℕ) → HasJoinedName d x name
    → (t : Thing) × IsThing made x t × HasThingName s t name
thing_of s d made faultless _ _ (HasJoinedName.instance n name inner at) =
    let found = way_of_path s d made n name at in
    by found.0 found.1 found.2
  where
    by : (way : Way) → IsWayOf made n way → path way ≡ name → (t : Thing) × IsThing made (Instance n) t × HasThingName s t name
    by [] is same = let first = one_number s d made n 0 [] is (top_is_first s d made faultless) in absurd (omega arith)
    by (own ∷ outer) is same = (
      Thing.instance (own ∷ outer),
      IsThing.instance n own outer is,
      subst (HasThingName s (Thing.instance (own ∷ outer))) same (HasThingName.instance own outer (is_instance s d made n (own ∷ outer) is)),
    )
thing_of s d made faultless _ _ (HasJoinedName.port n k p above at has) =
    let found = way_of_path s d made n above at in (
      Thing.port found.0 k,
      IsThing.port n k found.0 found.1,
      subst (λ name. HasThingName s (Thing.port found.0 k) (joined name p.name)) found.2
          (HasThingName.port found.0 k p (port_of_number s d made n found.0 k p found.1 has)),
    )
thing_of s d made faultless _ _ (HasJoinedName.vector_bit b p range above at has is within) =
    let found = way_of_path s d made b.inst above at in (
      Thing.vector_bit found.0 b.port b.place,
      IsThing.bit b found.0 found.1,
      subst (λ name. HasThingName s (Thing.vector_bit found.0 b.port b.place) (joined name (bit_name p.name p.range b.place))) found.2
          (HasThingName.vector_bit found.0 b.port p range b.place (port_of_number s d made b.inst found.0 b.port p found.1 has) is within),
    )

-- No two have one name.
pub have_own_names : (s : Sources) (d : Design) → IsFaultless s → IsMadeFrom s d → HaveOwnNames d
have_own_names s d faultless made x y name p q =
    let first = thing_of s d made faultless x name p in
    let second = thing_of s d made faultless y name q in
    elim (same_or_other x y) [
      | inl e ↦ e
      | inr other ↦ absurd (no_two_names s (early_of s faultless) first.0 second.0 name first.2 second.2
          (λ e. other (same_in_design s d made x y first.0 second.0 first.1 second.1 e)))
    ]
