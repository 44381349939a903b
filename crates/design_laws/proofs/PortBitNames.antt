-- Where no fault comes before rings no two port bits of an instance have one name.
use Rattle.std.proofs.Common.{◌≡◌, ◌≢◌, ℕ, ◌<◌, Option, Some, None, inl, inr, refl, sym, subst, arith}
use Rattle.std.proofs.lemmas.Bool.{cases_order}
use Rattle.pw_defs.specs.declared.netlist.Port.{Port}
use Rattle.design_defs.specs.DesignFaults.{HasPortAt, HasThingName, Thing, FaultKind, HasNoneBefore}
use Rattle.design_defs.specs.Hierarchy.{Sources, Way, path}
use Rattle.design_defs.specs.Names.{joined}
use Rattle.design_defs.specs.Ranges.{bit_name, width}
use Rattle.design_laws.proofs.NoTwoNames.{no_two_names}

-- two numbers that can't differ are the same
pub same_unless : (n m : ℕ) → ((n ≢ m) → ⊥) → n ≡ m
same_unless n m only =
    elim (cases_order n m) [
      | inl e ↦ e
      | inr o ↦ elim o [ inl less ↦ absurd (only (λ e. omega arith)) | inr more ↦ absurd (only (λ e. omega arith)) ]
    ]

-- the thing of the hierarchy that a port bit is
thing_of_bit : Way → ℕ → ℕ → Option (ℕ × ℕ) → Thing
thing_of_bit way k place None = Thing.port way k
thing_of_bit way k place (Some range) = Thing.vector_bit way k place

bit_thing : (s : Sources) (way : Way) (k : ℕ) (p : Port) (place : ℕ) → HasPortAt s way k p → place < width p.range
    → HasThingName s (thing_of_bit way k place p.range) (joined (path way) (bit_name p.name p.range place))
unfolding thing_of_bit
bit_thing s way k p place has within = by p.range refl
  where
    by : (o : Option (ℕ × ℕ)) → p.range ≡ o → HasThingName s (thing_of_bit way k place p.range) (joined (path way) (bit_name p.name p.range place))
    by None none =
        subst (λ r. HasThingName s (thing_of_bit way k place r) (joined (path way) (bit_name p.name r place))) (sym none) (HasThingName.port way k p has)
    by (Some range) some =
        subst (λ r. HasThingName s (thing_of_bit way k place r) (joined (path way) (bit_name p.name p.range place))) (sym some)
        (HasThingName.vector_bit way k p range place has some within)

-- two things of bits that are the same are of one port and place
same_thing : (way : Way) (k l place other : ℕ) (r q : Option (ℕ × ℕ)) → place < width r → other < width q
    → thing_of_bit way k place r ≡ thing_of_bit way l other q → (k ≡ l) × (place ≡ other)
unfolding thing_of_bit
same_thing way k l place other None None within within' e =
    let ports : k ≡ l = cc in
    let first : place < 1 = within in
    let second : other < 1 = within' in
    (ports, omega (arith, first, second))
same_thing way k l place other None (Some q) within within' e = cc
same_thing way k l place other (Some r) None within within' e = cc
same_thing way k l place other (Some r) (Some q) within within' e = let ports : k ≡ l = cc in let places : place ≡ other = cc in (ports, places)

-- Port bits of one instance with one name are the same.
pub one_port_bit : (s : Sources) → HasNoneBefore FaultKind.wire_loop s → (way : Way) (k l : ℕ) (p q : Port) (place other : ℕ) → HasPortAt s way k p → HasPortAt s way l q
    → place < width p.range → other < width q.range → bit_name p.name p.range place ≡ bit_name q.name q.range other → (k ≡ l) × (place ≡ other)
one_port_bit s early way k l p q place other has has' within within' same =
    (same_unless k l (λ differ. two (λ both. differ both.0)), same_unless place other (λ differ. two (λ both. differ both.1)))
  where
    two : ((k ≡ l) × (place ≡ other) → ⊥) → ⊥
    two differ =
        no_two_names s early (thing_of_bit way k place p.range) (thing_of_bit way l other q.range) (joined (path way) (bit_name p.name p.range place))
        (bit_thing s way k p place has within)
        (subst (λ name. HasThingName s (thing_of_bit way l other q.range) (joined (path way) name)) (sym same) (bit_thing s way l q other has' within'))
        (λ e. differ (same_thing way k l place other p.range q.range within within' e))
