-- Values that go along links, what begins at roots, and lists of small networks that were worked out by hand.
use Rattle.std.proofs.Common.{◌≡◌, ℕ, zero, suc, List, [], ◌∷◌, Some, slice_get, ◌⊎◌, inl, inr, refl, sym, ap, subst, arith}
use Rattle.pw_defs.specs.declared.intent.RootList.{RootList}
use Rattle.pw_defs.specs.declared.intent.Unit.{Unit as PowerUnit}
use Rattle.pw_defs.specs.declared.values.Value.{Value}
use Rattle.pw_defs.specs.declared.values.Value.TheVariants.{Off, On}
use Rattle.list_defs.specs.Members.{IsIn}
use Rattle.supply_defs.specs.Network.{IsRoot}
use Rattle.supply_defs.specs.UnitLists.{AreUnitLists, AreValues, IsSeen, IsSeenRoot}
use Rattle.supply_defs.specs.UnitViews.{IsRootIn}
use Rattle.supply_defs.specs.Values.{IsPortWithin, IsSwitchOutput}
use Rattle.supply_defs.proofs.Roots.{one_root}
use Rattle.supply_defs.proofs.WorkedNetworks.{one_unit, quiet, switch_ring, switched, two_units, with_macro}
use Rattle.supply_defs.proofs.WorkedRoots.{port_from_inside, port_from_outside}
use Rattle.supply_defs.proofs.WorkedUnits.{port_within}
use Rattle.supply_defs.proofs.WorkedValues.{mention_of_off_alone, off_or_zero_volts}
use Rattle.unit_lists.specs.Flow.{Reaches}
use Rattle.unit_lists.specs.Lists.{IsOwnValue}
use Rattle.unit_lists.specs.Plans.{IsGiven, IsLink, view_of}
use Rattle.unit_lists.specs.declared.views.View.{View}

-- a ring of two switches, and a net at 0.8 V from which a link goes into it
abbrev ring : List (View × View)
ring = (view_of 0 1, view_of 0 3) ∷ (view_of 0 3, view_of 0 1) ∷ []

abbrev fed_ring : List (View × View)
fed_ring = (view_of 0 0, view_of 0 1) ∷ ring

abbrev off_at_first : List (View × Value)
off_at_first = (view_of 0 1, Off) ∷ (view_of 0 3, Off) ∷ []

abbrev with_net : List (View × Value)
with_net = (view_of 0 0, On 800000) ∷ off_at_first

-- the value of the net comes through the first switch to the second one
pub through_two_switches : Reaches with_net fed_ring (view_of 0 3) (On 800000)
through_two_switches =
    Reaches.along (view_of 0 1) (view_of 0 3) (On 800000) (inr (inl refl))
    (Reaches.along (view_of 0 0) (view_of 0 1) (On 800000) (inl refl) (Reaches.begun (view_of 0 0) (On 800000) (inl refl)))

-- in a ring where only `off` begins nothing else comes to a switch
pub ring_stays_off : (a : View) (v : Value) → Reaches off_at_first ring a v → v ≡ Off
ring_stays_off _ _ (Reaches.begun a v there) = elim there [
  | inl same ↦ ap (λ (p : View × Value). p.1) same
  | inr then ↦ elim then [ inl same ↦ ap (λ (p : View × Value). p.1) same | inr none ↦ absurd none ]
]
ring_stays_off _ _ (Reaches.along a b v link reach) = ring_stays_off a v reach

-- values don't go back: what begins at the switches doesn't come to the net
no_way_back : (a b : View) → b.supply ≡ 0 → ¬ IsIn (a, b) fed_ring
no_way_back a b net link = elim link [
  | inl same ↦ omega (arith, ap (λ (l : View × View). l.1.supply) same)
  | inr then ↦ elim then [
    | inl same ↦ omega (arith, ap (λ (l : View × View). l.1.supply) same)
    | inr last ↦ elim last [ inl same ↦ omega (arith, ap (λ (l : View × View). l.1.supply) same) | inr none ↦ none ]
  ]
]

pub not_back_to_net : (a : View) (v : Value) → Reaches with_net fed_ring a v → a.supply ≡ 0 → v ≡ On 800000
not_back_to_net _ _ (Reaches.begun a v there) net = elim there [
  | inl same ↦ ap (λ (p : View × Value). p.1) same
  | inr then ↦ elim then [
    | inl same ↦ absurd (omega (arith, ap (λ (p : View × Value). p.0.supply) same))
    | inr last ↦ elim last [ inl same ↦ absurd (omega (arith, ap (λ (p : View × Value). p.0.supply) same)) | inr none ↦ absurd none ]
  ]
]
not_back_to_net _ _ (Reaches.along a b v link reach) net = absurd (no_way_back a b net link)

-- a link goes from the macro's port, as the macro sees it, to the net outside, and none goes back
pub out_of_macro : IsLink with_macro two_units (view_of 1 1) (view_of 0 0)
out_of_macro = inl (record { port = 1; within = port_within; inside = port_from_inside; outside = port_from_outside })

no_switch : (unit n : ℕ) → ¬ IsSwitchOutput with_macro unit n
no_switch unit zero h = let there = h.there in let kind = h.kind in cc
no_switch unit (suc zero) h = let there = h.there in let kind = h.kind in cc
no_switch unit (suc (suc zero)) h = let there = h.there in let kind = h.kind in cc
no_switch unit (suc (suc (suc n))) h = let there = h.there in cc

no_inner : (inner port : ℕ) → ¬ IsPortWithin two_units 1 inner port
no_inner inner port h = by inner h.macro h.there h.outer
  where
    by : (n : ℕ) (m : PowerUnit) → slice_get two_units n ≡ Some m → m.outer ≡ Some 1 → ⊥
    by zero m there outer = cc
    by (suc zero) m there outer = cc
    by (suc (suc n)) m there outer = cc

pub not_into_macro : ¬ IsLink with_macro two_units (view_of 0 0) (view_of 1 1)
not_into_macro (inl l) = no_inner 0 l.port l.within
not_into_macro (inr l) = no_switch 1 1 l.output

-- a link goes from the root of the switch's input to its output
pub through_switch : IsLink switched one_unit (view_of 0 1) (view_of 0 3)
through_switch = inr (record {
  input = 2;
  one_unit = refl;
  output = record { switch = _; there = refl; kind = refl; made_in = refl };
  named = inl refl;
  is_root = IsRoot.fed 2 1 1 (λ none. none) refl (IsRoot.unfed 1 refl);
})

-- links go both ways between two switches that feed one another
pub one_way : IsLink switch_ring one_unit (view_of 0 1) (view_of 0 3)
one_way = inr (record {
  input = 2;
  one_unit = refl;
  output = record { switch = _; there = refl; kind = refl; made_in = refl };
  named = inl refl;
  is_root = IsRoot.fed 2 1 1 (λ none. none) refl (IsRoot.unfed 1 refl);
})

pub other_way : IsLink switch_ring one_unit (view_of 0 3) (view_of 0 1)
other_way = inr (record {
  input = 0;
  one_unit = refl;
  output = record { switch = _; there = refl; kind = refl; made_in = refl };
  named = inl refl;
  is_root = IsRoot.fed 0 3 3 (λ none. none) refl (IsRoot.unfed 3 refl);
})

-- `off` is mentioned on the first net, so something is given on it, and it isn't on at 0 V of its own
pub off_is_given : IsGiven quiet one_unit (view_of 0 0)
off_is_given = inl (Off, record { supply = 0; is_root = IsRoot.unfed 0 refl; mentioned = inl refl })

abbrev nets : List View
nets = view_of 0 0 ∷ view_of 0 1 ∷ []

own_value_cases : (a : View) (v : Value) → IsOwnValue quiet nets (view_of 0 0 ∷ []) a v → a ≡ view_of 0 0 → v ≡ Off
own_value_cases _ _ (IsOwnValue.off a met) first = refl
own_value_cases _ _ (IsOwnValue.zero_volts a met none switch) first = absurd (none (inl first))

pub no_zero_beside_mention : ¬ IsOwnValue quiet nets (view_of 0 0 ∷ []) (view_of 0 0) (On 0)
no_zero_beside_mention own = let wrong = own_value_cases (view_of 0 0) (On 0) own refl in cc

-- nothing is given on the second one
pub zero_of_its_own : IsOwnValue quiet nets (view_of 0 0 ∷ []) (view_of 0 1) (On 0)
zero_of_its_own =
    IsOwnValue.zero_volts (view_of 0 1) (inr (inl refl)) (λ there. elim there [ inl same ↦ omega (arith, ap (λ (a : View). a.supply) same) | inr none ↦ none ]) (λ e. cc)

-- The lists of the two nets: the first one is off, the second one is off or on at 0 V.
abbrev quiet_lists : List RootList
quiet_lists = record { unit = 0; root = 0; values = Off ∷ [] } ∷ record { unit = 0; root = 1; values = Off ∷ On 0 ∷ [] } ∷ []

flat : (unit n r : ℕ) → IsRootIn quiet one_unit unit n r → IsRoot quiet [] n r
flat zero n r h = h
flat (suc unit) n r h = h

no_port : (unit inner port : ℕ) → ¬ IsPortWithin one_unit unit inner port
no_port unit inner port h = by inner h.macro h.there h.outer
  where
    by : (n : ℕ) (macro : PowerUnit) → slice_get one_unit n ≡ Some macro → macro.outer ≡ Some unit → ⊥
    by zero macro there outer = cc
    by (suc n) macro there outer = cc

-- the top sees each of the nets, and no unit sees anything else
seen_nets : (unit root : ℕ) → IsSeenRoot quiet one_unit unit root → (unit ≡ 0) × ((root ≡ 0) ⊎ (root ≡ 1))
seen_nets unit root h = by h.supply h.seen (flat unit h.supply root h.is_root)
  where
    by : (n : ℕ) → IsSeen quiet one_unit unit n → IsRoot quiet [] n root → (unit ≡ 0) × ((root ≡ 0) ⊎ (root ≡ 1))
    by n (IsSeen.port inner within) is = absurd (no_port unit inner n within)
    by zero (IsSeen.own s there made_in) is = (cc, inl (one_root quiet [] 0 root 0 is (IsRoot.unfed 0 refl)))
    by (suc zero) (IsSeen.own s there made_in) is = (cc, inr (one_root quiet [] 1 root 1 is (IsRoot.unfed 1 refl)))
    by (suc (suc n)) (IsSeen.own s there made_in) is = cc

pub lists_of_quiet_nets : AreUnitLists quiet one_unit quiet_lists
lists_of_quiet_nets = record {
  roots = record {
    rising = ((refl, tt), (tt, tt));
    each = λ q there. elim there [
      | inl same ↦ subst Seen (sym same) (record { supply = 0; seen = IsSeen.own _ refl refl; is_root = IsRoot.unfed 0 refl })
      | inr then ↦ elim then [
        | inl same ↦ subst Seen (sym same) (record { supply = 1; seen = IsSeen.own _ refl refl; is_root = IsRoot.unfed 1 refl })
        | inr none ↦ absurd none
      ]
    ];
    all = λ q sees.
        let found = seen_nets q.0 q.1 sees in
        elim found.1 [ inl first ↦ inl (pair q.0 0 q.1 0 found.0 first) | inr second ↦ inr (inl (pair q.0 0 q.1 1 found.0 second)) ];
  };
  values = λ l there. elim there [
    | inl same ↦ subst Values (sym same) mention_of_off_alone
    | inr then ↦ elim then [ inl same ↦ subst Values (sym same) off_or_zero_volts | inr none ↦ absurd none ]
  ];
}
  where
    Seen : ℕ × ℕ → Type 0
    Seen q = IsSeenRoot quiet one_unit q.0 q.1

    Values : RootList → Type 0
    Values l = AreValues quiet one_unit l.unit l.root l.values

    pair : (u v r s : ℕ) → u ≡ v → r ≡ s → (let p : ℕ × ℕ = (u, r) in let q : ℕ × ℕ = (v, s) in p ≡ q)
    pair u v r s e f = cc
