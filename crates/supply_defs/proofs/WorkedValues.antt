-- Values of roots in small networks: behind a switch, in a ring of switches, where `off` alone is mentioned, where nothing
-- is, and of a soft macro's port from inside and from outside.
use Rattle.std.proofs.Common.{◌≡◌, ℕ, zero, suc, List, [], ◌∷◌, Some, ap, slice_get, inl, inr, ◌⊎◌, refl, sym, subst, arith}
use Rattle.pw_defs.specs.declared.intent.Unit.{Unit as PowerUnit}
use Rattle.pw_defs.specs.declared.supplies.Said.{Said}
use Rattle.pw_defs.specs.declared.supplies.Supply.{Supply}
use Rattle.pw_defs.specs.declared.supplies.SupplyKind.TheVariants.{SwitchOut}
use Rattle.pw_defs.specs.declared.values.Value.{Value}
use Rattle.pw_defs.specs.declared.values.Value.TheVariants.{Off, On}
use Rattle.supply_defs.specs.Network.{IsRoot}
use Rattle.supply_defs.specs.UnitLists.{AreValues}
use Rattle.supply_defs.specs.UnitViews.{IsRootIn, kind_at}
use Rattle.supply_defs.specs.Values.{HasValue, IsMentioned, IsNamedInput, IsPortWithin, IsSwitchOutput, IsUnstated}
use Rattle.supply_defs.proofs.Roots.{one_root}
use Rattle.supply_defs.proofs.UnstatedRoots.{mentioned_stated, switch_output_stated, unstated_off_or_zero}
use Rattle.supply_defs.proofs.WorkedNetworks.{one_unit, switched, switch_ring, quiet}

-- in a job of one unit no port stands within a unit
no_port : (unit inner port : ℕ) → ¬ IsPortWithin one_unit unit inner port
no_port unit inner port h = by inner h.macro h.there h.outer
  where
    by : (n : ℕ) (macro : PowerUnit) → slice_get one_unit n ≡ Some macro → macro.outer ≡ Some unit → ⊥
    by zero macro there outer = cc
    by (suc n) macro there outer = cc

-- what is mentioned in the network with the switch: 0.8 V on the net at its input
mentioned_switched : (unit supply : ℕ) (v : Value) → IsMentioned switched unit supply v → (supply ≡ 1) × (v ≡ On 800000)
mentioned_switched unit zero v h = absurd h
mentioned_switched unit (suc zero) v h = elim h [ inl same ↦ (refl, ap (λ (s : Said). s.value) same) | inr none ↦ absurd none ]
mentioned_switched unit (suc (suc zero)) v h = absurd h
mentioned_switched unit (suc (suc (suc zero))) v h = absurd h
mentioned_switched unit (suc (suc (suc (suc n)))) v h = absurd h

-- in a job of one unit the view from inside ends nowhere
flat : (supplies : List Supply) (unit n r : ℕ) → IsRootIn supplies one_unit unit n r → IsRoot supplies [] n r
flat supplies zero n r h = h
flat supplies (suc unit) n r h = h

switch_number : (unit n : ℕ) → IsSwitchOutput switched unit n → n ≡ 3
switch_number unit zero h = let there = h.there in let kind = h.kind in cc
switch_number unit (suc zero) h = let there = h.there in let kind = h.kind in cc
switch_number unit (suc (suc zero)) h = let there = h.there in let kind = h.kind in cc
switch_number unit (suc (suc (suc zero))) h = refl
switch_number unit (suc (suc (suc (suc n)))) h = let there = h.there in cc

-- the input that the on state names has the root VB
input_root : (unit root input r : ℕ) → root ≡ 3 → IsNamedInput switched root input → IsRootIn switched one_unit unit input r → r ≡ 1
input_root unit root input r at named is = one_root switched [] input r 1 (flat switched unit input r is) (by (named_two named))
  where
    named_two : IsNamedInput switched root input → input ≡ 2
    named_two h = let N : ℕ → Type 0 = λ n. IsNamedInput switched n input in elim (subst N at h) [ inl e ↦ e | inr none ↦ absurd none ]

    by : input ≡ 2 → IsRoot switched [] input 1
    by e = let R : ℕ → Type 0 = λ n. IsRoot switched [] n 1 in subst R (sym e) (IsRoot.fed 2 1 1 (λ none. none) refl (IsRoot.unfed 1 refl))

switch_output : IsSwitchOutput switched 0 3
switch_output =
    record { switch = _; there = refl; kind = refl; made_in = refl }

-- the output of the switch and the net at its input are off or at 0.8 V
off_or_on : (unit root : ℕ) (v : Value) → HasValue switched one_unit unit root v → unit ≡ 0 → (root ≡ 3) ⊎ (root ≡ 1) → (v ≡ Off) ⊎ (v ≡ On 800000)
off_or_on _ _ _ (HasValue.off unit root is) top at = inl refl
off_or_on _ _ _ (HasValue.mentioned unit root supply v is said) top at = inr (mentioned_switched unit supply v said).1
off_or_on _ _ _ (HasValue.given unit root inner inner_root port v within is is' has) top at = absurd (no_port unit inner port within)
off_or_on _ _ _ (HasValue.switched unit root input other v switch named is has) top at =
    off_or_on unit other v has top (inr (input_root unit root input other (switch_number unit root switch) named is))
off_or_on _ _ _ (HasValue.unstated unit root nothing) top (inl output) =
    let U : ℕ → Type 0 = λ n. IsUnstated switched one_unit 0 n in
    let V : ℕ → Type 0 = λ n. IsUnstated switched one_unit n root in
    absurd (switch_output_stated switched one_unit 0 3 switch_output (subst U output (subst V top nothing)))
off_or_on _ _ _ (HasValue.unstated unit root nothing) top (inr input) =
    let U : ℕ → Type 0 = λ n. IsUnstated switched one_unit 0 n in
    let V : ℕ → Type 0 = λ n. IsUnstated switched one_unit n root in
    absurd (mentioned_stated switched one_unit 0 1 1 (On 800000) (IsRoot.unfed 1 refl) (inl refl) (subst U input (subst V top nothing)))

-- the value of the net at the switch's input is one of its output
pub output_has_input_value : HasValue switched one_unit 0 3 (On 800000)
output_has_input_value =
    HasValue.switched 0 3 2 1 (On 800000) switch_output (inl refl) (IsRoot.fed 2 1 1 (λ none. none) refl (IsRoot.unfed 1 refl))
    (HasValue.mentioned 0 1 1 (On 800000) (IsRoot.unfed 1 refl) (inl refl))

-- a switch output is off, or has the values of the inputs that its on state names, and no others
pub switch_output_values : AreValues switched one_unit 0 3 (Off ∷ On 800000 ∷ [])
switch_output_values = record {
  rising = ((refl, tt), (tt, tt));
  each = λ v there. elim there [
    | inl e ↦ subst (HasValue switched one_unit 0 3) (sym e) (HasValue.off 0 3 (IsRoot.unfed 3 refl))
    | inr later ↦ elim later [ inl e ↦ subst (HasValue switched one_unit 0 3) (sym e) output_has_input_value | inr none ↦ absurd none ]
  ];
  all = λ v has. elim (off_or_on 0 3 v has refl (inl refl)) [ inl e ↦ inl e | inr e ↦ inr (inl e) ];
}

-- in a ring of switches each output is off, since nothing else is given
ring_off : (unit root : ℕ) (v : Value) → HasValue switch_ring one_unit unit root v → unit ≡ 0 → (root ≡ 1) ⊎ (root ≡ 3) → v ≡ Off
ring_off _ _ _ (HasValue.off unit root is) top at = refl
ring_off _ _ _ (HasValue.mentioned unit root supply v is said) top at = absurd (unsaid supply v said)
  where
    unsaid : (n : ℕ) (w : Value) → ¬ IsMentioned switch_ring unit n w
    unsaid zero w h = h
    unsaid (suc zero) w h = h
    unsaid (suc (suc zero)) w h = h
    unsaid (suc (suc (suc zero))) w h = h
    unsaid (suc (suc (suc (suc n)))) w h = h
ring_off _ _ _ (HasValue.given unit root inner inner_root port v within is is' has) top at = absurd (no_port unit inner port within)
ring_off _ _ _ (HasValue.switched unit root input other v switch named is has) top at = ring_off unit other v has top (next at)
  where
    named_from : (n : ℕ) → root ≡ n → IsNamedInput switch_ring n input
    named_from n e = let N : ℕ → Type 0 = λ m. IsNamedInput switch_ring m input in subst N e named

    root_from : (n : ℕ) → input ≡ n → IsRoot switch_ring [] n other
    root_from n e = let R : ℕ → Type 0 = λ m. IsRoot switch_ring [] m other in subst R e (flat switch_ring unit input other is)

    next : (root ≡ 1) ⊎ (root ≡ 3) → (other ≡ 1) ⊎ (other ≡ 3)
    next (inl e) =
        inr (one_root switch_ring [] 0 other 3 (root_from 0 (elim (named_from 1 e) [ inl f ↦ f | inr none ↦ absurd none ]))
        (IsRoot.fed 0 3 3 (λ none. none) refl (IsRoot.unfed 3 refl)))
    next (inr e) =
        inl (one_root switch_ring [] 2 other 1 (root_from 2 (elim (named_from 3 e) [ inl f ↦ f | inr none ↦ absurd none ]))
        (IsRoot.fed 2 1 1 (λ none. none) refl (IsRoot.unfed 1 refl)))
ring_off _ _ _ (HasValue.unstated unit root nothing) top at = absurd (stated (switch_at at))
  where
    switch_at : (root ≡ 1) ⊎ (root ≡ 3) → kind_at switch_ring root ≡ Some SwitchOut
    switch_at (inl e) = ap (kind_at switch_ring) e
    switch_at (inr e) = ap (kind_at switch_ring) e

    stated : ¬ (kind_at switch_ring root ≡ Some SwitchOut)
    stated = nothing.unswitched

pub switches_in_ring_off : AreValues switch_ring one_unit 0 1 (Off ∷ [])
switches_in_ring_off = record {
  rising = (tt, tt);
  each = λ v there. elim there [ inl e ↦ subst (HasValue switch_ring one_unit 0 1) (sym e) (HasValue.off 0 1 (IsRoot.unfed 1 refl)) | inr none ↦ absurd none ];
  all = λ v has. inl (ring_off 0 1 v has refl (inl refl));
}

-- what is mentioned on the two nets: that the first one is off
mentioned_quiet : (unit supply : ℕ) (v : Value) → IsMentioned quiet unit supply v → (supply ≡ 0) × (v ≡ Off)
mentioned_quiet unit zero v h = elim h [ inl same ↦ (refl, ap (λ (s : Said). s.value) same) | inr none ↦ absurd none ]
mentioned_quiet unit (suc zero) v h = absurd h
mentioned_quiet unit (suc (suc n)) v h = absurd h

no_switch : (unit n : ℕ) → ¬ IsSwitchOutput quiet unit n
no_switch unit zero h = let there = h.there in let kind = h.kind in cc
no_switch unit (suc zero) h = let there = h.there in let kind = h.kind in cc
no_switch unit (suc (suc n)) h = let there = h.there in cc

-- a net that is said to be off is off alone: the mention of `off` takes away 0 V
off_alone : (unit root : ℕ) (v : Value) → HasValue quiet one_unit unit root v → unit ≡ 0 → root ≡ 0 → v ≡ Off
off_alone _ _ _ (HasValue.off unit root is) top at = refl
off_alone _ _ _ (HasValue.mentioned unit root supply v is said) top at = (mentioned_quiet unit supply v said).1
off_alone _ _ _ (HasValue.given unit root inner inner_root port v within is is' has) top at = absurd (no_port unit inner port within)
off_alone _ _ _ (HasValue.switched unit root input other v switch named is has) top at = absurd (no_switch unit root switch)
off_alone _ _ _ (HasValue.unstated unit root nothing) top at =
    let U : ℕ → Type 0 = λ n. IsUnstated quiet one_unit 0 n in
    let V : ℕ → Type 0 = λ n. IsUnstated quiet one_unit n root in
    absurd (mentioned_stated quiet one_unit 0 0 0 Off (IsRoot.unfed 0 refl) (inl refl) (subst U at (subst V top nothing)))

pub mention_of_off_alone : AreValues quiet one_unit 0 0 (Off ∷ [])
mention_of_off_alone = record {
  rising = (tt, tt);
  each = λ v there. elim there [ inl e ↦ subst (HasValue quiet one_unit 0 0) (sym e) (HasValue.off 0 0 (IsRoot.unfed 0 refl)) | inr none ↦ absurd none ];
  all = λ v has. inl (off_alone 0 0 v has refl refl);
}

-- nothing is given on the other net, so it is off or at 0 V
pub nothing_given : IsUnstated quiet one_unit 0 1
nothing_given = record {
  is_root = IsRoot.unfed 1 refl;
  unswitched = λ e. cc;
  unmentioned = λ supply v root said.
      let R : ℕ → Type 0 = λ n. IsRoot quiet [] n 1 in
      omega (arith, one_root quiet [] 0 0 1 (IsRoot.unfed 0 refl) (subst R (mentioned_quiet 0 supply v said).0 root));
  ungiven = λ inner port within root. no_port 0 inner port within;
}

pub off_or_zero_volts : AreValues quiet one_unit 0 1 (Off ∷ On 0 ∷ [])
off_or_zero_volts = record {
  rising = ((refl, tt), (tt, tt));
  each = λ v there. elim there [
    | inl e ↦ subst (HasValue quiet one_unit 0 1) (sym e) (HasValue.off 0 1 (IsRoot.unfed 1 refl))
    | inr later ↦ elim later [
      | inl e ↦ subst (HasValue quiet one_unit 0 1) (sym e) (HasValue.unstated 0 1 nothing_given)
      | inr none ↦ absurd none
    ]
  ];
  all = λ v has. elim (unstated_off_or_zero quiet one_unit 0 1 v nothing_given has) [ inl e ↦ inl e | inr e ↦ inr (inl e) ];
}
