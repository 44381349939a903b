-- Values across the border of a soft macro, and the list that stands for the whole job.
use Rattle.std.proofs.Common.{◌≡◌, ℕ, zero, suc, List, [], ◌∷◌, Some, ap, slice_get, inl, inr, ◌⊎◌, refl, sym, subst, arith}
use Rattle.pw_defs.specs.declared.intent.RootList.{RootList}
use Rattle.pw_defs.specs.declared.intent.Unit.{Unit as PowerUnit}
use Rattle.pw_defs.specs.declared.supplies.Said.{Said}
use Rattle.pw_defs.specs.declared.values.Value.{Value}
use Rattle.pw_defs.specs.declared.values.Value.TheVariants.{Off, On}
use Rattle.supply_defs.specs.Network.{IsRoot}
use Rattle.supply_defs.specs.UnitLists.{IsSeen, IsSeenRoot, IsAtOrInside, IsJobList}
use Rattle.supply_defs.specs.Values.{HasValue, IsMentioned, IsPortWithin, IsSwitchOutput, IsUnstated}
use Rattle.supply_defs.proofs.UnstatedRoots.{mentioned_stated}
use Rattle.supply_defs.proofs.WorkedNetworks.{two_units, with_macro}
use Rattle.supply_defs.proofs.WorkedRoots.{port_from_inside, port_from_outside}

macro : PowerUnit
macro = record { inst = 1; outer = Some 0; passed = 0; ports = 1 ∷ 2 ∷ []; exports = [] }

-- the macro's port stands within the top
pub port_within : IsPortWithin two_units 0 1 1
unfolding macro
port_within = record { macro = macro; there = refl; outer = refl; listed = inl refl }

-- inside the macro its port may be at 0.9 V, as a line of the macro says
pub said_inside : HasValue with_macro two_units 1 1 (On 900000)
said_inside = HasValue.mentioned 1 1 1 (On 900000) port_from_inside (inl refl)

-- so the net outside may be at 0.9 V, and also at 0.8 V, as a line of the top says
pub given_outside : HasValue with_macro two_units 0 0 (On 900000)
given_outside = HasValue.given 0 0 1 1 1 (On 900000) port_within port_from_outside port_from_inside said_inside

pub said_outside : HasValue with_macro two_units 0 0 (On 800000)
said_outside = HasValue.mentioned 0 0 0 (On 800000) (IsRoot.unfed 0 refl) (inl refl)

-- what is mentioned: 0.8 V in the top, 0.9 V in the macro
mentioned_inside : (supply : ℕ) (v : Value) → IsMentioned with_macro 1 supply v → v ≡ On 900000
mentioned_inside zero v h = elim h [ inl same ↦ absurd (omega (arith, ap (λ (s : Said). s.unit) same)) | inr none ↦ absurd none ]
mentioned_inside (suc zero) v h = elim h [ inl same ↦ ap (λ (s : Said). s.value) same | inr none ↦ absurd none ]
mentioned_inside (suc (suc zero)) v h = absurd h
mentioned_inside (suc (suc (suc n))) v h = absurd h

no_inner : (inner port : ℕ) → ¬ IsPortWithin two_units 1 inner port
no_inner inner port h = by inner h.macro h.there h.outer
  where
    by : (n : ℕ) (m : PowerUnit) → slice_get two_units n ≡ Some m → m.outer ≡ Some 1 → ⊥
    by zero m there outer = cc
    by (suc zero) m there outer = cc
    by (suc (suc n)) m there outer = cc

no_switch : (unit n : ℕ) → ¬ IsSwitchOutput with_macro unit n
no_switch unit zero h = let there = h.there in let kind = h.kind in cc
no_switch unit (suc zero) h = let there = h.there in let kind = h.kind in cc
no_switch unit (suc (suc zero)) h = let there = h.there in let kind = h.kind in cc
no_switch unit (suc (suc (suc n))) h = let there = h.there in cc

-- what the top's lines say of the net is no value inside the macro
inside_alone : (unit root : ℕ) (v : Value) → HasValue with_macro two_units unit root v → unit ≡ 1 → root ≡ 1 → (v ≡ Off) ⊎ (v ≡ On 900000)
inside_alone _ _ _ (HasValue.off unit root is) here at = inl refl
inside_alone _ _ _ (HasValue.mentioned unit root supply v is said) here at =
    let M : ℕ → Type 0 = λ n. IsMentioned with_macro n supply v in
    inr (mentioned_inside supply v (subst M here said))
inside_alone _ _ _ (HasValue.given unit root inner inner_root port v within is is' has) here at =
    let W : ℕ → Type 0 = λ n. IsPortWithin two_units n inner port in
    absurd (no_inner inner port (subst W here within))
inside_alone _ _ _ (HasValue.switched unit root input other v switch named is has) here at = absurd (no_switch unit root switch)
inside_alone _ _ _ (HasValue.unstated unit root nothing) here at =
    let U : ℕ → Type 0 = λ n. IsUnstated with_macro two_units 1 n in
    let V : ℕ → Type 0 = λ n. IsUnstated with_macro two_units n root in
    absurd (mentioned_stated with_macro two_units 1 1 1 (On 900000) port_from_inside (inl refl) (subst U at (subst V here nothing)))

abbrev volts : Value → ℕ
volts Off = 0
volts (On v) = v

pub not_said_inside : ¬ HasValue with_macro two_units 1 1 (On 800000)
not_said_inside has = elim (inside_alone 1 1 (On 800000) has refl refl) [ inl e ↦ cc | inr e ↦ omega (arith, ap volts e) ]

-- the lists of the job: the net as the top sees it, and the port as the macro does
abbrev lists : List RootList
lists = record { unit = 0; root = 0; values = Off ∷ On 800000 ∷ On 900000 ∷ [] } ∷ record { unit = 1; root = 1; values = Off ∷ On 900000 ∷ [] } ∷ []

-- the top sees the macro's port, and its root there is the net
pub top_sees_port : IsSeenRoot with_macro two_units 0 0
top_sees_port = record { supply = 1; seen = IsSeen.port 1 port_within; is_root = port_from_outside }

-- in the whole job the net has the values that it has in the top
pub job_list_of_net : IsJobList two_units lists 0 (record { unit = 0; root = 0; values = Off ∷ On 800000 ∷ On 900000 ∷ [] })
job_list_of_net = record {
  listed = inl refl;
  of_root = refl;
  outermost = λ other there root. elim there [
    | inl same ↦ by other.unit (ap (λ (l : RootList). l.unit) same)
    | inr later ↦ elim later [ inl same ↦ absurd (omega (arith, root, ap (λ (l : RootList). l.root) same)) | inr none ↦ absurd none ]
  ];
}
  where
    by : (unit : ℕ) → unit ≡ 0 → IsAtOrInside two_units unit 0
    by unit same = let A : ℕ → Type 0 = λ n. IsAtOrInside two_units n 0 in subst A (sym same) (IsAtOrInside.at 0)
