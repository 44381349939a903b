-- A root on which nothing is given is off or on at 0 V, and a switch output is never such a root.
use Rattle.std.proofs.Common.{◌≡◌, ℕ, List, Some, ◌⊎◌, inl, inr, refl, ap, ◌∙◌, option_map}
use Rattle.pw_defs.specs.declared.intent.Unit.{Unit as PowerUnit}
use Rattle.pw_defs.specs.declared.supplies.Supply.{Supply}
use Rattle.pw_defs.specs.declared.supplies.SupplyKind.TheVariants.{SwitchOut}
use Rattle.pw_defs.specs.declared.values.Value.{Value}
use Rattle.pw_defs.specs.declared.values.Value.TheVariants.{Off, On}
use Rattle.supply_defs.specs.UnitViews.{kind_at, IsRootIn}
use Rattle.supply_defs.specs.Values.{IsSwitchOutput, IsMentioned, IsUnstated, HasValue}

switch_kind : (supplies : List Supply) (unit root : ℕ) → IsSwitchOutput supplies unit root → kind_at supplies root ≡ Some SwitchOut
switch_kind supplies unit root h =
    ap (option_map (λ (s : Supply). s.kind)) h.there ∙ ap Some h.kind

pub unstated_off_or_zero : (supplies : List Supply) (units : List PowerUnit) (unit root : ℕ) (value : Value)
    → IsUnstated supplies units unit root → HasValue supplies units unit root value → (value ≡ Off) ⊎ (value ≡ On 0)
unstated_off_or_zero supplies units _ _ _ nothing (HasValue.off unit root is_root) = inl refl
unstated_off_or_zero supplies units _ _ _ nothing (HasValue.mentioned unit root supply value is_root said) =
    absurd (nothing.unmentioned supply value is_root said)
unstated_off_or_zero supplies units _ _ _ nothing (HasValue.given unit root inner inner_root port value within is_root is_inner has) =
    absurd (nothing.ungiven inner port within is_root)
unstated_off_or_zero supplies units _ _ _ nothing (HasValue.switched unit root input input_root value switch named is_root has) =
    absurd (nothing.unswitched (switch_kind supplies unit root switch))
unstated_off_or_zero supplies units _ _ _ nothing (HasValue.unstated unit root none) = inr refl

-- a switch output is never on at 0 V only because nothing is given on it
pub switch_output_stated : (supplies : List Supply) (units : List PowerUnit) (unit root : ℕ) → IsSwitchOutput supplies unit root
    → ¬ IsUnstated supplies units unit root
switch_output_stated supplies units unit root switch nothing = nothing.unswitched (switch_kind supplies unit root switch)

-- where a line of the unit mentions a value on a supply of the root, nothing else is taken for granted
pub mentioned_stated : (supplies : List Supply) (units : List PowerUnit) (unit root supply : ℕ) (value : Value)
    → IsRootIn supplies units unit supply root → IsMentioned supplies unit supply value → ¬ IsUnstated supplies units unit root
mentioned_stated supplies units unit root supply value is_root said nothing = nothing.unmentioned supply value is_root said
