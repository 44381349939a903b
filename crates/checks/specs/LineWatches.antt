-- What is watched on a chain where there are no strategies: whether isolation is missing.
use Rattle.std.specs.Prelude.{ℕ, List, [], ◌∷◌, Option, Some, None, option_map, option_and_then, slice_get}
use Rattle.pw_defs.specs.declared.conditions.Cond.{Cond}
use Rattle.pw_defs.specs.declared.conditions.Cond.TheVariants.{On, Not, All}
use Rattle.pw_defs.specs.declared.intent.Intent.{Intent}
use Rattle.pw_defs.specs.declared.intent.SupplySet.{SupplySet}
use Rattle.checks.specs.LineChains.{Ends}

-- a set is on where its power is on and its ground, if it has one, is on
abbrev pub on_if_any : Option ℕ → List Cond
on_if_any None = []
on_if_any (Some supply) = On supply ∷ []

abbrev pub set_on : SupplySet → Cond
set_on s = All (On s.power ∷ on_if_any s.ground)

abbrev pub set_off : SupplySet → Cond
set_off s = Not (set_on s)

-- Isolation is missing where the driver's set may be off while the receiver's is on.
abbrev pub isolation_missing : SupplySet → SupplySet → Cond
isolation_missing driver receiver = All (set_off driver ∷ set_on receiver ∷ [])

-- The set of a leaf cell, or of a port of the top: the primary set of its domain, where no strategy or line gives
-- another one.
abbrev pub set_of : Intent → ℕ → Option SupplySet
set_of i inst = option_and_then (λ domain. option_map (λ d. d.primary) (slice_get i.domains domain)) (slice_get i.domain_of inst)

-- what is watched on a chain
abbrev pub watched : Intent → Ends → Option Cond
watched i c = option_and_then (λ driver. option_map (isolation_missing driver) (set_of i c.receiver.inst)) (set_of i c.driver.inst)
