-- What is watched on some worked crossings.
use Rattle.std.proofs.Common.{◌≡◌, true, false, [], ◌∷◌, Some, None, refl}
use Rattle.pw_defs.specs.declared.chains.Kind.TheVariants.{IsoMissing, IsoRedundant, IsoSupply, IsoIntent, LsMissing, LsRedundant, LsSupply, LsIntent, Tie}
use Rattle.pw_defs.specs.declared.conditions.Cond.TheVariants.{On, Apart, Not, All, Any}
use Rattle.pw_defs.specs.declared.intent.SupplySet.{SupplySet}
use Rattle.pw_defs.specs.declared.strategies.Act.TheVariants.{Iso, Shift}
use Rattle.pw_defs.specs.declared.strategies.Mode.TheVariants.{Plain, Force, No}
use Rattle.signoff_defs.specs.Crossings.{Crossing, PassedCell}
use Rattle.signoff_defs.specs.Watches.{watches_on, at_once, where_some, where_none}

abbrev switched : SupplySet
switched = record { power = 0; ground = Some 2 }

abbrev steady : SupplySet
steady = record { power = 1; ground = Some 2 }

abbrev bare : Crossing
bare = record { driver = switched; receiver = steady; strategies = []; tied = false; cells = [] }

pub a_bare_crossing_is_watched_for_missing_cells : watches_on bare ≡
    where_some IsoMissing (All (Not (All (On 0 ∷ On 2 ∷ [])) ∷ All (On 1 ∷ On 2 ∷ []) ∷ []))
    ∷ where_some LsMissing (All (All (On 0 ∷ On 2 ∷ []) ∷ All (On 1 ∷ On 2 ∷ []) ∷ Any (Apart 0 1 0 ∷ Apart 1 0 0 ∷ []) ∷ []))
    ∷ []
a_bare_crossing_is_watched_for_missing_cells = refl

pub forced_isolation_is_missed_at_once : watches_on (record bare { strategies = Iso Force (Some steady) ∷ Shift No true true 0 None None ∷ [] }) ≡
    at_once IsoMissing ∷ where_some LsMissing (All (All (On 0 ∷ On 2 ∷ []) ∷ All (On 1 ∷ On 2 ∷ []) ∷ Any [] ∷ [])) ∷ []
forced_isolation_is_missed_at_once = refl

-- an isolation cell of the steady set, and a shifter between the two
abbrev guard : PassedCell
guard = record { iso = true; shift = false; input = None; output = steady }

abbrev shifter : PassedCell
shifter = record { iso = false; shift = true; input = Some switched; output = steady }

pub an_isolation_cell_that_no_strategy_asks_for : watches_on (record bare { cells = guard ∷ []; strategies = Shift No true true 0 None None ∷ [] }) ≡
    where_none IsoRedundant (All (Not (All (On 0 ∷ On 2 ∷ [])) ∷ All (On 1 ∷ On 2 ∷ []) ∷ []))
    ∷ where_some IsoSupply (All (Not (All (On 1 ∷ On 2 ∷ [])) ∷ All (On 1 ∷ On 2 ∷ []) ∷ []))
    ∷ at_once IsoIntent
    ∷ where_some LsMissing (All (All (On 0 ∷ On 2 ∷ []) ∷ All (On 1 ∷ On 2 ∷ []) ∷ Any [] ∷ []))
    ∷ []
an_isolation_cell_that_no_strategy_asks_for = refl

pub a_tie_is_watched_last : watches_on
    (record bare { tied = true; cells = guard ∷ []; strategies = Iso Force None ∷ Shift Force true false 5 None None ∷ [] }) ≡
    where_some IsoSupply (All (Not (All (On 1 ∷ On 2 ∷ [])) ∷ All (On 1 ∷ On 2 ∷ []) ∷ []))
    ∷ at_once LsMissing
    ∷ at_once Tie
    ∷ []
a_tie_is_watched_last = refl

-- the sides of a shifter meet those of its neighbours within the threshold, and nothing is asked over an unstated side
pub a_shifter_is_watched_for_its_supplies : watches_on
    (record bare { cells = record shifter { input = None } ∷ []; strategies = Shift Plain true true 5 None (Some steady) ∷ [] }) ≡
    where_some IsoMissing (All (Not (All (On 0 ∷ On 2 ∷ [])) ∷ All (On 1 ∷ On 2 ∷ []) ∷ []))
    ∷ where_none LsRedundant (All (All (On 0 ∷ On 2 ∷ []) ∷ All (On 1 ∷ On 2 ∷ []) ∷ Any (Apart 0 1 5 ∷ Apart 1 0 5 ∷ []) ∷ []))
    ∷ where_some LsSupply (Any (
    All (All (On 1 ∷ On 2 ∷ []) ∷ All (On 1 ∷ On 2 ∷ []) ∷ Any (Apart 1 1 5 ∷ Apart 1 1 5 ∷ []) ∷ [])
    ∷ All (Not (All (On 1 ∷ On 2 ∷ [])) ∷ All (On 1 ∷ On 2 ∷ []) ∷ [])
    ∷ []
    ))
    ∷ []
a_shifter_is_watched_for_its_supplies = refl

pub a_shifter_of_other_sides_is_against_its_strategy : watches_on
    (record bare { cells = shifter ∷ []; strategies = Shift Force true true 0 (Some steady) None ∷ [] }) ≡
    where_some IsoMissing (All (Not (All (On 0 ∷ On 2 ∷ [])) ∷ All (On 1 ∷ On 2 ∷ []) ∷ []))
    ∷ where_some LsSupply (Any (
    All (All (On 0 ∷ On 2 ∷ []) ∷ All (On 0 ∷ On 2 ∷ []) ∷ Any (Apart 0 0 0 ∷ Apart 0 0 0 ∷ []) ∷ [])
    ∷ All (All (On 1 ∷ On 2 ∷ []) ∷ All (On 1 ∷ On 2 ∷ []) ∷ Any (Apart 1 1 0 ∷ Apart 1 1 0 ∷ []) ∷ [])
    ∷ All (Not (All (On 1 ∷ On 2 ∷ [])) ∷ All (On 1 ∷ On 2 ∷ []) ∷ [])
    ∷ []
    ))
    ∷ at_once LsIntent
    ∷ []
a_shifter_of_other_sides_is_against_its_strategy = refl
