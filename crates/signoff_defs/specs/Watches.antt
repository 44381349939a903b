-- What is watched on a crossing: the table of kinds.
use Rattle.std.specs.Prelude.{ℕ, Bool, true, false, not, ◌&&◌, List, [], ◌∷◌, ◌++◌, Option, Some, None, option_map, if◌then◌else◌}
use Rattle.std.specs.List.{list_any, filter_map}
use Rattle.std.specs.Option.{option_or}
use Rattle.pw_defs.specs.declared.chains.Kind.{Kind}
use Rattle.pw_defs.specs.declared.chains.Kind.TheVariants.{IsoMissing, IsoRedundant, IsoSupply, IsoIntent, LsMissing, LsRedundant, LsSupply, LsIntent, Tie}
use Rattle.pw_defs.specs.declared.chains.Sense.TheVariants.{WhenSome, WhenNone, Always}
use Rattle.pw_defs.specs.declared.chains.Watch.{Watch}
use Rattle.pw_defs.specs.declared.conditions.Cond.{Cond}
use Rattle.pw_defs.specs.declared.conditions.Cond.TheVariants.{True, Any}
use Rattle.pw_defs.specs.declared.intent.SupplySet.{SupplySet}
use Rattle.pw_defs.specs.declared.strategies.Act.{Act}
use Rattle.pw_defs.specs.declared.strategies.Act.TheVariants.{Iso, Shift}
use Rattle.domain_defs.specs.Precedence.{same_set}
use Rattle.domain_defs.specs.Sets.{isolates, shifts}
use Rattle.signoff_defs.specs.Crossings.{Crossing, PassedCell, forces_isolation, forces_shifting}
use Rattle.signoff_defs.specs.Needs.{off_while_on, are_apart, isolation_need, shifting_need, threshold}

-- ---- cells on the way

-- whether an isolation cell is on the way
abbrev pub is_isolated : Crossing → Bool
is_isolated c = list_any (λ cell. cell.iso) c.cells

-- whether a level shifter is on the way
abbrev pub is_shifted : Crossing → Bool
is_shifted c = list_any (λ cell. cell.shift) c.cells

-- the set of the last isolation cell
abbrev pub last_isolation : List PassedCell → Option SupplySet
last_isolation [] = None
last_isolation (cell ∷ cells) = option_or (last_isolation cells) (if cell.iso then Some cell.output else None)

-- The set of a cell's side that faces the driver. An isolation cell that isn't a shifter has one set on both sides.
abbrev pub input_side : PassedCell → Option SupplySet
input_side cell = if cell.shift then cell.input else Some cell.output

-- ---- cells against their strategies

-- what isn't stated equals any set
abbrev pub may_be : Option SupplySet → Option SupplySet → Bool
may_be None b = true
may_be (Some a) None = true
may_be (Some a) (Some b) = same_set a b

-- an isolating strategy whose supply is the set of the cell
abbrev pub supplies : PassedCell → Act → Bool
supplies cell (Iso mode supply) = isolates (Iso mode supply) && may_be supply (Some cell.output)
supplies cell (Shift mode up down threshold input output) = false

-- a shifting strategy whose sides are those of the cell
abbrev pub joins_sides : PassedCell → Act → Bool
joins_sides cell (Iso mode supply) = false
joins_sides cell (Shift mode up down threshold input output) = shifts (Shift mode up down threshold input output) && may_be input
    (input_side cell) && may_be output (Some cell.output)

-- an isolation cell whose set is the supply of no isolating strategy
abbrev pub is_unasked_isolation : Crossing → PassedCell → Bool
is_unasked_isolation c cell = cell.iso && not (list_any (supplies cell) c.strategies)

-- a shifter whose sides are those of no shifting strategy
abbrev pub is_unasked_shifter : Crossing → PassedCell → Bool
is_unasked_shifter c cell = cell.shift && not (list_any (joins_sides cell) c.strategies)

-- ---- supplies along the way

-- two neighbours whose facing sides are both stated are on and apart either way
abbrev pub between : ℕ → Option SupplySet → Option SupplySet → List Cond
between above None b = []
between above (Some a) None = []
between above (Some a) (Some b) = are_apart above a b ∷ []

-- for each two neighbours in driver, cells and receiver, from the driver on
abbrev pub neighbours_apart : ℕ → SupplySet → List PassedCell → SupplySet → List Cond
neighbours_apart above side [] receiver = between above (Some side) (Some receiver)
neighbours_apart above side (cell ∷ cells) receiver = between above (Some side) (input_side cell) ++ neighbours_apart above cell.output cells receiver

-- for each shifter with no isolation cell behind it: its output is off while the receiver is on
abbrev pub shifters_unsupplied : List PassedCell → SupplySet → List Cond
shifters_unsupplied [] receiver = []
shifters_unsupplied (cell ∷ cells) receiver =
    (if cell.shift && not (list_any (λ later. later.iso) cells) then off_while_on cell.output receiver ∷ [] else [])
    ++ shifters_unsupplied cells receiver

-- a shifter's supplies don't fit
abbrev pub shifting_unsupplied : Crossing → Cond
shifting_unsupplied c = Any (neighbours_apart (threshold c) c.driver c.cells c.receiver ++ shifters_unsupplied c.cells c.receiver)

-- ---- the table of kinds

-- whether a strategy forces isolation, and whether one forces shifting
abbrev pub isolation_forced : Crossing → Bool
isolation_forced c = list_any forces_isolation c.strategies

abbrev pub shifting_forced : Crossing → Bool
shifting_forced c = list_any forces_shifting c.strategies

-- a watch that is raised at once
abbrev pub at_once : Kind → Watch
at_once kind = record { kind = kind; sense = Always; cond = True }

-- a watch that is raised where some legal state shows its condition
abbrev pub where_some : Kind → Cond → Watch
where_some kind cond = record { kind = kind; sense = WhenSome; cond = cond }

-- a watch that is raised where no legal state shows its condition
abbrev pub where_none : Kind → Cond → Watch
where_none kind cond = record { kind = kind; sense = WhenNone; cond = cond }

abbrev pub watched_if : Bool → Watch → Option Watch
watched_if true watch = Some watch
watched_if false watch = None

-- Each kind, in order, with what is watched for it on a crossing, if anything is.
abbrev pub kinds_on : Crossing → List (Option Watch)
kinds_on c =
    watched_if (not (is_isolated c)) (if isolation_forced c then at_once IsoMissing else where_some IsoMissing (isolation_need c))
    ∷ watched_if (is_isolated c && not (isolation_forced c)) (where_none IsoRedundant (isolation_need c))
    ∷ option_map (λ set. where_some IsoSupply (off_while_on set c.receiver)) (last_isolation c.cells)
    ∷ watched_if (list_any (is_unasked_isolation c) c.cells) (at_once IsoIntent)
    ∷ watched_if (not (is_shifted c)) (if shifting_forced c then at_once LsMissing else where_some LsMissing (shifting_need c))
    ∷ watched_if (is_shifted c && not (shifting_forced c)) (where_none LsRedundant (shifting_need c))
    ∷ watched_if (is_shifted c) (where_some LsSupply (shifting_unsupplied c))
    ∷ watched_if (list_any (is_unasked_shifter c) c.cells) (at_once LsIntent)
    ∷ watched_if c.tied (at_once Tie)
    ∷ []

-- what is watched on a crossing, in order of the kinds
abbrev pub watches_on : Crossing → List Watch
watches_on c = filter_map (λ watch. watch) (kinds_on c)
