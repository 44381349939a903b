-- Tests of the values at one or two levels.
use Rattle.std.specs.Prelude.{ℕ, ◌-◌, Bool, ◌&&◌, List, drop, slice_index, slice_index_or}
use Rattle.pw_defs.specs.declared.values.Value.{Value}
use Rattle.pw_defs.specs.declared.values.Value.TheVariants.{Off}
use Rattle.pw_defs.specs.Values.{is_on, same_value, exceeds}
use Rattle.diagram_defs.specs.Rests.{is_rest}
use Rattle.state_build.specs.declared.levels.Side.{Side}
use Rattle.state_build.specs.declared.levels.Side.TheVariants.{Above, Below}
use Rattle.state_build.specs.declared.levels.ValueTest.{ValueTest}
use Rattle.state_build.specs.declared.levels.ValueTest.TheVariants.{Is, On, Far}
use Rattle.state_build.specs.Built.{value_at, value_of}

-- whether both values are on, and the second is on that side of the first by more than so much
abbrev pub is_far : Side → Value → ℕ → Value → Bool
is_far Above from by value = exceeds from value by
is_far Below from by value = exceeds value from by

-- whether a value passes a test
abbrev pub passes : ValueTest → Value → Bool
passes (Is wanted) value = same_value value wanted
passes On value = is_on value
passes (Far side from by) value = is_far side from by value

-- all rests of a level, or none
abbrev pub guarded_set : List ℕ → ℕ → Bool → List ℕ → Bool
guarded_set arities level some rest = is_rest (drop level arities) rest && some

-- the rests of a level whose first value passes
abbrev pub chosen_set : List ℕ → ℕ → List Value → ValueTest → List ℕ → Bool
chosen_set arities level values test rest =
    is_rest (drop level arities) rest && passes test (slice_index_or values (slice_index rest 0) Off)

-- the whole states whose value at a level passes
abbrev pub value_set : List ℕ → List (List Value) → ℕ → ValueTest → List ℕ → Bool
value_set arities lists level test state = is_rest arities state && passes test (value_of lists state level)

-- the rests of a level whose value at a later level passes
abbrev pub passing_set : List ℕ → ℕ → ℕ → List Value → ValueTest → List ℕ → Bool
passing_set arities level at values test rest =
    is_rest (drop level arities) rest && passes test (slice_index_or values (slice_index rest (at - level)) Off)

-- the rests of a level whose value at a later level is far from the first one
abbrev pub pair_set : List ℕ → List (List Value) → ℕ → ℕ → Side → ℕ → List ℕ → Bool
pair_set arities lists level at side by rest =
    is_rest (drop level arities) rest && is_far side (value_at lists level (slice_index rest 0)) by (value_at lists at (slice_index rest (at - level)))

-- the whole states whose value at the second level is far from that at the first
abbrev pub apart_set : List ℕ → List (List Value) → ℕ → ℕ → Side → ℕ → List ℕ → Bool
apart_set arities lists first second side by state =
    is_rest arities state && is_far side (value_of lists state first) by (value_of lists state second)
