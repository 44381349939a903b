-- What a set of a small table has in common with a set of another that begins at the second level.
use Rattle.std.proofs.Common.{◌≡◌, true, false, [], ◌∷◌, refl}
use Rattle.diagram_defs.specs.Worked.{small_table, second_is_one}
use Rattle.state_meets.specs.Common.{is_common, is_in_both}

-- the state 0 1 is in the first set, and its second value in the other
pub zero_one_is_common : is_common small_table 3 small_table second_is_one (0 ∷ 1 ∷ []) ≡ true
zero_one_is_common = refl

-- the second value of 1 1 is in the other set, but the state isn't in the first
pub one_one_is_in_one_alone : is_common small_table 3 small_table second_is_one (1 ∷ 1 ∷ []) ≡ false
one_one_is_in_one_alone = refl

-- nothing is in common with the empty set
pub nothing_with_empty : is_common small_table 3 small_table (record { level = 1; number = 0 }) (0 ∷ 1 ∷ []) ≡ false
nothing_with_empty = refl

-- before the second set begins, the value doesn't matter to it
pub first_value_is_open : is_in_both small_table small_table 1 (record { level = 0; first = 3; second = 2 }) (0 ∷ 1 ∷ []) ≡ true
first_value_is_open = refl
