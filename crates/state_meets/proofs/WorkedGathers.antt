-- What is gathered from two sets of a small table.
use Rattle.std.proofs.Common.{◌≡◌, true, false, [], ◌∷◌, refl}
use Rattle.diagram_defs.specs.declared.quantifiers.Quantifier.TheVariants as which
use Rattle.diagram_defs.specs.Worked.{small_table, second_is_one}
use Rattle.state_meets.specs.Gathered.{gathered_set}
use Rattle.state_meets.specs.Walks.{numbers_behind}

-- the sets are the state 0 1 alone, and the states whose second value is 1
pub all_have_zero_one : gathered_set small_table which.All (record { level = 0; number = 3 } ∷ second_is_one ∷ []) (0 ∷ 1 ∷ []) ≡ true
all_have_zero_one = refl

pub not_all_have_one_one : gathered_set small_table which.All (record { level = 0; number = 3 } ∷ second_is_one ∷ []) (1 ∷ 1 ∷ []) ≡ false
not_all_have_one_one = refl

pub some_has_one_one : gathered_set small_table which.Any (record { level = 0; number = 3 } ∷ second_is_one ∷ []) (1 ∷ 1 ∷ []) ≡ true
some_has_one_one = refl

pub none_has_zero_zero : gathered_set small_table which.Any (record { level = 0; number = 3 } ∷ second_is_one ∷ []) (0 ∷ 0 ∷ []) ≡ false
none_has_zero_zero = refl

-- no sets: all states are in all of them, and none in any
pub all_of_nothing : gathered_set small_table which.All [] (1 ∷ 0 ∷ []) ≡ true
all_of_nothing = refl

pub any_of_nothing : gathered_set small_table which.Any [] (1 ∷ 0 ∷ []) ≡ false
any_of_nothing = refl

-- behind the value 0 stands the child of the first set, and the second set begins
pub numbers_behind_zero : numbers_behind small_table.nodes ((3 ∷ []) ∷ (2 ∷ []) ∷ [] ∷ []) 0 (3 ∷ []) 0 ≡ 2 ∷ 2 ∷ []
numbers_behind_zero = refl
