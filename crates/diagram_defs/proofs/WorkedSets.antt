-- What the numbers of a small table mean.
use Rattle.std.proofs.Common.{◌≡◌, true, false, [], ◌∷◌, refl, arith}
use Rattle.std.specs.declared.cmp.Ordering.TheVariants.{Less}
use Rattle.std.proofs.lemmas.Bool.{false≢true}
use Rattle.diagram_defs.specs.declared.quantifiers.Quantifier.TheVariants as which
use Rattle.diagram_defs.specs.Diagrams.{IsSet, member, rests_in}
use Rattle.diagram_defs.specs.Diagrams.IsKid.{node}
use Rattle.diagram_defs.specs.Locals.{IsLocal, states_of}
use Rattle.diagram_defs.specs.Parts.{IsPartOf}
use Rattle.diagram_defs.specs.Quantified.{quantified}
use Rattle.diagram_defs.specs.States.{state_cmp}
use Rattle.diagram_defs.specs.Worked.{small_table, second_is_one}

-- number 3 has the state 0 1 alone
pub state_is_in : member small_table.nodes 3 (0 ∷ 1 ∷ []) ≡ true
state_is_in = refl

pub other_state_is_out : member small_table.nodes 3 (1 ∷ 1 ∷ []) ≡ false
other_state_is_out = refl

pub front_is_no_state : member small_table.nodes 3 (0 ∷ []) ≡ false
front_is_no_state = refl

pub states_as_list : rests_in small_table 0 3 ≡ (0 ∷ 1 ∷ []) ∷ []
states_as_list = refl

-- it is a number of the first level
pub number_of_first_level : IsSet small_table 0 3
number_of_first_level = node 1 (record { level = 0; kids = 2 ∷ 0 ∷ [] }) refl (omega arith) refl refl

-- what stands behind 0 is a part of it, and what stands behind 1, which is empty, is none
pub part_behind_zero : IsPartOf 2 0 (member small_table.nodes 3) 1 (member small_table.nodes 2)
part_behind_zero = record { front = 0 ∷ []; at = refl; level_in = omega arith; same = λ rest. refl; some = (1 ∷ [], refl) }

pub empty_is_no_part : IsPartOf 2 0 (member small_table.nodes 3) 1 (λ rest. false) → ⊥
empty_is_no_part part = false≢true part.some.1

-- a set from a level on has any values before
pub local_has_any_first : quantified which.All (states_of small_table second_is_one) ((0 ∷ 1 ∷ []) ∷ (1 ∷ 1 ∷ []) ∷ []) ≡ true
local_has_any_first = refl

pub local_needs_its_value : quantified which.Any (states_of small_table second_is_one) ((0 ∷ 0 ∷ []) ∷ (1 ∷ 0 ∷ []) ∷ []) ≡ false
local_needs_its_value = refl

pub local_of_the_table : IsLocal small_table second_is_one
local_of_the_table = record { level_in = omega arith; number_in = node 0 (record { level = 1; kids = 0 ∷ 1 ∷ [] }) refl (omega arith) refl refl }

-- states come in the order of their first values
pub first_value_decides : state_cmp (0 ∷ 1 ∷ []) (1 ∷ 0 ∷ []) ≡ Less
first_value_decides = refl
