-- States of indices, read as values.
use Rattle.std.specs.Prelude.{◌≡◌, ℕ, true, List, [], ◌∷◌, map, slice_index_or}
use Rattle.pw_defs.specs.declared.values.Value.{Value}
use Rattle.pw_defs.specs.declared.values.Value.TheVariants.{Off}
use Rattle.pw_defs.specs.declared.conditions.Cond.{Cond}
use Rattle.pw_defs.specs.Values.{state_cmp as values_cmp}
use Rattle.list_defs.specs.Members.{IsIn}
use Rattle.list_defs.specs.Orders.{IsLeast}
use Rattle.supply_defs.specs.States.{legal_states}
use Rattle.diagram_defs.specs.Diagrams.{Diagram, member, rests_in}
use Rattle.diagram_defs.specs.States.{state_cmp}

-- the values that the indices of a state stand for
abbrev pub values_read : List (List Value) → List ℕ → List Value
values_read [] state = []
values_read (values ∷ lists) [] = []
values_read (values ∷ lists) (index ∷ state) = slice_index_or values index Off ∷ values_read lists state

-- the states of a number, read as values, are the legal states, in the same order
abbrev pub ListsLegal : Diagram → List (List Value) → List Cond → ℕ → Type 0
ListsLegal d lists conds n = map (values_read lists) (rests_in d 0 n) ≡ legal_states lists conds

-- its least state, read as values, is the least legal one
abbrev pub LeastIsLeastLegal : Diagram → List (List Value) → List Cond → ℕ → Type 0
LeastIsLeastLegal d lists conds n =
    (state : List ℕ) → IsLeast state_cmp (λ s. member d.nodes n s ≡ true) state → IsLeast values_cmp (λ values. IsIn values (legal_states lists conds)) (values_read lists state)
