-- The list of legal states has the legal states and nothing else.
use Rattle.std.proofs.Common.{◌↔◌, List, [], ◌∷◌, map, inl, inr, refl, subst, sym}
use Rattle.std.specs.List.{AllZip}
use Rattle.pw_defs.specs.declared.values.Value.{Value}
use Rattle.pw_defs.specs.declared.conditions.Cond.{Cond}
use Rattle.list_defs.specs.Members.{IsIn}
use Rattle.list_defs.proofs.Members.{IsIn-filter, IsIn-filter_from, IsIn-flat_map, IsIn-flat_map_from, IsIn-map, IsIn-map_from}
use Rattle.supply_defs.specs.States.{IsLegal, all_states, legal_states, meets}

-- the states that begin with a value
block : List (List Value) → Value → List (List Value)
block lists v = map (λ rest. v ∷ rest) (all_states lists)

pub in_all_states : (lists : List (List Value)) (state : List Value) → AllZip IsIn state lists → IsIn state (all_states lists)
unfolding block
in_all_states [] [] h = inl refl
in_all_states [] (v ∷ state) h = absurd h
in_all_states (values ∷ lists) [] h = absurd h
in_all_states (values ∷ lists) (v ∷ state) h =
    IsIn-flat_map (block lists) v values (v ∷ state) h.0 (IsIn-map (λ rest. v ∷ rest) state (all_states lists) (in_all_states lists state h.1))

pub from_all_states : (lists : List (List Value)) (state : List Value) → IsIn state (all_states lists) → AllZip IsIn state lists
unfolding block
from_all_states [] state h = elim h [ inl e ↦ subst (λ (s : List Value). AllZip IsIn s []) (sym e) tt | inr none ↦ absurd none ]
from_all_states (values ∷ lists) state h =
    let first = IsIn-flat_map_from (block lists) values state h in
    let rest = IsIn-map_from (λ (rest : List Value). first.0 ∷ rest) state (all_states lists) first.2 in
    subst (λ (s : List Value). AllZip IsIn s (values ∷ lists)) (sym rest.2) (first.1, from_all_states lists rest.0 rest.1)

pub in_legal_states : (lists : List (List Value)) (conds : List Cond) (state : List Value) → IsIn state (legal_states lists conds) ↔ IsLegal lists conds state
in_legal_states lists conds state = (
  λ there. (let found = IsIn-filter_from (meets conds) state (all_states lists) there in (from_all_states lists state found.0, found.1)),
  λ legal. IsIn-filter (meets conds) state (all_states lists) (in_all_states lists state legal.0) legal.1,
)
