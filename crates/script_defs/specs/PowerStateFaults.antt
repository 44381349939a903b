-- The faults of `add_power_state` beyond names: expressions that don't count, states that aren't there, and states that
-- contradict what was said of them.
use Rattle.std.specs.Prelude.{ℕ, Bool, true, false, ◌||◌, List, [], ◌∷◌, ◌++◌, Option, unwrap_or, is_none, option_to_list, map, codes, if◌then◌else◌}
use Rattle.std.specs.List.{list_any, filter_map, flat_map, scan}
use Rattle.script_defs.specs.Statements.{Statement, StateOption}
use Rattle.script_defs.specs.World.{PowerState, Frame, World}
use Rattle.script_defs.specs.LookUps.{body_named, is_set}
use Rattle.script_defs.specs.Merging.{Contradiction}
use Rattle.script_defs.specs.PowerStateSteps.{Described, described_worlds, described_object, with_bare_state, after_described, states_at, state_named, has_state, with_option, new_state, named_by, expression_of, counting_term, has_deep_state}

-- whether the object of a line is a set
abbrev pub is_of_set : World → Frame → Statement → Bool
is_of_set w f s = is_set (body_named w (described_object w f s))

-- An expression is no term where none reads so, or where it is on supplies and the object is no set.
abbrev pub is_no_term : Bool → StateOption → Bool
is_no_term true (StateOption.supply_expr term) = is_none term
is_no_term false (StateOption.supply_expr term) = true
is_no_term false (StateOption.logic_expr term) = is_none term
is_no_term _ _ = false

-- whether a state is described by what is no term, or nests too deep or in a ring once it is there
abbrev pub has_bad_term : World → Frame → Statement → World × Described → Bool
has_bad_term w f s e = list_any (is_no_term (is_of_set w f s)) e.1.1 || has_deep_state (after_described f s e.0 e.1)

-- the states that a described state names and that aren't there; the state itself is there before its expressions are read
abbrev pub absent_states : World → Frame → Statement → World × Described → List (List ℕ)
absent_states w f s e =
    let v = with_bare_state f s e.0 e.1 in
    flat_map
    (λ term. flat_map (λ (p : List ℕ × List ℕ). if has_state v p.0 p.1 then [] else p.1 ∷ []) (named_by v (expression_of f s term)))
    (filter_map (counting_term (is_of_set w f s)) e.1.1)

abbrev pub said_at : List ℕ → Option ℕ → List Contradiction
said_at option line = map (λ n. record { option = option; first_line = n }) (option_to_list line)

-- a mark that contradicts one that the state has
abbrev pub mark_against : PowerState → StateOption → List Contradiction
mark_against st StateOption.legal = said_at (codes "-legal") st.illegal
mark_against st StateOption.illegal = said_at (codes "-illegal") st.legal
mark_against st _ = []

-- the marks of a described state that contradict those before them
abbrev pub marks_against : World → Frame → Statement → World × Described → List Contradiction
marks_against w f s e =
    flat_map (λ (p : PowerState × StateOption). mark_against p.0 p.1)
    (scan (with_option f s (is_of_set w f s)) (λ st option. (st, option)) (unwrap_or (state_named (states_at e.0 (described_object e.0 f s)) e.1.0)
    (new_state s e.1.0)) e.1.1)

-- a new state of an object that is complete
abbrev pub new_on_complete : World → Frame → Statement → World × Described → List Contradiction
new_on_complete w f s e =
    if has_state e.0 (described_object e.0 f s) e.1.0 then [] else said_at (codes "-complete") (states_at e.0 (described_object e.0 f s)).complete

-- U8: once for each described state with a bad term
abbrev pub bad_terms : World → Frame → Statement → List (List ℕ)
bad_terms w f s = flat_map (λ (e : World × Described). if has_bad_term w f s e then codes "-" ∷ [] else []) (described_worlds w f s)

-- U9: the states that aren't there
abbrev pub unknown_states : World → Frame → Statement → List (List ℕ)
unknown_states w f s = flat_map (absent_states w f s) (described_worlds w f s)

-- U13: what contradicts earlier lines or options
abbrev pub state_contradictions : World → Frame → Statement → List Contradiction
state_contradictions w f s = flat_map (λ (e : World × Described). new_on_complete w f s e ++ marks_against w f s e) (described_worlds w f s)
