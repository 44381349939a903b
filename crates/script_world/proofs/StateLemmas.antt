-- States found by name, and states of which one is changed.
use Rattle.std.proofs.Common.{◌≡◌, ℕ, Bool, true, false, cond, ◌||◌, List, [], ◌∷◌, ◌++◌, Option, Some, None, is_some, option_map, option_and_then, slice_get, set, find, map, if◌then◌else◌, refl, sym, ap, ◌∙◌}
use Rattle.std.specs.Prelude.{Err, Ok, OnErr, Result}
use Rattle.std.specs.List.{All, list_any}
use Rattle.std.proofs.lemmas.List.{map-append}
use Rattle.std.proofs.lemmas.List.Elements.{All-same}
use Rattle.std.proofs.lemmas.Option.{slice_get-map}
use Rattle.std.proofs.lemmas.Simd.{map-map}
use Rattle.list_defs.specs.Members.{all_differ, place_of, same_name}
use Rattle.list_defs.proofs.NameLemmas.{is_some-place_of, place_of-map}
use Rattle.named_rows.specs.Rows.{names_in, rows_in, with_row}
use Rattle.named_rows.proofs.PlaceLemmas.{All-with_row, changed_at, find-place_of, map-with_row, row_at, row_holds}
use Rattle.script_defs.specs.PowerStateSteps.{changed, new_state, with_named}
use Rattle.script_defs.specs.Statements.{Statement}
use Rattle.script_defs.specs.World.{PowerState, PowerStates as MadeStates}
use Rattle.script_world.specs.declared.states.PowerStates.{PowerStates}
use Rattle.script_world.specs.declared.states.StateRow.{StateRow}
use Rattle.script_world.specs.Ranges.{AreStates, IsExpression, IsState}
use Rattle.script_world.specs.Seen.{rows_of, state_seen, states_seen}

-- what holds, holds of an error
pub on_err : {X E : Type 0} (r : Result X E) (A : Type 0) → A → OnErr r A
on_err (Ok x) A a = tt
on_err (Err e) A a = a

abbrev is_named : List ℕ → PowerState → Bool
is_named name st = same_name name st.name

-- the place of a name is that of the state
pub place_seen : (places : List (List ℕ)) (name : List ℕ) (rows : List (List ℕ × StateRow))
    → place_of (same_name name) (names_in rows) ≡ place_of (is_named name) (map (state_seen places) rows)
place_seen places name rows =
    place_of-map (λ (p : List ℕ × StateRow). p.0) (same_name name) rows ∙ sym (place_of-map (state_seen places) (is_named name) rows)

pub state_found : (places : List (List ℕ)) (name : List ℕ) (rows : List (List ℕ × StateRow)) (place : Option ℕ) → place ≡ place_of (same_name name) (names_in rows)
    → option_and_then (slice_get (map (state_seen places) rows)) place ≡ find (is_named name) (map (state_seen places) rows)
state_found places name rows place e =
    ap (option_and_then (slice_get (map (state_seen places) rows))) (e ∙ place_seen places name rows) ∙ find-place_of (is_named name) (map (state_seen places) rows)

pub is_some-find : {X : Type 0} (test : X → Bool) (xs : List X) → is_some (find test xs) ≡ list_any test xs
is_some-find test [] = refl
is_some-find test (x ∷ xs) = by (test x) (is_some-find test xs)
  where
    by : (b : Bool) → is_some (find test xs) ≡ list_any test xs → is_some (cond b (Some x) (find test xs)) ≡ (b || list_any test xs)
    by true e = refl
    by false e = e

-- whether there is a state of a name
has_named : (places : List (List ℕ)) (name : List ℕ) (rows : List (List ℕ × StateRow)) (place : Option ℕ) → place_of (same_name name) (names_in rows) ≡ place
    → is_some (find (is_named name) (map (state_seen places) rows)) ≡ is_some place
has_named places name rows place e =
    is_some-find (is_named name) (map (state_seen places) rows) ∙ sym (is_some-place_of (is_named name) (map (state_seen places) rows))
    ∙ ap is_some (sym (place_seen places name rows) ∙ e)

-- a state of a name that is there
pub named_known : (places : List (List ℕ)) (s : Statement) (states : PowerStates) (name : List ℕ) (at : ℕ)
    → place_of (same_name name) (names_in (rows_of states)) ≡ Some at → states_seen places states ≡ with_named s (states_seen places states) name
named_known places s states name at e =
    let seen : MadeStates = states_seen places states in
    ap (λ b. if b then seen else record seen { states = seen.states ++ new_state s name ∷ [] }) (sym (has_named places name (rows_of states) (Some at) e))

-- a new one
pub named_new : (places : List (List ℕ)) (s : Statement) (old new : PowerStates) (name : List ℕ) (row : StateRow)
    → place_of (same_name name) (names_in (rows_of old)) ≡ None → rows_of new ≡ rows_of old ++ (name, row) ∷ [] → new.complete ≡ old.complete
    → state_seen places (name, row) ≡ new_state s name → states_seen places new ≡ with_named s (states_seen places old) name
named_new places s old new name row none more complete fresh =
    let seen : MadeStates = states_seen places old in
    let F : List PowerState → Option ℕ → MadeStates = λ states line. record { states = states; complete = line } in
    let grown : map (state_seen places) (rows_of new) ≡ seen.states ++ new_state s name ∷ [] =
    ap (map (state_seen places)) more ∙ map-append (state_seen places) (rows_of old) ((name, row) ∷ []) ∙ ap (λ st. seen.states ++ st ∷ []) fresh in
    ap (λ states. F states new.complete) grown ∙ ap (F (seen.states ++ new_state s name ∷ [])) complete
    ∙ ap (λ b. if b then seen else record seen { states = seen.states ++ new_state s name ∷ [] }) (sym (has_named places name (rows_of old) None none))

-- one that is changed at its place
pub state_changed : (places : List (List ℕ)) (change : PowerState → PowerState) (name : List ℕ) (rows : List (List ℕ × StateRow)) (at : ℕ) (old new : StateRow)
    → all_differ same_name (names_in rows) ≡ true → slice_get (names_in rows) at ≡ Some name → slice_get (rows_in rows) at ≡ Some old
    → state_seen places (name, new) ≡ change (state_seen places (name, old))
    → map (state_seen places) (with_row rows at new) ≡ map (λ st. if is_named name st then change st else st) (map (state_seen places) rows)
state_changed places change name rows at old new differ named there same =
    let seen = map (state_seen places) rows in
    let here : slice_get seen at ≡ Some (state_seen places (name, old)) =
    slice_get-map (state_seen places) rows at ∙ ap (option_map (state_seen places)) (row_at rows at name old named there) in
    let differ' : all_differ same_name (map (λ (st : PowerState). st.name) seen) ≡ true =
    ap (all_differ same_name) (map-map (λ (st : PowerState). st.name) (state_seen places) rows) ∙ differ in
    map-with_row (state_seen places) rows at new name named
    ∙ ap (λ st. set seen at st) same
    ∙ changed_at (λ (st : PowerState). st.name) change name seen at (state_seen places (name, old)) differ' here refl

abbrev with_states : List PowerState → Option ℕ → MadeStates
with_states states line = record { states = states; complete = line }

pub states_changed : (places : List (List ℕ)) (change : PowerState → PowerState) (name : List ℕ) (states : PowerStates) (rows : List (List ℕ × StateRow)) (at : ℕ) (old new : StateRow)
    → rows_of states ≡ rows → all_differ same_name (names_in rows) ≡ true → slice_get (names_in (rows_of states)) at ≡ Some name
    → slice_get (rows_in rows) at ≡ Some old → state_seen places (name, new) ≡ change (state_seen places (name, old))
    → record { states = map (state_seen places) (with_row rows at new); complete = states.complete } ≡ changed change name (states_seen places states)
states_changed places change name states rows at old new is differ named there same =
    ap (λ sts. with_states sts states.complete)
    (state_changed places change name rows at old new differ (ap (λ rs. slice_get (names_in rs) at) (sym is) ∙ named) there same
    ∙ ap (λ rs. map (λ st. if is_named name st then change st else st) (map (state_seen places) rs)) (sym is))

-- the states of which one is another are in range where that one is
pub states_sound : (places : List (List ℕ)) (states : PowerStates) (rows : List (List ℕ × StateRow)) (at : ℕ) (new : StateRow) → rows_of states ≡ rows
    → AreStates places states → All (IsExpression places) new.expressions → All (IsState places) (with_row rows at new)
states_sound places states rows at new is sound own =
    All-with_row (IsState places) rows at new (λ name. own) (All-same (IsState places) rows (rows_of states) (sym is) sound)

-- the expressions of a state that is there
pub expressions_of : (places : List (List ℕ)) (states : PowerStates) (rows : List (List ℕ × StateRow)) (at : ℕ) (old : StateRow) → rows_of states ≡ rows
    → AreStates places states → slice_get (rows_in rows) at ≡ Some old → All (IsExpression places) old.expressions
expressions_of places states rows at old is sound there =
    row_holds (λ (row : StateRow). All (IsExpression places) row.expressions) rows at old (All-same (IsState places) rows (rows_of states) (sym is) sound) there
