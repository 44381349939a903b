-- Bodies and states that are changed one after the other, for those who make a world line by line.
use Rattle.std.proofs.Common.{◌≡◌, ℕ, Bool, true, false, List, [], ◌∷◌, Option, Some, None, cond, is_some, option_and_then, option_map, slice_get, find, map, if◌then◌else◌, refl, sym, ap, ◌∙◌}
use Rattle.std.proofs.lemmas.Option.{slice_get-map}
use Rattle.list_defs.specs.Members.{all_differ, place_of, same_name}
use Rattle.list_defs.proofs.NameLemmas.{place_of-map, place_of-own}
use Rattle.named_rows.proofs.PlaceLemmas.{find-place_of}
use Rattle.script_defs.specs.World.{Body, Object, PowerState, PowerStates, World}
use Rattle.script_defs.specs.LookUps.{body_named, is_taken, whole_name}
use Rattle.script_defs.specs.PowerStateSteps.{changed, states_at, states_of, with_states, with_states_at}
use Rattle.script_defs.specs.SupplySteps.{after_body, with_body}
use Rattle.script_world.specs.Changes.{body_at, has_states}
use Rattle.script_world.specs.Objects.{Places, is_named, known_in, named_at, world_of}
use Rattle.script_world.specs.Seen.{Known}

-- where whole names differ, an object is the same by its name and by its number
pub body_by_number : (objects : List Object) (at : ℕ) (name : List ℕ) → all_differ same_name (map whole_name objects) ≡ true → named_at objects at ≡ Some name
    → body_named (world_of objects) name ≡ body_at objects at
body_by_number objects at name differ named =
    let place : place_of (is_named name) objects ≡ Some at =
    sym (place_of-map whole_name (same_name name) objects)
    ∙ place_of-own name (map whole_name objects) at differ (slice_get-map whole_name objects at ∙ named) in
    let found : find (is_named name) objects ≡ slice_get objects at =
    sym (find-place_of (is_named name) objects) ∙ ap (option_and_then (slice_get objects)) place in
    ap (λ (o : Option Object). option_map (λ (x : Object). x.body) o) found

-- numbers that stand for the same names
pub named_as_known : (p q : Places) (at : ℕ) → known_in p ≡ known_in q → named_at p.objects at ≡ named_at q.objects at
named_as_known p q at same =
    sym (slice_get-map whole_name p.objects at) ∙ ap (λ (k : Known). slice_get k.objects at) same ∙ slice_get-map whole_name q.objects at

abbrev put_body : List ℕ → Body → Object → Object
put_body name body o = if is_named name o then record o { body = body } else o

put_twice : (name : List ℕ) (a b : Body) (o : Object) → put_body name b (put_body name a o) ≡ put_body name b o
put_twice name a b o = by (is_named name o) refl
  where
    by : (t : Bool) → is_named name o ≡ t
        → put_body name b (if t then record o { body = a } else o) ≡ (if t then record o { body = b } else o)
    by true e = ap (λ t. if t then record o { body = b } else record o { body = a }) e
    by false e = ap (λ t. if t then record o { body = b } else o) e

all_put_twice : (name : List ℕ) (a b : Body) (objects : List Object) → map (put_body name b) (map (put_body name a) objects) ≡ map (put_body name b) objects
all_put_twice name a b [] = refl
all_put_twice name a b (o ∷ objects) =
    ap (λ x. x ∷ map (put_body name b) (map (put_body name a) objects)) (put_twice name a b o)
    ∙ ap (λ xs. put_body name b o ∷ xs) (all_put_twice name a b objects)

-- of two bodies the second stays
pub with_body_twice : (w : World) (name : List ℕ) (a b : Body) → with_body (with_body w name a) name b ≡ with_body w name b
with_body_twice w name a b =
    let F : List Object → World = λ objects. record w { objects = objects } in
    ap F (all_put_twice name a b w.objects)

found_put : (name : List ℕ) (b : Body) (objects : List Object)
    → option_map (λ (o : Object). o.body) (find (is_named name) (map (put_body name b) objects))
    ≡ (if is_some (find (is_named name) objects) then Some b else None)
found_put name b [] = refl
found_put name b (o ∷ objects) = by (is_named name o) refl (found_put name b objects)
  where
    by : (t : Bool) → is_named name o ≡ t
        → option_map (λ (x : Object). x.body) (find (is_named name) (map (put_body name b) objects))
        ≡ (if is_some (find (is_named name) objects) then Some b else None)
        → option_map (λ (x : Object). x.body) (cond (is_named name (if t then record o { body = b } else o)) (Some (if t then record o { body = b } else o))
        (find (is_named name) (map (put_body name b) objects)))
        ≡ (if is_some (cond t (Some o) (find (is_named name) objects)) then Some b else None)
    by true e rest =
        ap (λ t. option_map (λ (x : Object). x.body) (cond t (Some (record o { body = b })) (find (is_named name) (map (put_body name b) objects)))) e
    by false e rest =
        ap (λ t. option_map (λ (x : Object). x.body) (cond t (Some o) (find (is_named name) (map (put_body name b) objects)))) e ∙ rest

-- an object has the body that it was given
pub body_put : (w : World) (name : List ℕ) (b : Body) → body_named (with_body w name b) name ≡ (if is_taken w name then Some b else None)
body_put w name b = found_put name b w.objects

taken_by : (w : World) (name : List ℕ) (b : Body) → body_named w name ≡ Some b → is_taken w name ≡ true
taken_by w name b e = by (find (is_named name) w.objects) e
  where
    by : (o : Option Object) → option_map (λ (x : Object). x.body) o ≡ Some b → is_some o ≡ true
    by None e = cc
    by (Some o) e = refl

put_there : (w : World) (name : List ℕ) (was b : Body) → body_named w name ≡ Some was → body_named (with_body w name b) name ≡ Some b
put_there w name was b e = body_put w name b ∙ ap (λ t. if t then Some b else None) (taken_by w name was e)

-- what can have states can have others
pub states_stay : (s : PowerStates) (o : Option Body) → has_states o ≡ true → has_states (with_states s o) ≡ true
states_stay s None can = cc
states_stay s (Some (Body.supply kind)) can = cc
states_stay s (Some (Body.set given old)) can = refl
states_stay s (Some (Body.switch output inputs on)) can = cc
states_stay s (Some (Body.domain given primary isolation old)) can = refl
states_stay s (Some (Body.table columns rows)) can = cc
states_stay s (Some (Body.group old)) can = refl
states_stay s (Some (Body.strategy tool given)) can = cc
states_stay s (Some (Body.power_model modules lines)) can = cc

-- of two lists of states the second stays, and an object has the states that it was given
module _ (w : World) (name : List ℕ) (s t : PowerStates) where
  abbrev Again : Option Body → Type 0
  Again b = with_states_at (after_body w name (with_states s b)) name t ≡ after_body w name (with_states t b)

  stays : (was : Body) → body_named w name ≡ Some was → Again (Some was)
  stays (Body.supply kind) e = ap (λ b. after_body w name (with_states t b)) e
  stays (Body.set given old) e =
      ap (λ b. after_body (with_body w name (Body.set given s)) name (with_states t b)) (put_there w name (Body.set given old) (Body.set given s) e)
      ∙ with_body_twice w name (Body.set given s) (Body.set given t)
  stays (Body.switch output inputs on) e = ap (λ b. after_body w name (with_states t b)) e
  stays (Body.domain given primary isolation old) e =
      ap (λ b. after_body (with_body w name (Body.domain given primary isolation s)) name (with_states t b))
      (put_there w name (Body.domain given primary isolation old) (Body.domain given primary isolation s) e)
      ∙ with_body_twice w name (Body.domain given primary isolation s) (Body.domain given primary isolation t)
  stays (Body.table columns rows) e = ap (λ b. after_body w name (with_states t b)) e
  stays (Body.group old) e =
      ap (λ b. after_body (with_body w name (Body.group s)) name (with_states t b)) (put_there w name (Body.group old) (Body.group s) e)
      ∙ with_body_twice w name (Body.group s) (Body.group t)
  stays (Body.strategy tool given) e = ap (λ b. after_body w name (with_states t b)) e
  stays (Body.power_model modules lines) e = ap (λ b. after_body w name (with_states t b)) e

  again : (o : Option Body) → body_named w name ≡ o → Again o
  again None e = ap (λ b. after_body w name (with_states t b)) e
  again (Some was) e = stays was e

  pub states_twice : with_states_at (with_states_at w name s) name t ≡ with_states_at w name t
  states_twice = again (body_named w name) refl

  pub states_back : has_states (body_named w name) ≡ true → states_at (with_states_at w name s) name ≡ s
  states_back can = back (body_named w name) refl can
    where
      back : (o : Option Body) → body_named w name ≡ o → has_states o ≡ true → states_of (body_named (after_body w name (with_states s o)) name) ≡ s
      back None e can = cc
      back (Some (Body.supply kind)) e can = cc
      back (Some (Body.set given old)) e can = ap states_of (put_there w name (Body.set given old) (Body.set given s) e)
      back (Some (Body.switch output inputs on)) e can = cc
      back (Some (Body.domain given primary isolation old)) e can =
          ap states_of (put_there w name (Body.domain given primary isolation old) (Body.domain given primary isolation s) e)
      back (Some (Body.table columns rows)) e can = cc
      back (Some (Body.group old)) e can = ap states_of (put_there w name (Body.group old) (Body.group s) e)
      back (Some (Body.strategy tool given)) e can = cc
      back (Some (Body.power_model modules lines)) e can = cc

-- a state that is changed twice
pub changed_twice : (f g : PowerState → PowerState) (name : List ℕ) (states : PowerStates) → ((st : PowerState) → (f st).name ≡ st.name)
    → changed g name (changed f name states) ≡ changed (λ st. g (f st)) name states
changed_twice f g name states keeps =
    let F : List PowerState → PowerStates = λ all. record states { states = all } in
    ap F (all_twice states.states)
  where
    step : (PowerState → PowerState) → PowerState → PowerState
    step change st = if same_name name st.name then change st else st

    once : (st : PowerState) (t : Bool) → same_name name st.name ≡ t
        → (if same_name name (if t then f st else st).name then g (if t then f st else st) else (if t then f st else st)) ≡ (if t then g (f st) else st)
    once st true e = ap (λ own. if same_name name own then g (f st) else f st) (keeps st) ∙ ap (λ t. if t then g (f st) else f st) e
    once st false e = ap (λ t. if t then g st else st) e

    all_twice : (all : List PowerState)
        → map (λ st. if same_name name st.name then g st else st) (map (λ st. if same_name name st.name then f st else st) all)
        ≡ map (λ st. if same_name name st.name then g (f st) else st) all
    all_twice [] = refl
    all_twice (st ∷ all) =
        ap (λ x. x ∷ map (λ y. if same_name name y.name then g y else y) (map (λ y. if same_name name y.name then f y else y) all))
        (once st (same_name name st.name) refl)
        ∙ ap (λ xs. (if same_name name st.name then g (f st) else st) ∷ xs) (all_twice all)
