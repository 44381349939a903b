-- What the objects of a world are by their rows.
use Rattle.std.proofs.Common.{◌≡◌, ℕ, ◌<◌, true, false, List, [], ◌∷◌, ◌++◌, Option, Some, None, is_some, option_map, slice_get, set, length, map, if◌then◌else◌, refl, sym, ap, subst, ◌∙◌}
use Rattle.std.specs.List.{All, find}
use Rattle.std.specs.Option.{IfSome}
use Rattle.std.proofs.lemmas.List.Elements.{All-head, All-push, All-tail, All-weaker}
use Rattle.std.proofs.lemmas.List.{length-map, map-append}
use Rattle.std.proofs.lemmas.Option.{get_or_from_slice_get, slice_get-map, slice_get_within}
use Rattle.std.proofs.lemmas.Simd.{map-map}
use Rattle.list_defs.specs.Members.{all_differ, place_of, same_name}
use Rattle.list_defs.proofs.NameLemmas.{is_some-place_of, place_of-map, place_of-within, slice_get-place_of}
use Rattle.named_rows.specs.Rows.{names_in, rows_in as own_rows, with_row}
use Rattle.named_rows.proofs.PlaceLemmas.{All-other_row, changed_at, map-same_row, map-with_row, names_in-with_row, read_row, row_at, row_holds, row_put}
use Rattle.script_defs.specs.StateSteps.{rows_in as made_rows}
use Rattle.script_defs.specs.World.{Body as MadeBody, Object, Row, World}
use Rattle.script_defs.specs.LookUps.{body_named, whole_name}
use Rattle.script_defs.specs.SupplySteps.{after_body, with_body}
use Rattle.script_world.specs.declared.bodies.Body.{Body}
use Rattle.script_world.specs.declared.bodies.Body.TheVariants.{Supply, Set, Switch, Domain, Table, Group, Strategy, PowerModel}
use Rattle.script_world.specs.declared.bodies.ObjectRow.{ObjectRow}
use Rattle.script_world.specs.Changes.{body_at, table_rows}
use Rattle.script_world.specs.Objects.{AreRows, Extends, IsNamed, IsRow, Places, is_named, known_by, known_in, named_at, object_seen, objects_seen, world_of}
use Rattle.script_world.specs.Ranges.{IsBody, IsOrigin}
use Rattle.script_world.specs.Seen.{Known, body_seen, name_at, row_seen}
use Rattle.script_world.proofs.KeepLemmas.{Keeps, keeps_more, keeps_same, objects_kept, rows_in}
use Rattle.script_world.proofs.StateLemmas.{is_some-find}
use Rattle.script_world.proofs.WorldLemmas.{body_by_number}

-- what holds of all holds of each
All-at : {X : Type 0} (P : X → Type 0) (xs : List X) (n : ℕ) (x : X) → All P xs → slice_get xs n ≡ Some x → P x
All-at P xs n x all there = subst P (get_or_from_slice_get xs n x x there) (all n x (slice_get_within xs n x there))

-- the names of the rows of a table
pub row_names : (k : Known) (b : Body) → map (λ (r : Row). r.name) (made_rows (Some (body_seen k b))) ≡ names_in (table_rows b)
row_names k (Supply kind) = refl
row_names k (Set b) = refl
row_names k (Switch b) = refl
row_names k (Domain b) = refl
row_names k (Table b) = map-map (λ (r : Row). r.name) row_seen b.value.rows
row_names k (Group b) = refl
row_names k (Strategy b) = refl
row_names k (PowerModel b) = refl

-- the whole names of objects are those of their rows
names_seen : (k : Known) (rows : List (List ℕ × ObjectRow)) → All (IsRow k) rows → map whole_name (map (object_seen k) rows) ≡ names_in rows
names_seen k [] all = refl
names_seen k (p ∷ rows) all =
    let first : IsRow k p = All-head (IsRow k) p rows all in
    ap (λ name. name ∷ map whole_name (map (object_seen k) rows)) first.named
    ∙ ap (λ names. p.0 ∷ names) (names_seen k rows (All-tail (IsRow k) p rows all))

module _ (places : List (List ℕ)) (rows : List (List ℕ × ObjectRow)) (v : Places) (all : AreRows places rows) (view : objects_seen places rows ≡ v) where
  abbrev known : Known
  known = known_by places rows

  pub places_are : v.places ≡ places
  places_are = ap (λ (u : Places). u.places) (sym view)

  pub objects_are : map (object_seen known) rows ≡ v.objects
  objects_are = ap (λ (u : Places). u.objects) view

  pub names_are : map whole_name v.objects ≡ names_in rows
  names_are = ap (map whole_name) (sym objects_are) ∙ names_seen known rows all

  pub known_is : known_in v ≡ known
  known_is =
      let F : List (List ℕ) → List (List ℕ) → Known = λ ps names. record { places = ps; objects = names } in
      ap (λ ps. F ps (map whole_name v.objects)) places_are ∙ ap (F places) names_are

  pub count_is : length rows ≡ length v.objects
  count_is = sym (length-map rows (object_seen known)) ∙ ap length objects_are

  pub places_found : (name : List ℕ) → place_of (same_name name) (names_in rows) ≡ place_of (is_named name) v.objects
  places_found name = ap (place_of (same_name name)) (sym names_are) ∙ place_of-map whole_name (same_name name) v.objects

  -- what is read of an object
  pub read_object : {A : Type 0} (f : Object → A) (at : ℕ) (row : ObjectRow) (a : A) → ((name : List ℕ) → f (object_seen known (name, row)) ≡ a)
      → slice_get (own_rows rows) at ≡ Some row → option_map f (slice_get v.objects at) ≡ Some a
  read_object f at row a same there =
      ap (λ (os : List Object). option_map f (slice_get os at)) (sym objects_are) ∙ read_row (object_seen known) f rows at row a same there

  pub name_is : (at : ℕ) (name : List ℕ) → slice_get (names_in rows) at ≡ Some name → option_map whole_name (slice_get v.objects at) ≡ Some name
  name_is at name there = sym (slice_get-map whole_name v.objects at) ∙ ap (λ (names : List (List ℕ)). slice_get names at) names_are ∙ there

  pub name_of_row : (at : ℕ) (name : List ℕ) → option_map whole_name (slice_get v.objects at) ≡ Some name → slice_get (names_in rows) at ≡ Some name
  name_of_row at name there = ap (λ (names : List (List ℕ)). slice_get names at) (sym names_are) ∙ slice_get-map whole_name v.objects at ∙ there

  -- a row with its whole name
  pub row_fits_there : (at : ℕ) (name : List ℕ) (row : ObjectRow) → slice_get (names_in rows) at ≡ Some name → slice_get (own_rows rows) at ≡ Some row
      → IsRow known (name, row)
  row_fits_there at name row named there = All-at (IsRow known) rows at (name, row) all (row_at rows at name row named there)

  pub object_there : (at : ℕ) (name : List ℕ) (row : ObjectRow) → slice_get (names_in rows) at ≡ Some name → slice_get (own_rows rows) at ≡ Some row
      → slice_get v.objects at ≡ Some (object_seen known (name, row))
  object_there at name row named there =
      ap (λ (os : List Object). slice_get os at) (sym objects_are) ∙ slice_get-map (object_seen known) rows at
      ∙ ap (option_map (object_seen known)) (row_at rows at name row named there)

  pub body_fits : (at : ℕ) (row : ObjectRow) → slice_get (own_rows rows) at ≡ Some row → IsBody known row.body
  body_fits at row there =
      row_holds (λ (r : ObjectRow). IsBody known r.body) rows at row
      (All-weaker (IsRow known) (λ (p : List ℕ × ObjectRow). IsBody known p.1.body) (λ p fits. fits.body) rows all) there

  pub body_fits_known : (at : ℕ) (row : ObjectRow) → slice_get (own_rows rows) at ≡ Some row → IsBody (known_in v) row.body
  body_fits_known at row there =
      let P : Known → Type 0 = λ k. IsBody k row.body in
      subst P (sym known_is) (body_fits at row there)

  pub origin_fits : (at : ℕ) (row : ObjectRow) → slice_get (own_rows rows) at ≡ Some row → IsOrigin places row.origin
  origin_fits at row there =
      row_holds (λ (r : ObjectRow). IsOrigin places r.origin) rows at row
      (All-weaker (IsRow known) (λ (p : List ℕ × ObjectRow). IsOrigin places p.1.origin) (λ p fits. fits.origin) rows all) there

  pub scope_fits : (at : ℕ) (row : ObjectRow) → slice_get (own_rows rows) at ≡ Some row → row.scope < length places
  scope_fits at row there =
      row_holds (λ (r : ObjectRow). r.scope < length places) rows at row
      (All-weaker (IsRow known) (λ (p : List ℕ × ObjectRow). p.1.scope < length places) (λ p fits. fits.scope) rows all) there

-- what is found
pub found_within : (objects : List Object) (name : List ℕ) (place : Option ℕ) → place ≡ place_of (is_named name) objects → IfSome place (λ at. at < length objects)
found_within objects name None e = tt
found_within objects name (Some at) e = place_of-within (is_named name) objects at (sym e)

pub found_named : (objects : List Object) (name : List ℕ) (place : Option ℕ) → place ≡ place_of (is_named name) objects
    → IfSome place (λ at. named_at objects at ≡ Some name)
found_named objects name None e = tt
found_named objects name (Some at) e =
    sym (slice_get-map whole_name objects at)
    ∙ slice_get-place_of name (map whole_name objects) at (place_of-map whole_name (same_name name) objects ∙ sym e)

-- more places
pub objects_placed : (places more : List (List ℕ)) (rows : List (List ℕ × ObjectRow)) (v : Places) → AreRows places rows → objects_seen places rows ≡ v
    → Extends places more → map (object_seen (known_by more rows)) rows ≡ v.objects
objects_placed places more rows v all view longer =
    objects_kept (known_by places rows) (known_by more rows) (keeps_more places more longer.0 longer.1) (keeps_same (names_in rows)) rows all
    ∙ objects_are places rows v all view

-- one object more
module _ (places : List (List ℕ)) (rows : List (List ℕ × ObjectRow)) (v : Places) (all : AreRows places rows) (view : objects_seen places rows ≡ v)
    (whole : List ℕ) (row : ObjectRow) where
  abbrev more_rows : List (List ℕ × ObjectRow)
  more_rows = rows ++ (whole, row) ∷ []

  names_more : names_in more_rows ≡ names_in rows ++ whole ∷ []
  names_more = map-append (λ (p : List ℕ × ObjectRow). p.0) rows ((whole, row) ∷ [])

  -- where nothing has the name
  pub name_free : is_some (find (is_named whole) v.objects) ≡ false → place_of (same_name whole) (names_in rows) ≡ None
  name_free free =
      none_of (place_of (same_name whole) (names_in rows))
      (ap is_some (places_found places rows v all view whole) ∙ is_some-place_of (is_named whole) v.objects ∙ sym (is_some-find (is_named whole) v.objects) ∙ free)
    where
      none_of : (o : Option ℕ) → is_some o ≡ false → o ≡ None
      none_of None e = refl
      none_of (Some n) e = cc

  pub row_fits : row.scope < length v.places → IsNamed (name_at v.places row.scope) whole → IsOrigin v.places row.origin → IsBody (known_in v) row.body
      → IsRow (known_by places rows) (whole, row)
  row_fits scope named origin body =
      let K : Known → Type 0 = λ k. IsBody k row.body in
      let N : List (List ℕ) → Type 0 = λ ps. IsNamed (name_at ps row.scope) whole in
      let O : List (List ℕ) → Type 0 = λ ps. IsOrigin ps row.origin in
      let S : List (List ℕ) → Type 0 = λ ps. row.scope < length ps in
      let same = places_are places rows v all view in
      record { scope = subst S same scope; named = subst N same named; origin = subst O same origin; body = subst K (known_is places rows v all view) body }

  module _ (fits : IsRow (known_by places rows) (whole, row)) where
    keeps : Keeps (names_in rows) (names_in more_rows)
    keeps = keeps_more (names_in rows) (names_in more_rows) (whole ∷ []) names_more

    rows_more : AreRows places more_rows
    rows_more =
        rows_in (known_by places rows) (known_by places more_rows) (keeps_same places) keeps more_rows
        (All-push (IsRow (known_by places rows)) rows (whole, row) all fits)

    objects_more : map (object_seen (known_by places more_rows)) more_rows ≡ v.objects ++ object_seen (known_in v) (whole, row) ∷ []
    objects_more =
        objects_kept (known_by places rows) (known_by places more_rows) (keeps_same places) keeps more_rows
        (All-push (IsRow (known_by places rows)) rows (whole, row) all fits)
        ∙ map-append (object_seen (known_by places rows)) rows ((whole, row) ∷ [])
        ∙ ap (λ (os : List Object). os ++ object_seen (known_by places rows) (whole, row) ∷ []) (objects_are places rows v all view)
        ∙ ap (λ (k : Known). v.objects ++ object_seen k (whole, row) ∷ []) (sym (known_is places rows v all view))

    pub rows_added : (grown : List (List ℕ × ObjectRow)) → grown ≡ more_rows → AreRows places grown
    rows_added grown e =
        let P : List (List ℕ × ObjectRow) → Type 0 = λ rs. AreRows places rs in
        subst P (sym e) rows_more

    pub objects_added : (grown : List (List ℕ × ObjectRow)) → grown ≡ more_rows
        → map (object_seen (known_by places grown)) grown ≡ v.objects ++ object_seen (known_in v) (whole, row) ∷ []
    objects_added grown e = ap (λ (rs : List (List ℕ × ObjectRow)). map (object_seen (known_by places rs)) rs) e ∙ objects_more

-- another body at an object
module _ (places : List (List ℕ)) (rows : List (List ℕ × ObjectRow)) (v : Places) (all : AreRows places rows) (view : objects_seen places rows ≡ v)
    (at : ℕ) (row : ObjectRow) (body : Body) (there : slice_get (own_rows rows) at ≡ Some row) where
  abbrev other : ObjectRow
  other = record row { body = body }

  abbrev other_rows : List (List ℕ × ObjectRow)
  other_rows = with_row rows at other

  abbrev known_before : Known
  known_before = known_by places rows

  known_other : known_by places other_rows ≡ known_before
  known_other =
      let F : List (List ℕ) → Known = λ names. record { places = places; objects = names } in
      ap F (names_in-with_row rows at other)

  pub rows_other : IsBody (known_in v) body → AreRows places other_rows
  rows_other fits =
      let P : Known → Type 0 = λ k. All (IsRow k) other_rows in
      let K : Known → Type 0 = λ k. IsBody k body in
      let own : IsBody known_before body = subst K (known_is places rows v all view) fits in
      subst P (sym known_other)
      (All-other_row (IsRow known_before) rows at row other there
      (λ name was. record { scope = was.scope; named = was.named; origin = was.origin; body = own }) all)

  pub known_same : IsBody (known_in v) body → known_in (objects_seen places other_rows) ≡ known_in v
  known_same fits =
      known_is places other_rows (objects_seen places other_rows) (rows_other fits) refl ∙ known_other ∙ sym (known_is places rows v all view)

  pub objects_other : (name : List ℕ) → all_differ same_name (names_in rows) ≡ true → option_map whole_name (slice_get v.objects at) ≡ Some name
      → (objects_seen places other_rows).objects ≡ (with_body (world_of v.objects) name (body_seen (known_in v) body)).objects
  objects_other name differ named =
      let name_there : slice_get (names_in rows) at ≡ Some name = name_of_row places rows v all view at name named in
      let now = object_seen known_before (name, row) in
      let change : Object → Object = λ o. record o { body = body_seen known_before body } in
      let objects = objects_are places rows v all view in
      let here : slice_get v.objects at ≡ Some now = object_there places rows v all view at name row name_there there in
      let own : whole_name now ≡ name = (row_fits_there places rows v all view at name row name_there there).named in
      ap (λ (k : Known). map (object_seen k) other_rows) known_other
      ∙ map-with_row (object_seen known_before) rows at other name name_there
      ∙ ap (λ (os : List Object). set os at (change now)) objects
      ∙ changed_at whole_name change name v.objects at now (ap (all_differ same_name) (names_are places rows v all view) ∙ differ) here own
      ∙ ap (λ (k : Known). map (λ o. if same_name name (whole_name o) then record o { body = body_seen k body } else o) v.objects)
      (sym (known_is places rows v all view))

  pub body_was : body_at v.objects at ≡ Some (body_seen (known_in v) row.body)
  body_was =
      read_object places rows v all view (λ (o : Object). o.body) at row (body_seen (known_in v) row.body)
      (λ name. ap (λ (k : Known). body_seen k row.body) (sym (known_is places rows v all view))) there

  -- and has the other one then
  pub body_after : IsBody (known_in v) body → body_at (objects_seen places other_rows).objects at ≡ Some (body_seen (known_in v) body)
  body_after fits =
      read_object places other_rows (objects_seen places other_rows) (rows_other fits) refl (λ (o : Object). o.body) at other (body_seen (known_in v) body)
      (λ name. ap (λ (k : Known). body_seen k body) (sym (known_is places other_rows (objects_seen places other_rows) (rows_other fits) refl) ∙ known_same fits))
      (row_put rows at row other there)

  body_of_name : (name : List ℕ) → all_differ same_name (names_in rows) ≡ true → named_at v.objects at ≡ Some name
      → body_named (world_of v.objects) name ≡ Some (body_seen (known_in v) row.body)
  body_of_name name differ named =
      body_by_number v.objects at name (ap (all_differ same_name) (names_are places rows v all view) ∙ differ) named ∙ body_was

  -- the world with what a step makes of the body
  pub world_other : (name : List ℕ) → all_differ same_name (names_in rows) ≡ true → named_at v.objects at ≡ Some name
      → (step : Option MadeBody → Option MadeBody) → step (Some (body_seen (known_in v) row.body)) ≡ Some (body_seen (known_in v) body)
      → world_of (objects_seen places other_rows).objects ≡ after_body (world_of v.objects) name (step (body_named (world_of v.objects) name))
  world_other name differ named step makes =
      let w : World = world_of v.objects in
      ap world_of (objects_other name differ named)
      ∙ sym (ap (λ (b : Option MadeBody). after_body w name (step b)) (body_of_name name differ named) ∙ ap (after_body w name) makes)

  -- a body that says the same
  pub objects_same : body_seen (known_in v) body ≡ body_seen (known_in v) row.body → objects_seen places other_rows ≡ v
  objects_same same =
      let F : List Object → Places = λ os. record { places = places; objects = os } in
      let G : List ℕ → MadeBody → Object = λ name b. record (object_seen known_before (name, row)) { body = b } in
      let known = known_is places rows v all view in
      let own : body_seen known_before body ≡ body_seen known_before row.body =
      ap (λ (k : Known). body_seen k body) (sym known) ∙ same ∙ ap (λ (k : Known). body_seen k row.body) known in
      ap F (
      ap (λ (k : Known). map (object_seen k) other_rows) known_other
      ∙ map-same_row (object_seen known_before) rows at row other there (λ name. ap (G name) own)
      )
      ∙ view
