-- What numbers stand for stays where there are more places and objects.
use Rattle.std.proofs.Common.{◌≡◌, ℕ, suc, ◌<◌, ◌≤◌, List, [], ◌∷◌, ◌++◌, Option, Some, None, option_map, length, map, refl, ap, ◌∙◌, arith, length-append}
use Rattle.std.specs.List.{All}
use Rattle.std.specs.Option.{IfSome}
use Rattle.std.proofs.Math.ListN.{get_or-append}
use Rattle.std.proofs.lemmas.List.Elements.{All-weaker}
use Rattle.design_defs.specs.Names.{joined}
use Rattle.script_defs.specs.World.{Body as MadeBody, Expression as MadeExpression, GivenClause as MadeClause, Handle as MadeHandle, Object, Origin as MadeOrigin, PowerState, PowerStates as MadeStates, SupplyKey as MadeKey}
use Rattle.script_world.specs.declared.bodies.Body.{Body}
use Rattle.script_world.specs.declared.bodies.Body.TheVariants.{Supply, Set, Switch, Domain, Table, Group, Strategy, PowerModel}
use Rattle.script_world.specs.declared.bodies.ObjectRow.{ObjectRow}
use Rattle.script_world.specs.declared.parts.Expression.{Expression}
use Rattle.script_world.specs.declared.parts.GivenClause.{GivenClause}
use Rattle.script_world.specs.declared.parts.Handle.{Handle}
use Rattle.script_world.specs.declared.parts.Origin.{Origin}
use Rattle.script_world.specs.declared.parts.SupplyKey.{SupplyKey}
use Rattle.script_world.specs.declared.parts.SupplyKey.TheVariants.{Made, Inner, Outer}
use Rattle.script_world.specs.declared.states.PowerStates.{PowerStates}
use Rattle.script_world.specs.declared.states.StateRow.{StateRow}
use Rattle.script_world.specs.Objects.{IsRow, object_seen, simple_name}
use Rattle.script_world.specs.Ranges.{AreStates, IsBody, IsExpression, IsGiven, IsHandle, IsKey, IsOrigin, IsState}
use Rattle.script_world.specs.Seen.{Known, body_seen, clause_seen, expression_seen, given_seen, handle_seen, key_seen, name_at, origin_seen, row_seen, rows_of, state_seen, states_seen}

-- each number stands for the same name
pub record Keeps (old new : List (List ℕ)) : Type 0 where
  pub count : length old ≤ length new
  pub names : (n : ℕ) → n < length old → name_at new n ≡ name_at old n

pub keeps_more : (old new more : List (List ℕ)) → new ≡ old ++ more → Keeps old new
keeps_more old new more e = record {
  count = rw e (omega (arith, length-append old more));
  names = λ n within. rw e (get_or-append old more [] n within);
}

pub keeps_same : (names : List (List ℕ)) → Keeps names names
keeps_same names = record { count = omega arith; names = λ n within. refl }

-- lists of which each is seen as before
map_kept : {X Y : Type 0} (P : X → Type 0) (f g : X → Y) → ((x : X) → P x → g x ≡ f x) → (xs : List X) → All P xs → map g xs ≡ map f xs
map_kept P f g same [] all = refl
map_kept P f g same (x ∷ xs) all =
    ap (λ y. y ∷ map g xs) (same x (all 0 x (omega arith))) ∙ ap (λ ys. f x ∷ ys) (map_kept P f g same xs (λ k d within. all (suc k) d (omega arith)))

module _ (p q : List (List ℕ)) (kept : Keeps p q) where
  pub origin_kept : (o : Origin) → IsOrigin p o → origin_seen q o ≡ origin_seen p o
  origin_kept o fits =
      let F : List ℕ → List ℕ → MadeOrigin = λ file home. record { file = file; line = o.line; home = home } in
      ap (λ file. F file (name_at q o.home)) (kept.names o.file fits.file) ∙ ap (F (name_at p o.file)) (kept.names o.home fits.home)

  pub origin_in : (o : Origin) → IsOrigin p o → IsOrigin q o
  origin_in o fits = record { file = omega (arith, fits.file, kept.count); home = omega (arith, fits.home, kept.count) }

  pub clause_kept : (g : GivenClause) → IsGiven p g → clause_seen q g ≡ clause_seen p g
  clause_kept g fits =
      let F : List ℕ → MadeOrigin → MadeClause = λ scope origin. record { clause = g.clause; scope = scope; origin = origin } in
      ap (λ scope. F scope (origin_seen q g.origin)) (kept.names g.scope fits.scope) ∙ ap (F (name_at p g.scope)) (origin_kept g.origin fits.origin)

  clause_in : (g : GivenClause) → IsGiven p g → IsGiven q g
  clause_in g fits = record { scope = omega (arith, fits.scope, kept.count); origin = origin_in g.origin fits.origin }

  given_kept : (given : List GivenClause) → All (IsGiven p) given → given_seen q given ≡ given_seen p given
  given_kept given all = map_kept (IsGiven p) (clause_seen p) (clause_seen q) clause_kept given all

  pub given_in : (given : List GivenClause) → All (IsGiven p) given → All (IsGiven q) given
  given_in given all = All-weaker (IsGiven p) (IsGiven q) clause_in given all

  expression_kept : (e : Expression) → IsExpression p e → expression_seen q e ≡ expression_seen p e
  expression_kept e fits =
      let F : List ℕ → MadeOrigin → MadeExpression = λ scope origin. record { term = e.term; scope = scope; origin = origin } in
      ap (λ scope. F scope (origin_seen q e.origin)) (kept.names e.scope fits.scope) ∙ ap (F (name_at p e.scope)) (origin_kept e.origin fits.origin)

  expression_in : (e : Expression) → IsExpression p e → IsExpression q e
  expression_in e fits = record { scope = omega (arith, fits.scope, kept.count); origin = origin_in e.origin fits.origin }

  state_kept : (row : List ℕ × StateRow) → IsState p row → state_seen q row ≡ state_seen p row
  state_kept row fits =
      ap (λ (es : List MadeExpression). record (state_seen p row) { expressions = es })
      (map_kept (IsExpression p) (expression_seen p) (expression_seen q) expression_kept row.1.expressions fits)

  state_in : (row : List ℕ × StateRow) → IsState p row → IsState q row
  state_in row fits = All-weaker (IsExpression p) (IsExpression q) expression_in row.1.expressions fits

  pub states_kept : (s : PowerStates) → AreStates p s → states_seen q s ≡ states_seen p s
  states_kept s fits =
      let F : List PowerState → MadeStates = λ states. record { states = states; complete = s.complete } in
      ap F (map_kept (IsState p) (state_seen p) (state_seen q) state_kept (rows_of s) fits)

  pub states_in : (s : PowerStates) → AreStates p s → AreStates q s
  states_in s fits = All-weaker (IsState p) (IsState q) state_in (rows_of s) fits

  key_kept : (k : SupplyKey) → IsKey p k → key_seen q k ≡ key_seen p k
  key_kept (Made name) fits = ap MadeKey.made (kept.names name fits)
  key_kept (Inner inst n) fits = ap (λ path. MadeKey.inner path n) (kept.names inst fits)
  key_kept (Outer inst n) fits = ap (λ path. MadeKey.outer path n) (kept.names inst fits)

  key_in : (k : SupplyKey) → IsKey p k → IsKey q k
  key_in (Made name) fits = omega (arith, fits, kept.count)
  key_in (Inner inst n) fits = omega (arith, fits, kept.count)
  key_in (Outer inst n) fits = omega (arith, fits, kept.count)

  pub handle_kept : (h : Option Handle) → IfSome h (IsHandle p) → option_map (handle_seen q) h ≡ option_map (handle_seen p) h
  handle_kept None fits = refl
  handle_kept (Some h) fits =
      let F : List ℕ → Option MadeHandle = λ set. Some (record { set = set; line = h.line }) in
      ap F (kept.names h.set fits)

  handle_in : (h : Option Handle) → IfSome h (IsHandle p) → IfSome h (IsHandle q)
  handle_in None fits = tt
  handle_in (Some h) fits = omega (arith, fits, kept.count)

module _ (k l : Known) (places : Keeps k.places l.places) (objects : Keeps k.objects l.objects) where
  pub body_kept : (b : Body) → IsBody k b → body_seen l b ≡ body_seen k b
  body_kept (Supply kind) fits = refl
  body_kept (Set b) fits =
      ap (λ given. MadeBody.set given (states_seen l.places b.value.states)) (given_kept k.places l.places places b.value.given fits.given)
      ∙ ap (MadeBody.set (given_seen k.places b.value.given)) (states_kept k.places l.places places b.value.states fits.states)
  body_kept (Switch b) fits = refl
  body_kept (Domain b) fits =
      let primary = option_map (handle_seen l.objects) b.value.primary in
      let isolation = option_map (handle_seen l.objects) b.value.isolation in
      let states = states_seen l.places b.value.states in
      let given = given_seen k.places b.value.given in
      let first = option_map (handle_seen k.objects) b.value.primary in
      ap (λ more. MadeBody.domain more primary isolation states) (given_kept k.places l.places places b.value.given fits.given)
      ∙ ap (λ h. MadeBody.domain given h isolation states) (handle_kept k.objects l.objects objects b.value.primary fits.primary)
      ∙ ap (λ h. MadeBody.domain given first h states) (handle_kept k.objects l.objects objects b.value.isolation fits.isolation)
      ∙ ap (MadeBody.domain given first (option_map (handle_seen k.objects) b.value.isolation))
      (states_kept k.places l.places places b.value.states fits.states)
  body_kept (Table b) fits =
      ap (λ columns. MadeBody.table columns (map row_seen b.value.rows))
      (map_kept (IsKey k.places) (key_seen k.places) (key_seen l.places) (key_kept k.places l.places places) b.value.columns fits)
  body_kept (Group b) fits = ap MadeBody.group (states_kept k.places l.places places b.value fits)
  body_kept (Strategy b) fits = ap (MadeBody.strategy b.value.tool) (given_kept k.places l.places places b.value.given fits)
  body_kept (PowerModel b) fits = refl

  pub body_in : (b : Body) → IsBody k b → IsBody l b
  body_in (Supply kind) fits = tt
  body_in (Set b) fits = record {
    given = given_in k.places l.places places b.value.given fits.given;
    states = states_in k.places l.places places b.value.states fits.states;
  }
  body_in (Switch b) fits = tt
  body_in (Domain b) fits = record {
    given = given_in k.places l.places places b.value.given fits.given;
    primary = handle_in k.objects l.objects objects b.value.primary fits.primary;
    isolation = handle_in k.objects l.objects objects b.value.isolation fits.isolation;
    states = states_in k.places l.places places b.value.states fits.states;
  }
  body_in (Table b) fits = All-weaker (IsKey k.places) (IsKey l.places) (key_in k.places l.places places) b.value.columns fits
  body_in (Group b) fits = states_in k.places l.places places b.value fits
  body_in (Strategy b) fits = given_in k.places l.places places b.value.given fits
  body_in (PowerModel b) fits = tt

  pub object_kept : (row : List ℕ × ObjectRow) → IsRow k row → object_seen l row ≡ object_seen k row
  object_kept row fits =
      let F : List ℕ → MadeOrigin → MadeBody → Object = λ scope origin body. record { scope = scope; name = simple_name scope row.0; origin = origin; body = body } in
      ap (λ scope. F scope (origin_seen l.places row.1.origin) (body_seen l row.1.body)) (places.names row.1.scope fits.scope)
      ∙ ap (λ origin. F (name_at k.places row.1.scope) origin (body_seen l row.1.body)) (origin_kept k.places l.places places row.1.origin fits.origin)
      ∙ ap (F (name_at k.places row.1.scope) (origin_seen k.places row.1.origin)) (body_kept row.1.body fits.body)

  pub row_in : (row : List ℕ × ObjectRow) → IsRow k row → IsRow l row
  row_in row fits = record {
    scope = omega (arith, fits.scope, places.count);
    named = ap (λ scope. joined scope (simple_name scope row.0)) (places.names row.1.scope fits.scope) ∙ fits.named;
    origin = origin_in k.places l.places places row.1.origin fits.origin;
    body = body_in row.1.body fits.body;
  }

  -- all objects
  pub objects_kept : (rows : List (List ℕ × ObjectRow)) → All (IsRow k) rows → map (object_seen l) rows ≡ map (object_seen k) rows
  objects_kept rows all = map_kept (IsRow k) (object_seen k) (object_seen l) object_kept rows all

  pub rows_in : (rows : List (List ℕ × ObjectRow)) → All (IsRow k) rows → All (IsRow l) rows
  rows_in rows all = All-weaker (IsRow k) (IsRow l) row_in rows all
