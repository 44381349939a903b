-- The tables of all cells and models say what feeds the bits of instances.
use Rattle.std.proofs.Common.{◌≡◌, ℕ, ◌+◌, ◌<◌, ◌≤◌, ◌⊎◌, inl, inr, Bool, true, List, [], ◌∷◌, ◌++◌, Option, None, Some, get_or, length, map, option_map, slice_get, refl, sym, ap, ◌∙◌, subst, arith}
use Rattle.std.specs.Option.{MatchOption}
use Rattle.std.proofs.lemmas.Bool.{cases_lt}
use Rattle.std.proofs.lemmas.Option.{none-some, same_Some, slice_get-get_or, slice_get_within}
use Rattle.pw_defs.specs.declared.cells.Cell.{Cell}
use Rattle.pw_defs.specs.declared.cells.Cells.{Cells}
use Rattle.pw_defs.specs.declared.design.Body.{Body}
use Rattle.pw_defs.specs.declared.design.Body.TheVariants.{Module as ModuleBody, Cell as CellBody, Model as ModelBody}
use Rattle.pw_defs.specs.declared.model.Model.{Model}
use Rattle.list_defs.specs.Members.{all_differ, same_name}
use Rattle.list_defs.proofs.Longer.{slice_get-append, slice_get_last}
use Rattle.design_defs.specs.Hierarchy.{Sources, Way, HasBody}
use Rattle.design_defs.specs.Ports.{port_of_pin}
use Rattle.net_bits.specs.Placed.{ArePlaced}
use Rattle.net_bits.specs.declared.placed.Placed.{Placed}
use Rattle.net_inner.specs.Inside.{AreInnerSources, AreSources, AreUsed, HasSources, in_row, names_of_bits, source_in}
use Rattle.net_inner.specs.Pairs.{pairs_of}
use Rattle.net_inner.proofs.PairLemmas.{put_down}
use Rattle.design_defs.proofs.BodiesThere.{body_there}

-- what is said of what may be there
pub if_none : {A : Type 0} (P : Type 0) (Q : A → Type 0) (o : Option A) → MatchOption o P Q → o ≡ None → P
if_none P Q None is e = is
if_none P Q (Some a) is e = cc

pub if_some : {A : Type 0} (P : Type 0) (Q : A → Type 0) (o : Option A) (a : A) → MatchOption o P Q → o ≡ Some a → Q a
if_some P Q None a is e = cc
if_some P Q (Some b) a is e = subst Q (same_Some b a e) is

-- cells and models that there are are bodies
pub cell_body : (s : Sources) (c : ℕ) (cell : Cell) → slice_get s.cells.cells c ≡ Some cell → HasBody s (CellBody c)
cell_body s c cell at = (map port_of_pin cell.pins, ap (option_map (λ (x : Cell). map port_of_pin x.pins)) at)

pub model_body : (s : Sources) (m : ℕ) (model : Model) → slice_get s.models m ≡ Some model → HasBody s (ModelBody m)
model_body s m model at = (model.ports, ap (option_map (λ (x : Model). x.ports)) at)

-- what a mapped thing is mapped from
mapped : {A B : Type 0} (f : A → B) (o : Option A) (y : B) → option_map f o ≡ Some y → (x : A) × (o ≡ Some x)
mapped f None y e = cc
mapped f (Some x) y e = (x, refl)

-- one more body has its sources
pub sources_more : (P : ℕ → Option (List (Option ℕ)) → Type 0) (rows new : List (List (Option ℕ))) (row : List (Option ℕ)) (count : ℕ) → length rows ≡ count → new ≡ rows ++ row ∷ []
    → ((c : ℕ) → c < count → P c (slice_get rows c)) → P count (Some row) → (c : ℕ) → c < count + 1 → P c (slice_get new c)
sources_more P rows new row count is grown old here c less = subst (λ rs. P c (slice_get rs c)) (sym grown) (by (cases_lt c count))
  where
    by : (c < count) ⊎ (count ≤ c) → P c (slice_get (rows ++ row ∷ []) c)
    by (inl early) =
        let within : c < length rows = omega (arith, early, is) in
        let at = slice_get-get_or rows c row within in
        subst (P c) (at ∙ sym (slice_get-append rows (row ∷ []) c (get_or rows c row) at)) (old c early)
    by (inr late) =
        let same : count ≡ c = omega (arith, late, less) in
        subst (P c) (sym (slice_get_last rows row c (omega (arith, is, same)))) (subst (λ (k : ℕ). P k (Some row)) same here)

module _ (s : Sources) (p : Placed) (there : ArePlaced s p) (cells models : List (List (Option ℕ))) (used : List Bool)
    (all_cells : (c : ℕ) → (cell : Cell) → slice_get p.cells.now.cells c ≡ Some cell → HasSources s p (CellBody c) (slice_get cells c))
    (all_models : (m : ℕ) → (model : Model) → slice_get p.models.now m ≡ Some model → slice_get used m ≡ Some true → HasSources s p (ModelBody m) (slice_get models m))
    (are_used : AreUsed p.instances.now.rows (length p.models.now) used) where
  pub inner_sources : AreInnerSources s p (record { cells = cells; models = models })
  inner_sources inst row at differ = by row.body refl differ
    where
      way : Way
      way = get_or there.instances.ways inst []

      at_way : slice_get there.instances.ways inst ≡ Some way
      at_way = slice_get-get_or there.instances.ways inst [] (omega (arith, slice_get_within p.instances.now.rows inst row at, there.instances.count))

      has : HasBody s row.body
      has = body_there s way row.body (there.instances.each inst way row at_way at).body

      has_body : (b : Body) → row.body ≡ b → HasBody s b
      has_body b e = subst (HasBody s) e has

      by : (b : Body) → row.body ≡ b → all_differ same_name (names_of_bits s p b) ≡ true
          → AreSources (names_of_bits s p b) (pairs_of s b) (source_in (record { cells = cells; models = models }) b)
      by (ModuleBody n) e apart = record { said = λ fed from is. absurd (none-some from is); some = λ fed from a b at_a at_b listed. absurd listed }
      by (CellBody c) e apart =
          let body = has_body (CellBody c) e in
          let cell = mapped (λ (x : Cell). map port_of_pin x.pins) (slice_get s.cells.cells c) body.0 body.1 in
          let is = all_cells c cell.0 (ap (λ (cs : Cells). slice_get cs.cells c) (sym there.of_sources.1) ∙ cell.1) apart in
          subst (λ o. AreSources (names_of_bits s p (CellBody c)) (pairs_of s (CellBody c)) (in_row o)) (sym is) (put_down (names_of_bits s p (CellBody c)) apart (pairs_of s (CellBody c)))
      by (ModelBody m) e apart =
          let body = has_body (ModelBody m) e in
          let model = mapped (λ (x : Model). x.ports) (slice_get s.models m) body.0 body.1 in
          let here : slice_get p.models.now m ≡ Some model.0 = ap (λ (ms : List Model). slice_get ms m) (sym there.of_sources.2) ∙ model.1 in
          let mark = are_used.each inst m row at e (slice_get_within p.models.now m model.0 here) in
          let is = all_models m model.0 here mark apart in
          subst (λ o. AreSources (names_of_bits s p (ModelBody m)) (pairs_of s (ModelBody m)) (in_row o)) (sym is)
          (put_down (names_of_bits s p (ModelBody m)) apart (pairs_of s (ModelBody m)))
