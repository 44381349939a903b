-- The plans of modules, cells and models are those of the bodies of a hierarchy.
use Rattle.std.proofs.Common.{◌≡◌, ℕ, ◌+◌, ◌<◌, ◌≤◌, ◌⊎◌, List, [], ◌∷◌, ◌++◌, length, get_or, map, refl, sym, ap, ◌∙◌, subst, arith, inl, inr}
use Rattle.std.specs.Prelude.{Option, Some, None, option_map, option_and_then, slice_get, slice_index_or}
use Rattle.std.proofs.lemmas.Bool.{cases_lt}
use Rattle.std.proofs.lemmas.List.{get_or_append_left, get_or_at}
use Rattle.std.proofs.lemmas.Option.{get_or_from_slice_get, slice_get_within}
use Rattle.pw_defs.specs.declared.cells.Cell.{Cell}
use Rattle.pw_defs.specs.declared.cells.Cells.{Cells}
use Rattle.pw_defs.specs.declared.design.Body.{Body}
use Rattle.pw_defs.specs.declared.design.Body.TheVariants.{Module as ModuleBody, Cell as CellBody, Model as ModelBody}
use Rattle.pw_defs.specs.declared.model.Model.{Model}
use Rattle.pw_defs.specs.declared.netlist.Module.{Module}
use Rattle.pw_defs.specs.declared.netlist.Port.{Port}
use Rattle.design_defs.specs.Bits.{port_named}
use Rattle.design_defs.specs.Hierarchy.{Sources, number_named, ports_in, HasBody}
use Rattle.design_defs.specs.Places.{net_range}
use Rattle.design_defs.specs.Ports.{port_of_pin}
use Rattle.module_rows.specs.declared.plain.Netlist.{Netlist}
use Rattle.module_rows.specs.Growth.{no_module}
use Rattle.module_rows.specs.Reads.{module_at}
use Rattle.net_places.specs.declared.plans.Plans.{Plans}
use Rattle.net_places.specs.declared.rows.NetRow.{NetRow}
use Rattle.net_places.specs.Nets.{OwnNet, net_among, net_in, own_net}
use Rattle.net_places.specs.Plans.{ArePlans, IsOf, names_in, port_names, rows_at}
use Rattle.net_places.specs.Tables.{IsPlanOf}

-- a list of bodies with one more
pub plans_more : (P : ℕ → List NetRow → Type 0) (old new : List (List NetRow)) (rows : List NetRow) (count : ℕ) → new ≡ old ++ rows ∷ [] → length old ≡ count
    → ((n : ℕ) → n < count → P n (slice_index_or old n [])) → P count rows → (n : ℕ) → n < count + 1 → P n (slice_index_or new n [])
plans_more P old new rows count same size each last n within =
    subst (λ all. P n (slice_index_or all n [])) (sym same) (by (cases_lt n count))
  where
    by : (n < count) ⊎ (count ≤ n) → P n (get_or (old ++ rows ∷ []) n [])
    by (inl before) = subst (P n) (sym (get_or_append_left old (rows ∷ []) [] n (omega (arith, before, size)))) (each n before)
    by (inr past) =
        let here : count ≡ n = omega (arith, within, past) in
        subst (P n) (sym (get_or_at old rows [] [] n (size ∙ here))) (subst (λ k. P k rows) here last)

-- what is owned where there is a module
abbrev of_module : Option Module → List ℕ → Option OwnNet
of_module o name =
    option_map (λ (range : Option (ℕ × ℕ)). record { name = name; range = range; port = option_and_then (number_named (λ (p : Port). p.name) name) (option_map (λ (x : Module). x.ports) o) })
    (option_and_then (λ (x : Module). net_range x name) o)

-- what is owned where there are ports
abbrev of_ports : Option (List Port) → List ℕ → Option OwnNet
of_ports o name =
    option_map (λ (range : Option (ℕ × ℕ)). record { name = name; range = range; port = option_and_then (number_named (λ (p : Port). p.name) name) o })
    (option_map (λ (p : Port). p.range) (option_and_then (port_named name) o))

module _ (n : Netlist) (cells : Cells) (models : List Model) (s : Sources) (is : IsOf n cells models s) (p : Plans)
    (module_count : length p.modules ≡ length n.modules)
    (module_plans : (m : ℕ) → m < length n.modules → IsPlanOf (net_in (module_at n m)) n.symbols (slice_index_or p.modules m []))
    (cell_count : length p.cells ≡ length cells.cells)
    (cell_plans : (c : ℕ) (cell : Cell) → slice_get cells.cells c ≡ Some cell
    → IsPlanOf (net_among (map port_of_pin cell.pins)) (map (λ (p : Port). p.name) (map port_of_pin cell.pins)) (slice_index_or p.cells c []))
    (model_count : length p.models ≡ length models)
    (model_plans : (c : ℕ) (model : Model) → slice_get models c ≡ Some model
    → IsPlanOf (net_among model.ports) (map (λ (p : Port). p.name) model.ports) (slice_index_or p.models c [])) where
  module_plan : (m : ℕ) (x : Option Module) → slice_get s.modules m ≡ x → (ports : List Port) → option_map (λ (y : Module). y.ports) x ≡ Some ports
      → IsPlanOf (own_net s (ModuleBody m)) n.symbols (slice_index_or p.modules m [])
  module_plan m None absent ports h = cc
  module_plan m (Some x) there ports h =
      let was : slice_get n.modules m ≡ Some x = ap (λ ms. slice_get ms m) (sym is.0) ∙ there in
      let one : module_at n m ≡ x = get_or_from_slice_get n.modules m x no_module was in
      let own : own_net s (ModuleBody m) ≡ net_in x = ap of_module there in
      subst (λ f. IsPlanOf f n.symbols (slice_index_or p.modules m [])) (ap net_in one ∙ sym own) (module_plans m (slice_get_within n.modules m x was))

  cell_plan : (c : ℕ) (x : Option Cell) → slice_get s.cells.cells c ≡ x → (ports : List Port) → option_map (λ (y : Cell). map port_of_pin y.pins) x ≡ Some ports
      → IsPlanOf (own_net s (CellBody c)) (names_in n.symbols s (CellBody c)) (slice_index_or p.cells c [])
  cell_plan c None absent ports h = cc
  cell_plan c (Some x) there ports h =
      let was : slice_get cells.cells c ≡ Some x = ap (λ (cs : Cells). slice_get cs.cells c) (sym is.1) ∙ there in
      let has : ports_in s (CellBody c) ≡ Some (map port_of_pin x.pins) = ap (option_map (λ (y : Cell). map port_of_pin y.pins)) there in
      subst (λ o. IsPlanOf (of_ports o) (port_names o) (slice_index_or p.cells c [])) (sym has) (cell_plans c x was)

  model_plan : (c : ℕ) (x : Option Model) → slice_get s.models c ≡ x → (ports : List Port) → option_map (λ (y : Model). y.ports) x ≡ Some ports
      → IsPlanOf (own_net s (ModelBody c)) (names_in n.symbols s (ModelBody c)) (slice_index_or p.models c [])
  model_plan c None absent ports h = cc
  model_plan c (Some x) there ports h =
      let was : slice_get models c ≡ Some x = ap (λ ms. slice_get ms c) (sym is.2) ∙ there in
      let has : ports_in s (ModelBody c) ≡ Some x.ports = ap (option_map (λ (y : Model). y.ports)) there in
      subst (λ o. IsPlanOf (of_ports o) (port_names o) (slice_index_or p.models c [])) (sym has) (model_plans c x was)

  plan_at : (b : Body) → HasBody s b → IsPlanOf (own_net s b) (names_in n.symbols s b) (rows_at p b)
  plan_at (ModuleBody m) (ports, has) = module_plan m (slice_get s.modules m) refl ports has
  plan_at (CellBody c) (ports, has) = cell_plan c (slice_get s.cells.cells c) refl ports has
  plan_at (ModelBody c) (ports, has) = model_plan c (slice_get s.models c) refl ports has

  pub all_plans : ArePlans s n.symbols p
  all_plans = record {
    modules = module_count ∙ sym (ap length is.0);
    cells = cell_count ∙ sym (ap (λ (cs : Cells). length cs.cells) is.1);
    models = model_count ∙ sym (ap length is.2);
    each = plan_at;
  }
