-- The listed numbers are those of all ports.
use Rattle.std.proofs.Common.{◌≡◌, ℕ, zero, suc, ◌+◌, ◌<◌, ◌≤◌, List, [], ◌∷◌, ◌++◌, map, length, Option, Some, None, slice_get, inl, inr, refl, sym, ap, ◌∙◌, subst, arith}
use Rattle.std.specs.List.{flat_map, range_with_len}
use Rattle.std.specs.Option.{option_and_then, option_map}
use Rattle.std.proofs.lemmas.Bool.{cases_eq}
use Rattle.std.proofs.lemmas.List.{append_assoc, flat_map_more}
use Rattle.std.proofs.lemmas.List.FromFn.{map-range_with_len_more}
use Rattle.std.proofs.lemmas.Option.{slice_get_cases, slice_get_within}
use Rattle.pw_defs.specs.declared.cells.Cell.{Cell}
use Rattle.pw_defs.specs.declared.cells.Cells.{Cells}
use Rattle.pw_defs.specs.declared.design.Body.{Body}
use Rattle.pw_defs.specs.declared.design.Body.TheVariants.{Module as ModuleBody, Cell as CellBody, Model as ModelBody}
use Rattle.pw_defs.specs.declared.model.Model.{Model}
use Rattle.pw_defs.specs.declared.netlist.Module.{Module}
use Rattle.pw_defs.specs.declared.netlist.Port.{Port}
use Rattle.design_defs.specs.Ports.{port_of_pin, ports_among}
use Rattle.list_defs.specs.Members.{IsIn}
use Rattle.list_defs.proofs.Members.{IsIn-append_cases, IsIn-append_left, IsIn-append_right, IsIn-flat_map, IsIn-flat_map_from, IsIn-map, IsIn-map_from}
use Rattle.port_order.specs.Listings.{all_numbers, count_of, numbered, numbers_of}
use Rattle.port_order.specs.PortOrders.{IsPort, port_in}
use Rattle.port_order.specs.declared.keys.PortNumber.{PortNumber}

-- one number more
pub next_number : (body : Body) (old : List PortNumber) (n : ℕ) → (old ++ numbered body n) ++ record { body = body; port = n } ∷ [] ≡ old ++ numbered body (n + 1)
next_number body old n =
    append_assoc old (numbered body n) (record { body = body; port = n } ∷ [])
    ∙ ap (λ more. old ++ more) (sym (map-range_with_len_more (λ (port : ℕ). record { body = body; port = port }) 0 n n (omega arith)))

module _ (modules : List Module) (cells : Cells) (models : List Model) where
  -- the numbers of one body more
  pub next_body : (make : ℕ → Body) (old : List PortNumber) (n : ℕ)
      → (old ++ all_numbers modules cells models make n) ++ numbers_of modules cells models (make n) ≡ old ++ all_numbers modules cells models make (n + 1)
  next_body make old n =
      flat_map_more (numbers_of modules cells models) old (map make (range_with_len 0 n)) (make n)
      ∙ ap (λ bodies. old ++ flat_map (numbers_of modules cells models) bodies) (sym (map-range_with_len_more make 0 n n (omega arith)))

-- the numbers of a range
pub in_range : (x a n : ℕ) → IsIn x (range_with_len a n) → (a ≤ x) × (x < a + n)
in_range x a zero there = absurd there
in_range x a (suc n) (inl same) = (omega (arith, same), omega (arith, same))
in_range x a (suc n) (inr later) = let rest = in_range x (a + 1) n later in (omega (arith, rest.0), omega (arith, rest.1))

pub range_has : (x a n : ℕ) → a ≤ x → x < a + n → IsIn x (range_with_len a n)
range_has x a zero from to = absurd (omega (arith, from, to))
range_has x a (suc n) from to =
    elim (cases_eq x a) [ inl same ↦ inl same | inr other ↦ inr (range_has x (a + 1) n (omega (arith, from, other)) (omega (arith, to))) ]

-- a port is one of as many as there are
port_of : (k : ℕ) (ports : Option (List Port)) → k < count_of ports → (p : Port) × (option_and_then (λ (xs : List Port). slice_get xs k) ports ≡ Some p)
port_of k None within = absurd (omega (arith, within))
port_of k (Some ports) within = elim (slice_get_cases ports k).1 [ inl here ↦ (here.0, here.2) | inr past ↦ absurd (omega (arith, within, past.0)) ]

counted : (k : ℕ) (ports : Option (List Port)) (p : Port) → option_and_then (λ (xs : List Port). slice_get xs k) ports ≡ Some p → k < count_of ports
counted k None p there = cc
counted k (Some ports) p there = slice_get_within ports k p there

-- what a table has something of is one of its numbers
within_table : {X : Type 0} (of : X → List Port) (xs : List X) (m : ℕ) (ports : List Port) → option_map of (slice_get xs m) ≡ Some ports → m < length xs
within_table of xs m ports is = elim (slice_get_cases xs m).1 [
  | inl here ↦ here.1
  | inr past ↦ (let none : option_map of (slice_get xs m) ≡ None = ap (option_map of) past.1 in cc)
]

module _ (modules : List Module) (cells : Cells) (models : List Model) where
  each_of_kind : (make : ℕ → Body) (count : ℕ) (n : PortNumber) → IsIn n (all_numbers modules cells models make count) → IsPort modules cells models n
  each_of_kind make count n there =
      let found = IsIn-flat_map_from (numbers_of modules cells models) (map make (range_with_len 0 count)) n there in
      let ports = ports_among modules cells models found.0 in
      let number = IsIn-map_from (λ (port : ℕ). record { body = found.0; port = port }) n (range_with_len 0 (count_of ports)) found.2 in
      let within = in_range number.0 0 (count_of ports) number.1 in
      subst (IsPort modules cells models) (sym number.2) (port_of number.0 ports (omega (arith, within.1)))

  own_number : (n : PortNumber) → IsPort modules cells models n → IsIn n (numbers_of modules cells models n.body)
  own_number n is =
      IsIn-map (λ (port : ℕ). record { body = n.body; port = port }) n.port (range_with_len 0 (count_of (ports_among modules cells models n.body)))
      (range_has n.port 0 (count_of (ports_among modules cells models n.body)) (omega arith) (omega (arith, counted n.port (ports_among modules cells models n.body) is.0 is.1)))

  all_of_kind : (make : ℕ → Body) (count m : ℕ) (n : PortNumber) → n.body ≡ make m → m < count → IsPort modules cells models n → IsIn n (all_numbers modules cells models make count)
  all_of_kind make count m n of within is =
      IsIn-flat_map (numbers_of modules cells models) (make m) (map make (range_with_len 0 count)) n
      (IsIn-map make m (range_with_len 0 count) (range_has m 0 count (omega arith) (omega (arith, within))))
      (subst (λ body. IsIn n (numbers_of modules cells models body)) of (own_number n is))

  abbrev pub of_modules : List PortNumber
  of_modules = all_numbers modules cells models ModuleBody (length modules)

  abbrev pub of_cells : List PortNumber
  of_cells = all_numbers modules cells models CellBody (length cells.cells)

  abbrev pub of_models : List PortNumber
  of_models = all_numbers modules cells models ModelBody (length models)

  -- the numbers of all kinds are of ports
  pub each_listed : (n : PortNumber) → IsIn n ((of_modules ++ of_cells) ++ of_models) → IsPort modules cells models n
  each_listed n there = elim (IsIn-append_cases n (of_modules ++ of_cells) of_models there) [
    | inr in_models ↦ each_of_kind ModelBody (length models) n in_models
    | inl front ↦ elim (IsIn-append_cases n of_modules of_cells front) [
      | inl in_modules ↦ each_of_kind ModuleBody (length modules) n in_modules
      | inr in_cells ↦ each_of_kind CellBody (length cells.cells) n in_cells
    ]
  ]

  ports_there : (n : PortNumber) → IsPort modules cells models n → (ports : List Port) × (ports_among modules cells models n.body ≡ Some ports)
  ports_there n is = by (ports_among modules cells models n.body) refl
    where
      by : (o : Option (List Port)) → ports_among modules cells models n.body ≡ o → (ports : List Port) × (ports_among modules cells models n.body ≡ Some ports)
      by (Some ports) e = (ports, e)
      by None e =
          let none : port_in modules cells models n ≡ None = ap (option_and_then (λ (xs : List Port). slice_get xs n.port)) e in
          let some = is.1 in
          cc

  -- and those of all ports
  pub all_listed : (n : PortNumber) → IsPort modules cells models n → IsIn n ((of_modules ++ of_cells) ++ of_models)
  all_listed n is = by n.body refl (ports_there n is)
    where
      by : (body : Body) → n.body ≡ body → (ports : List Port) × (ports_among modules cells models n.body ≡ Some ports) → IsIn n ((of_modules ++ of_cells) ++ of_models)
      by (ModuleBody m) e has =
          let own : ports_among modules cells models (ModuleBody m) ≡ Some has.0 = ap (ports_among modules cells models) (sym e) ∙ has.1 in
          let within = within_table (λ (x : Module). x.ports) modules m has.0 own in
          IsIn-append_left n (of_modules ++ of_cells) of_models (IsIn-append_left n of_modules of_cells (all_of_kind ModuleBody (length modules) m n e within is))
      by (CellBody c) e has =
          let own : ports_among modules cells models (CellBody c) ≡ Some has.0 = ap (ports_among modules cells models) (sym e) ∙ has.1 in
          let within = within_table (λ (x : Cell). map port_of_pin x.pins) cells.cells c has.0 own in
          IsIn-append_left n (of_modules ++ of_cells) of_models (IsIn-append_right n of_modules of_cells (all_of_kind CellBody (length cells.cells) c n e within is))
      by (ModelBody m) e has =
          let own : ports_among modules cells models (ModelBody m) ≡ Some has.0 = ap (ports_among modules cells models) (sym e) ∙ has.1 in
          let within = within_table (λ (x : Model). x.ports) models m has.0 own in
          IsIn-append_right n (of_modules ++ of_cells) of_models (all_of_kind ModelBody (length models) m n e within is)
