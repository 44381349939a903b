-- The numbers of bodies' bits, and ones.
use Rattle.std.proofs.Common.{◌≡◌, ℕ, ◌<◌, ◌≤◌, ◌⊎◌, inl, inr, List, [], ◌∷◌, Option, None, Some, length, map, min, replicate, refl, sym, ap, ◌∙◌, subst, arith}
use Rattle.std.specs.Prelude.{option_and_then, option_map, slice_get, slice_index}
use Rattle.std.specs.Cmp.{IsTotalOrder}
use Rattle.std.specs.List.{range_with_len}
use Rattle.std.specs.declared.cmp.Ordering.{Ordering}
use Rattle.std.specs.declared.cmp.Ordering.TheVariants.{Less}
use Rattle.std.proofs.lemmas.Bool.{cases_lt}
use Rattle.std.proofs.lemmas.Cmp.{nat_cmp_total, nat_list_cmp_total, on_total, then_total}
use Rattle.std.proofs.lemmas.List.{get_or-replicate, get_or_past}
use Rattle.std.proofs.lemmas.List.FromFn.{get_or-map-range_with_len}
use Rattle.std.proofs.lemmas.Option.{slice_get_within}
use Rattle.pw_defs.specs.declared.cells.Cell.{Cell}
use Rattle.pw_defs.specs.declared.cells.Cells.{Cells}
use Rattle.pw_defs.specs.declared.design.Body.{Body}
use Rattle.pw_defs.specs.declared.design.Body.TheVariants.{Module as ModuleBody, Cell as CellBody, Model as ModelBody}
use Rattle.pw_defs.specs.declared.model.Model.{Model}
use Rattle.pw_defs.specs.declared.netlist.Module.{Module}
use Rattle.pw_defs.specs.declared.netlist.Port.{Port}
use Rattle.list_defs.specs.Members.{IsIn}
use Rattle.list_defs.specs.Orders.{IsRising}
use Rattle.list_defs.proofs.Rising.{each_in, not_before_itself}
use Rattle.design_defs.specs.Bits.{port_named, range_in}
use Rattle.design_defs.specs.Hierarchy.{Sources, module_at, ports_in, HasBody}
use Rattle.design_defs.specs.Places.{net_range}
use Rattle.design_defs.specs.Ports.{port_of_pin}
use Rattle.design_defs.proofs.WalkEnds.{there_within}
use Rattle.module_rows.specs.declared.plain.Netlist.{Netlist}
use Rattle.net_outline.specs.declared.counts.BodyKind.{BodyKind}
use Rattle.net_outline.specs.declared.counts.BodyKind.TheVariants.{Module as OfModule, Cell as OfCell, Model as OfModel}
use Rattle.net_outline.specs.Outline.{bits_at, body_of, own_places}
use Rattle.net_places.specs.declared.plans.Plans.{Plans}
use Rattle.net_places.specs.declared.rows.NetRow.{NetRow}
use Rattle.net_places.specs.Gathered.{net_by}
use Rattle.net_places.specs.Nets.{AreLocalBits, LocalBit, local_bits, local_cmp}
use Rattle.net_places.specs.Plans.{ArePlans, IsOf, names_in, rows_at}
use Rattle.net_places.specs.Tables.{bits_in}
use Rattle.net_places.proofs.BitLaws.{local_bits_are, local_length, row_counts}
use Rattle.net_sizes.specs.declared.sizes.Counts.{Counts}
use Rattle.net_sizes.specs.Sizes.{AreCounted, AreOwnSpots, HasBit, count_in, one_each}
use Rattle.net_sizes.specs.Under.{AllDiffer}

-- what rises is different
rising_differ : {X : Type 0} (cmp : X → X → Ordering) → IsTotalOrder cmp → (xs : List X) → IsRising cmp xs → AllDiffer xs
rising_differ cmp total [] rising = tt
rising_differ cmp total (x ∷ xs) rising =
    ((λ there. not_before_itself cmp total x (each_in (λ y. cmp x y ≡ Less) xs x rising.0 there)), rising_differ cmp total xs rising.1)

pub local_total : IsTotalOrder local_cmp
local_total = then_total (on_total (λ (x : LocalBit). x.0) nat_list_cmp_total) (on_total (λ (x : LocalBit). x.1) nat_cmp_total)

-- how many bits rows have
rows_count : (names : List (List ℕ)) (rows : List NetRow) → length (local_bits (map (net_by names) rows)) ≡ bits_in rows
rows_count names rows = local_length (map (net_by names) rows) ∙ row_counts names rows

-- a module, cell or model is there, or its number is past the end
there_or_past : {X : Type 0} (f : X → List Port) (xs : List X) (n : ℕ) → ((ports : List Port) × (option_map f (slice_get xs n) ≡ Some ports)) ⊎ (length xs ≤ n)
there_or_past f xs n = by (cases_lt n (length xs))
  where
    by : (n < length xs) ⊎ (length xs ≤ n) → ((ports : List Port) × (option_map f (slice_get xs n) ≡ Some ports)) ⊎ (length xs ≤ n)
    by (inl within) = let x = there_within xs n within in inl (f x.0, ap (option_map f) x.1)
    by (inr past) = inr past

-- the number of a module, cell or model that is there is within the list
number_within : {X : Type 0} (f : X → List Port) (xs : List X) (n : ℕ) (o : Option X) (ports : List Port) → slice_get xs n ≡ o → option_map f o ≡ Some ports → n < length xs
number_within f xs n None ports at e = cc
number_within f xs n (Some x) ports at e = slice_get_within xs n x at

module _ (n : Netlist) (cells : Cells) (models : List Model) (s : Sources) (of : IsOf n cells models s) where
  -- how many there are of what a body is
  abbrev sort_count : BodyKind → ℕ
  sort_count OfModule = length n.modules
  sort_count OfCell = length cells.cells
  sort_count OfModel = length models

  body_within : (kind : BodyKind) (k : ℕ) → HasBody s (body_of kind k) → k < sort_count kind
  body_within OfModule k has = subst (λ (ms : List Module). k < length ms) of.0 (number_within (λ (x : Module). x.ports) s.modules k (slice_get s.modules k) has.0 refl has.1)
  body_within OfCell k has =
      subst (λ (cs : Cells). k < length cs.cells) of.1 (number_within (λ (x : Cell). map port_of_pin x.pins) s.cells.cells k (slice_get s.cells.cells k) has.0 refl has.1)
  body_within OfModel k has = subst (λ (ms : List Model). k < length ms) of.2 (number_within (λ (x : Model). x.ports) s.models k (slice_get s.models k) has.0 refl has.1)

  of_ports : (b : Body) (net : List ℕ) (range : Option (ℕ × ℕ)) (o : Option (List Port)) → ports_in s b ≡ o
      → option_map (λ (p : Port). p.range) (option_and_then (port_named net) o) ≡ Some range → HasBody s b
  of_ports b net range None none e = cc
  of_ports b net range (Some ports) there e = (ports, there)

  -- who owns a bit is there
  body_of_bit : (b : Body) (net : List ℕ) (range : Option (ℕ × ℕ)) → range_in s b net ≡ Some range → HasBody s b
  body_of_bit (ModuleBody k) net range is = of_module (module_at s k) refl is
    where
      of_module : (o : Option Module) → module_at s k ≡ o → option_and_then (λ (x : Module). net_range x net) o ≡ Some range → HasBody s (ModuleBody k)
      of_module None none e = cc
      of_module (Some m) there e = (m.ports, ap (option_map (λ (x : Module). x.ports)) there)
  body_of_bit (CellBody k) net range is = of_ports (CellBody k) net range (ports_in s (CellBody k)) refl is
  body_of_bit (ModelBody k) net range is = of_ports (ModelBody k) net range (ports_in s (ModelBody k)) refl is

  -- ones
  pub ones_counted : (counts : Counts) → counts.modules.items ≡ replicate (length n.modules) 1 → counts.cells.items ≡ replicate (length cells.cells) 1
      → counts.models.items ≡ replicate (length models) 1 → AreCounted s one_each counts 1000001
  ones_counted counts in_modules in_cells in_models = record { different = λ b. ((λ none. none), tt); count = one }
    where
      one : (b : Body) → HasBody s b → min 1000001 (count_in counts b) ≡ min 1000001 1
      one (ModuleBody k) has =
          ap (min 1000001) (ap (λ (xs : List ℕ). slice_index xs k) in_modules ∙ get_or-replicate (length n.modules) k 1 0 (body_within OfModule k has))
      one (CellBody k) has =
          ap (min 1000001) (ap (λ (xs : List ℕ). slice_index xs k) in_cells ∙ get_or-replicate (length cells.cells) k 1 0 (body_within OfCell k has))
      one (ModelBody k) has =
          ap (min 1000001) (ap (λ (xs : List ℕ). slice_index xs k) in_models ∙ get_or-replicate (length models) k 1 0 (body_within OfModel k has))

  -- bits
  module _ (symbols : List (List ℕ)) (p : Plans) (are : ArePlans s symbols p) where
    -- what isn't there has no rows
    there_or_none : (b : Body) → HasBody s b ⊎ (rows_at p b ≡ [])
    there_or_none (ModuleBody k) =
        elim (there_or_past (λ (x : Module). x.ports) s.modules k)
        [ inl has ↦ inl has | inr past ↦ inr (get_or_past p.modules k [] (omega (arith, past, are.modules))) ]
    there_or_none (CellBody k) =
        elim (there_or_past (λ (x : Cell). map port_of_pin x.pins) s.cells.cells k)
        [ inl has ↦ inl has | inr past ↦ inr (get_or_past p.cells k [] (omega (arith, past, are.cells))) ]
    there_or_none (ModelBody k) =
        elim (there_or_past (λ (x : Model). x.ports) s.models k)
        [ inl has ↦ inl has | inr past ↦ inr (get_or_past p.models k [] (omega (arith, past, are.models))) ]

    own_bits_are : (b : Body) → HasBody s b → AreLocalBits s b (own_places s symbols p b)
    own_bits_are b has = local_bits_are s b (map (net_by (names_in symbols s b)) (rows_at p b)) (are.each b has).nets

    abbrev places_by : Body → List NetRow → List LocalBit
    places_by b rows = local_bits (map (net_by (names_in symbols s b)) rows)

    bits_differ : (b : Body) → AllDiffer (own_places s symbols p b)
    bits_differ b =
        elim (there_or_none b) [
          | inl has ↦ rising_differ local_cmp local_total (own_places s symbols p b) (own_bits_are b has).rising
          | inr none ↦ subst (λ rows. AllDiffer (places_by b rows)) (sym none) tt
        ]

    pub bits_counted : (counts : Counts) → counts.modules.items ≡ map (bits_at p OfModule) (range_with_len 0 (length n.modules))
        → counts.cells.items ≡ map (bits_at p OfCell) (range_with_len 0 (length cells.cells))
        → counts.models.items ≡ map (bits_at p OfModel) (range_with_len 0 (length models))
        → (b : Body) → HasBody s b → count_in counts b ≡ bits_in (rows_at p b)
    bits_counted counts in_modules in_cells in_models (ModuleBody k) has =
        ap (λ (xs : List ℕ). slice_index xs k) in_modules
        ∙ get_or-map-range_with_len (bits_at p OfModule) 0 (length n.modules) k k 0 (body_within OfModule k has) (omega arith)
    bits_counted counts in_modules in_cells in_models (CellBody k) has =
        ap (λ (xs : List ℕ). slice_index xs k) in_cells
        ∙ get_or-map-range_with_len (bits_at p OfCell) 0 (length cells.cells) k k 0 (body_within OfCell k has) (omega arith)
    bits_counted counts in_modules in_cells in_models (ModelBody k) has =
        ap (λ (xs : List ℕ). slice_index xs k) in_models
        ∙ get_or-map-range_with_len (bits_at p OfModel) 0 (length models) k k 0 (body_within OfModel k has) (omega arith)

    pub are_counted : (counts : Counts) → ((b : Body) → HasBody s b → count_in counts b ≡ bits_in (rows_at p b)) → AreCounted s (own_places s symbols p) counts 8000001
    are_counted counts each = record {
      different = bits_differ;
      count = λ b has. ap (min 8000001) (each b has ∙ sym (rows_count (names_in symbols s b) (rows_at p b)));
    }

    -- the bits of the plans are those that the bodies own
    pub own_spots : AreOwnSpots s (own_places s symbols p)
    own_spots b net place = (given, found)
      where
        given : IsIn (net, place) (own_places s symbols p b) → HasBit s b net place
        given there =
            elim (there_or_none b) [
              | inl has ↦ (let is = (own_bits_are b has).each (net, place) there in record { range = is.range; is_range = is.is_range; within = is.within })
              | inr none ↦ absurd (subst (λ rows. IsIn (net, place) (places_by b rows)) none there)
            ]

        found : HasBit s b net place → IsIn (net, place) (own_places s symbols p b)
        found is = (own_bits_are b (body_of_bit b net is.range is.is_range)).all (net, place) (record { range = is.range; is_range = is.is_range; within = is.within })
