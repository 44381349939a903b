-- The row of a name is found by halves.
use Rattle.std.proofs.Common.{◌≡◌, ℕ, ◌+◌, ◌<◌, ◌≤◌, ◌⊎◌, inl, inr, Bool, true, false, List, [], length, map, refl, sym, ap, ◌∙◌, arith}
use Rattle.std.specs.Prelude.{Option, Some, None, option_map, option_and_then, slice_get, slice_index_or}
use Rattle.std.specs.declared.cmp.Ordering.{Ordering}
use Rattle.std.specs.declared.cmp.Ordering.TheVariants.{Less, Equal, Greater}
use Rattle.std.proofs.lemmas.Bool.{cases_order, false≢true, true≢false}
use Rattle.std.proofs.lemmas.Cmp.{nat_list_cmp_total, tied_itself}
use Rattle.std.proofs.lemmas.Option.{same_Some, slice_get-get_or, slice_get-map, slice_get_within}
use Rattle.pw_defs.specs.declared.cells.Cell.{Cell}
use Rattle.pw_defs.specs.declared.cells.Cells.{Cells}
use Rattle.pw_defs.specs.declared.cells.Pin.{Pin}
use Rattle.pw_defs.specs.declared.design.Body.{Body}
use Rattle.pw_defs.specs.declared.design.Body.TheVariants.{Module as ModuleBody, Cell as CellBody, Model as ModelBody}
use Rattle.pw_defs.specs.declared.model.Model.{Model}
use Rattle.pw_defs.specs.declared.netlist.Port.{Port}
use Rattle.list_defs.specs.Orders.{name_cmp}
use Rattle.list_defs.proofs.Few.{place_of_member}
use Rattle.list_defs.proofs.Members.{IsIn-map_from}
use Rattle.list_defs.proofs.NameLemmas.{same_name-equal, same_name-itself}
use Rattle.list_defs.proofs.Rising.{rising_at}
use Rattle.design_defs.specs.Bits.{range_in}
use Rattle.design_defs.specs.Hierarchy.{Sources, number_named, ports_in}
use Rattle.design_defs.specs.Ports.{port_of_pin}
use Rattle.module_rows.specs.declared.plain.Netlist.{Netlist}
use Rattle.module_rows.specs.View.{name_at}
use Rattle.module_rows.proofs.ReadLemmas.{read_fits}
use Rattle.net_places.specs.declared.rows.NetRow.{NetRow}
use Rattle.net_places.specs.Finding.{IsSplit, PassesInFront, is_before, is_less, is_same, names_among, row_before, row_name}
use Rattle.net_places.specs.Gathered.{net_by}
use Rattle.net_places.specs.Nets.{OwnNet, net_cmp, own_net}
use Rattle.net_places.specs.Plans.{IsOf, names_in, port_names}
use Rattle.net_places.specs.Tables.{IsPlanOf}

-- the spellings are those below any top
pub names_are : (n : Netlist) (cells : Cells) (models : List Model) (s : Sources) (body : Body) → IsOf n cells models s
    → names_among n cells models body ≡ names_in n.symbols s body
names_are n cells models s (ModuleBody m) is = refl
names_are n cells models s (CellBody c) is = cc
names_are n cells models s (ModelBody m) is = cc

-- the name of a pin
pub pin_spelled : (cells : List Cell) (c pin : ℕ) (cell : Cell) (p : Pin) → slice_get cells c ≡ Some cell → slice_get cell.pins pin ≡ Some p
    → slice_get (port_names (option_map (λ (x : Cell). map port_of_pin x.pins) (slice_get cells c))) pin ≡ Some p.name
pin_spelled cells c pin cell p at_cell at_pin =
    ap (λ (o : Option Cell). slice_get (port_names (option_map (λ (x : Cell). map port_of_pin x.pins) o)) pin) at_cell
    ∙ slice_get-map (λ (q : Port). q.name) (map port_of_pin cell.pins) pin
    ∙ ap (option_map (λ (q : Port). q.name)) (slice_get-map port_of_pin cell.pins pin ∙ ap (option_map port_of_pin) at_pin)

-- what is owned under a name has the name
pub own_named : (s : Sources) (body : Body) (name : List ℕ) (n : OwnNet) → own_net s body name ≡ Some n → n.name ≡ name
own_named s body name n e = by (range_in s body name) e
  where
    by : (o : Option (Option (ℕ × ℕ)))
        → option_map (λ (range : Option (ℕ × ℕ)). record { name = name; range = range; port = option_and_then (number_named (λ (p : Port). p.name) name) (ports_in s body) }) o ≡ Some n
        → n.name ≡ name
    by None e = cc
    by (Some range) e = sym (ap (λ (x : OwnNet). x.name) (same_Some _ n e))

-- SPLITS that are found by halves
pub split_all : (test : ℕ → Bool) (count : ℕ) → IsSplit test count 0 count
split_all test count = record { below = λ i under. absurd (omega arith); behind = λ i past within. absurd (omega arith) }

module _ (test : ℕ → Bool) (count low middle high : ℕ) (front : PassesInFront test count) (split : IsSplit test count low high) (within : middle < count) where
  pub split_up : test middle ≡ true → IsSplit test count (middle + 1) high
  split_up passes = record { below = λ i under. by i (cases_order i middle) (omega arith); behind = split.behind }
    where
      by : (i : ℕ) → (i ≡ middle) ⊎ ((i < middle) ⊎ (middle < i)) → i ≤ middle → test i ≡ true
      by i (inl same) under = ap test same ∙ passes
      by i (inr (inl before)) under = front i middle before within passes
      by i (inr (inr past)) under = absurd (omega arith)

  pub split_down : test middle ≡ false → IsSplit test count low middle
  split_down fails = record { below = split.below; behind = λ i past under. by i (cases_order i middle) past under (test i) refl }
    where
      by : (i : ℕ) → (i ≡ middle) ⊎ ((i < middle) ⊎ (middle < i)) → middle ≤ i → i < count → (b : Bool) → test i ≡ b → test i ≡ false
      by i cases past under false e = e
      by i (inl same) past under true e = ap test same ∙ fails
      by i (inr (inl before)) past under true e = absurd (omega arith)
      by i (inr (inr behind)) past under true e = absurd (false≢true (sym fails ∙ front middle i behind under e))

less_is : (o : Ordering) → is_less o ≡ true → o ≡ Less
less_is Less e = refl
less_is Equal e = absurd (false≢true e)
less_is Greater e = absurd (false≢true e)

-- ROWS in order
module _ (names : List (List ℕ)) (rows : List NetRow) (own : List ℕ → Option OwnNet) (plan : IsPlanOf own names rows) (name : List ℕ) where
  spelling : NetRow → List ℕ
  spelling row = name_at names row.name

  pub name_is : (i : ℕ) (row : NetRow) → slice_get rows i ≡ Some row → row_name names rows i ≡ Some (name_at names row.name)
  name_is i row at =
      ap (option_and_then (λ (r : NetRow). slice_get names r.name)) at
      ∙ slice_get-get_or names row.name [] (read_fits (λ (r : NetRow). r.name < length names) rows i row plan.named at)

  net_is : (i : ℕ) (row : NetRow) → slice_get rows i ≡ Some row → slice_get (map (net_by names) rows) i ≡ Some (net_by names row)
  net_is i row at = slice_get-map (net_by names) rows i ∙ ap (option_map (net_by names)) at

  in_order : (i j : ℕ) (x y : NetRow) → i < j → slice_get rows i ≡ Some x → slice_get rows j ≡ Some y → name_cmp (name_at names x.name) (name_at names y.name) ≡ Less
  in_order i j x y before at_i at_j = rising_at net_cmp (map (net_by names) rows) plan.nets.rising i j (net_by names x) (net_by names y) before (net_is i x at_i) (net_is j y at_j)

  before_is : (i : ℕ) (row : NetRow) → slice_get rows i ≡ Some row → row_before names rows name i ≡ is_less (name_cmp (name_at names row.name) name)
  before_is i row at = ap (is_before name) (name_is i row at)

  row_of : (i : ℕ) → i < length rows → (row : NetRow) × (slice_get rows i ≡ Some row)
  row_of i within = let d : NetRow = record { name = 0; range = None; port = None; first = 0 } in (slice_index_or rows i d, slice_get-get_or rows i d within)

  pub names_in_front : PassesInFront (row_before names rows name) (length rows)
  names_in_front i j before within passes =
      let x = row_of i (omega arith) in
      let y = row_of j within in
      let less = in_order i j x.0 y.0 before x.1 y.1 in
      let last = less_is (name_cmp (name_at names y.0.name) name) (sym (before_is j y.0 y.1) ∙ passes) in
      before_is i x.0 x.1 ∙ ap is_less (nat_list_cmp_total.trans (name_at names x.0.name) (name_at names y.0.name) name less last)

  itself_not_before : (i : ℕ) (row : NetRow) → slice_get rows i ≡ Some row → name_at names row.name ≡ name → row_before names rows name i ≡ false
  itself_not_before i row at same =
      before_is i row at ∙ ap (λ (x : List ℕ). is_less (name_cmp x name)) same ∙ ap is_less (tied_itself nat_list_cmp_total name)

  -- a row of the name can stand at the split alone
  at_split : (cut i : ℕ) (row : NetRow) → IsSplit (row_before names rows name) (length rows) cut cut → slice_get rows i ≡ Some row → name_at names row.name ≡ name → i ≡ cut
  at_split cut i row split at same = by (cases_order i cut)
    where
      within : i < length rows
      within = slice_get_within rows i row at

      by : (i ≡ cut) ⊎ ((i < cut) ⊎ (cut < i)) → i ≡ cut
      by (inl here) = here
      by (inr (inl before)) = absurd (false≢true (sym (itself_not_before i row at same) ∙ split.below i before))
      by (inr (inr behind)) =
          let x = row_of cut (omega (arith, within, behind)) in
          let less : name_cmp (name_at names x.0.name) name ≡ Less = ap (name_cmp (name_at names x.0.name)) (sym same) ∙ in_order cut i x.0 row behind x.1 at in
          absurd (true≢false (sym (before_is cut x.0 x.1 ∙ ap is_less less) ∙ split.behind cut (omega arith) (omega (arith, within, behind))))

  pub same_there : (cut : ℕ) → is_same name (row_name names rows cut) ≡ true → row_name names rows cut ≡ Some name
  same_there cut e = by (row_name names rows cut) e
    where
      by : (o : Option (List ℕ)) → is_same name o ≡ true → o ≡ Some name
      by None e = absurd (false≢true e)
      by (Some x) e = ap Some (same_name-equal x name e)

  pub none_owned : (cut : ℕ) → IsSplit (row_before names rows name) (length rows) cut cut → is_same name (row_name names rows cut) ≡ false
      → ((n : OwnNet) → own name ≡ Some n → n.name ≡ name) → own name ≡ None
  none_owned cut split unlike named = by (own name) refl
    where
      by : (o : Option OwnNet) → own name ≡ o → own name ≡ None
      by None e = e
      by (Some n) e =
          let is : n.name ≡ name = named n e in
          let from = IsIn-map_from (net_by names) n rows (plan.nets.all n (ap own is ∙ e)) in
          let there = place_of_member from.0 rows from.1 in
          let same : name_at names from.0.name ≡ name = sym (ap (λ (x : OwnNet). x.name) from.2) ∙ is in
          let here : there.0 ≡ cut = at_split cut there.0 from.0 split there.1 same in
          let spelled : row_name names rows cut ≡ Some name = ap (row_name names rows) (sym here) ∙ name_is there.0 from.0 there.1 ∙ ap Some same in
          absurd (true≢false (sym (same_name-itself name) ∙ sym (ap (is_same name) spelled) ∙ unlike))
