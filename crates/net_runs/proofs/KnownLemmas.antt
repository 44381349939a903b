-- What is known of symbols.
use Rattle.std.proofs.Common.{◌≡◌, ◌≢◌, ℕ, ◌+◌, ◌<◌, ◌≤◌, ◌⊎◌, inl, inr, true, List, [], length, set, refl, sym, ap, ◌∙◌, subst, arith}
use Rattle.std.specs.Prelude.{Option, Some, None, IfSome, MatchOption, option_map, slice_get}
use Rattle.std.proofs.lemmas.Bool.{cases_eq}
use Rattle.std.proofs.lemmas.List.{length-set}
use Rattle.std.proofs.lemmas.Option.{get_or_from_slice_get, none-some, same_Some, slice_get-get_or, slice_get_within}
use Rattle.pw_defs.specs.declared.design.Body.TheVariants.{Module as ModuleBody}
use Rattle.pw_defs.specs.declared.netlist.Module.{Module}
use Rattle.list_defs.specs.Members.{all_differ, same_name}
use Rattle.list_defs.proofs.Longer.{slice_get-set_other, slice_get-set_same}
use Rattle.list_defs.proofs.NameLemmas.{place_of-own}
use Rattle.design_defs.specs.Hierarchy.{Sources}
use Rattle.module_rows.specs.View.{name_at}
use Rattle.module_rows.proofs.ReadLemmas.{read_fits}
use Rattle.net_places.specs.declared.plans.Plans.{Plans}
use Rattle.net_places.specs.declared.rows.NetRow.{NetRow}
use Rattle.net_places.specs.Nets.{own_net}
use Rattle.net_places.specs.Plans.{rows_at}
use Rattle.net_places.specs.Tables.{IsPlanOf, bits_in}
use Rattle.net_runs.specs.declared.known.Known.{Known}
use Rattle.net_runs.specs.declared.plain.Opened.{Opened}
use Rattle.net_runs.specs.Known.{AreAllKnown, AreKnown, HasKnown, IsKnown, IsKnownIn, IsNetRow, IsOpen, known_in, noted}
use Rattle.net_runs.proofs.RowNumbers.{net_row, no_row}

pub noted_length : (known : List (Option Known)) (holder net : ℕ) (o : Option NetRow) → length (noted known holder net o) ≡ length known
noted_length known holder net None = refl
noted_length known holder net (Some row) = length-set known row.name (Some (record { holder = holder; net = net }))

-- a row that is noted leaves all that is known right
pub noted_known : (p : Plans) (known : List (Option Known)) (holder net : ℕ) (o : Option NetRow) → slice_get (rows_at p (ModuleBody holder)) net ≡ o → AreKnown p known
    → AreKnown p (noted known holder net o)
noted_known p known holder net None at are symbol k there = are symbol k there
noted_known p known holder net (Some row) at are symbol k there = by (cases_eq symbol row.name)
  where
    one : Known
    one = record { holder = holder; net = net }

    within : symbol < length known
    within =
        omega (arith, length-set known row.name (Some one), slice_get_within (set known row.name (Some one)) symbol (Some k) there)

    by : (symbol ≡ row.name) ⊎ (symbol ≢ row.name) → IsKnown p symbol k
    by (inl same) =
        let here : slice_get (set known row.name (Some one)) symbol ≡ Some (Some one) = ap (slice_get (set known row.name (Some one))) same
        ∙ slice_get-set_same known row.name (Some one) (omega (arith, within, same)) in
        let is : one ≡ k = same_Some one k (same_Some (Some one) (Some k) (sym here ∙ there)) in
        subst (IsKnown p symbol) is (record { row = row; there = at; named = sym same })
    by (inr other) = are symbol k (sym (slice_get-set_other known row.name symbol (Some one) other) ∙ there)

-- one row more is noted
pub noted_more : (rows : List NetRow) (known : List (Option Known)) (holder net : ℕ) (o : Option NetRow) → slice_get rows net ≡ o → HasKnown holder rows net known
    → HasKnown holder rows (net + 1) (noted known holder net o)
noted_more rows known holder net o at has i row under there within = by o at (cases_eq i net)
  where
    before : i ≢ net → row.name < length known → IsKnownIn holder known row.name
    before other inside = has i row (omega (arith, under, other)) there inside

    by : (o : Option NetRow) → slice_get rows net ≡ o → (i ≡ net) ⊎ (i ≢ net) → IsKnownIn holder (noted known holder net o) row.name
    by None none (inl same) = let both : None ≡ Some row = sym none ∙ ap (slice_get rows) (sym same) ∙ there in cc
    by None none (inr other) = before other (omega (arith, within, noted_length known holder net o))
    by (Some r) is (inl same) =
        let one : Known = record { holder = holder; net = net } in
        let r_is : r ≡ row = same_Some r row (sym is ∙ ap (slice_get rows) (sym same) ∙ there) in
        let P : NetRow → Type 0 = λ x. slice_get (set known x.name (Some one)) row.name ≡ Some (Some one) in
        let here = slice_get-set_same known row.name (Some one) (omega (arith, within, noted_length known holder net o)) in
        record { of_symbol = one; there = subst P (sym r_is) here; is_holder = refl }
    by (Some r) is (inr other) = again (cases_eq row.name r.name)
      where
        one : Known
        one = record { holder = holder; net = net }

        inside : row.name < length known
        inside = omega (arith, within, noted_length known holder net o)

        again : (row.name ≡ r.name) ⊎ (row.name ≢ r.name) → IsKnownIn holder (set known r.name (Some one)) row.name
        again (inl same) =
            record {
              of_symbol = one;
              there = ap (slice_get (set known r.name (Some one))) same ∙ slice_get-set_same known r.name (Some one) (omega (arith, inside, same));
              is_holder = refl;
            }
        again (inr differ) =
            let was = before other inside in
            record {
              of_symbol = was.of_symbol;
              there = slice_get-set_other known r.name row.name (Some one) differ ∙ was.there;
              is_holder = was.is_holder;
            }

-- two symbols of one spelling are one
one_symbol : (symbols : List (List ℕ)) (a b : ℕ) → all_differ same_name symbols ≡ true → a < length symbols → b < length symbols → name_at symbols a ≡ name_at symbols b → a ≡ b
one_symbol symbols a b differ in_a in_b same =
    let x = name_at symbols b in
    let at_a = place_of-own x symbols a differ (slice_get-get_or symbols a [] in_a ∙ ap Some same) in
    let at_b = place_of-own x symbols b differ (slice_get-get_or symbols b [] in_b) in
    same_Some a b (sym at_a ∙ at_b)

-- A symbol is known in the module that is open, or it is that of none of its nets.
module _ (s : Sources) (o : Opened) (m : Module) (is : IsOpen s o m) (known : List (Option Known)) (are : AreAllKnown o.netlist.symbols o.plans o.holder known) (symbol : ℕ)
    (within : symbol < length o.netlist.symbols) where
  abbrev rows : List NetRow
  rows = rows_at o.plans (ModuleBody o.holder)

  abbrev name : List ℕ
  name = name_at o.netlist.symbols symbol

  plan : IsPlanOf (own_net s (ModuleBody o.holder)) o.netlist.symbols (rows_at o.plans (ModuleBody o.holder))
  plan = is.plans.each (ModuleBody o.holder) (m.ports, ap (option_map (λ (x : Module). x.ports)) is.is_module)

  pub unknown_net : ((k : Known) → slice_get known symbol ≡ Some (Some k) → k.holder ≢ o.holder) → own_net s (ModuleBody o.holder) (name_at o.netlist.symbols symbol) ≡ None
  unknown_net none = no_row s (ModuleBody o.holder) o.netlist.symbols rows plan name absent
    where
      absent : (i : ℕ) (row : NetRow) → slice_get rows i ≡ Some row → name_at o.netlist.symbols row.name ≢ name
      absent i row at same =
          let inside : row.name < length o.netlist.symbols = read_fits (λ (r : NetRow). r.name < length o.netlist.symbols) rows i row plan.named at in
          let here : row.name ≡ symbol = one_symbol o.netlist.symbols row.name symbol are.differ inside within same in
          let has = are.all i row (slice_get_within rows i row at) at (omega (arith, inside, are.count)) in
          none has.of_symbol (ap (slice_get known) (sym here) ∙ has.there) has.is_holder

  pub known_net : (k : Known) (result : Option NetRow) → slice_get known symbol ≡ Some (Some k) → k.holder ≡ o.holder → result ≡ slice_get rows k.net
      → IfSome result (λ _. bits_in rows ≤ 18446744073709551615) → MatchOption result (own_net s (ModuleBody o.holder) name ≡ None) (IsNetRow s (ModuleBody o.holder) name)
  known_net k result there here gives few = by result gives few
    where
      has : IsKnown o.plans symbol k
      has = are.nets symbol k there

      row_there : slice_get rows k.net ≡ Some has.row
      row_there = ap (λ (h : ℕ). slice_get (rows_at o.plans (ModuleBody h)) k.net) (sym here) ∙ has.there

      by : (r : Option NetRow) → r ≡ slice_get rows k.net → IfSome r (λ _. bits_in rows ≤ 18446744073709551615)
          → MatchOption r (own_net s (ModuleBody o.holder) name ≡ None) (IsNetRow s (ModuleBody o.holder) name)
      by None e few = let both : None ≡ Some has.row = e ∙ row_there in cc
      by (Some row) e few =
          let same : row ≡ has.row = same_Some row has.row (e ∙ row_there) in
          net_row s (ModuleBody o.holder) o.netlist.symbols rows plan k.net row (sym e) name (ap (name_at o.netlist.symbols) (ap (λ (r : NetRow). r.name) same ∙ has.named)) few

  pub missing_net : known_in known symbol ≡ None → own_net s (ModuleBody o.holder) (name_at o.netlist.symbols symbol) ≡ None
  missing_net none = unknown_net (λ k there here. let both : Some k ≡ None = sym (get_or_from_slice_get known symbol (Some k) None there) ∙ none in absurd (none-some k (sym both)))

  pub other_net : (k : Known) → known_in known symbol ≡ Some k → k.holder ≢ o.holder → own_net s (ModuleBody o.holder) (name_at o.netlist.symbols symbol) ≡ None
  other_net k is_k other =
      unknown_net (λ j there here.
      let same : j ≡ k = same_Some j k (sym (get_or_from_slice_get known symbol (Some j) None there) ∙ is_k) in
      other (ap (λ (x : Known). x.holder) (sym same) ∙ here))

  pub here_net : (k : Known) (result : Option NetRow) → known_in known symbol ≡ Some k → k.holder ≡ o.holder → result ≡ slice_get (rows_at o.plans (ModuleBody o.holder)) k.net
      → IfSome result (λ _. bits_in (rows_at o.plans (ModuleBody o.holder)) ≤ 18446744073709551615)
      → MatchOption result (own_net s (ModuleBody o.holder) (name_at o.netlist.symbols symbol) ≡ None) (IsNetRow s (ModuleBody o.holder) (name_at o.netlist.symbols symbol))
  here_net k result is_k here gives few =
      known_net k result (slice_get-get_or known symbol None (omega (arith, within, are.count)) ∙ ap Some is_k) here gives few
