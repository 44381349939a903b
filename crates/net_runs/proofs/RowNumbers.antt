-- The bits of rows by their numbers.
use Rattle.std.proofs.Common.{◌≡◌, ◌≢◌, ℕ, ◌+◌, ◌<◌, ◌≤◌, List, [], ◌∷◌, get_or, map, refl, sym, ap, ◌∙◌, subst, arith}
use Rattle.std.specs.Prelude.{IfSome, MatchOption, Option, Some, None, option_map, option_and_then, slice_get}
use Rattle.std.proofs.lemmas.List.Sums.{sum_by-cons, sum_by_more_le}
use Rattle.std.proofs.lemmas.Option.{get_or_from_slice_get, slice_get-map, slice_get_within}
use Rattle.pw_defs.specs.declared.design.Body.{Body}
use Rattle.list_defs.proofs.Few.{place_of_member}
use Rattle.list_defs.proofs.Members.{IsIn-map, IsIn-map_from, IsIn-slice_get}
use Rattle.design_defs.specs.Hierarchy.{Sources}
use Rattle.design_defs.specs.Ranges.{width}
use Rattle.module_rows.specs.View.{name_at}
use Rattle.net_places.specs.declared.rows.NetRow.{NetRow}
use Rattle.net_places.specs.Finding.{row_name}
use Rattle.net_places.specs.Gathered.{net_by}
use Rattle.net_places.specs.Nets.{OwnNet, bit_count, first_bit, local_bits, own_net}
use Rattle.net_places.specs.Tables.{IsPlanOf, bits_in}
use Rattle.net_places.proofs.BitLaws.{bit_numbers, local_bits_are}
use Rattle.net_places.proofs.FindLemmas.{own_named}
use Rattle.net_runs.specs.Known.{IsNetRow}
use Rattle.net_runs.specs.LocalNumbers.{IsBitNumber}

-- nets have the bits of their rows
same_counts : (names : List (List ℕ)) (rows : List NetRow) → bit_count (map (net_by names) rows) ≡ bits_in rows
same_counts names [] = refl
same_counts names (row ∷ rows) =
    sum_by-cons (λ (n : OwnNet). width n.range) (net_by names row) (map (net_by names) rows)
    ∙ ap (λ (n : ℕ). width row.range + n) (same_counts names rows)
    ∙ sym (sum_by-cons (λ (r : NetRow). width r.range) row rows)

module _ (s : Sources) (body : Body) (names : List (List ℕ)) (rows : List NetRow) (plan : IsPlanOf (own_net s body) names rows) where
  module _ (i : ℕ) (row : NetRow) (at : slice_get rows i ≡ Some row) where
    net_there : slice_get (map (net_by names) rows) i ≡ Some (net_by names row)
    net_there = slice_get-map (net_by names) rows i ∙ ap (option_map (net_by names)) at

    first_is : row.first ≡ first_bit (map (net_by names) rows) i
    first_is =
        ap (λ (r : NetRow). r.first) (sym (get_or_from_slice_get rows i row row at)) ∙ plan.firsts i row (slice_get_within rows i row at)

    row_owned : own_net s body (name_at names row.name) ≡ Some (net_by names row)
    row_owned = plan.nets.each (net_by names row) (IsIn-map (net_by names) row rows (IsIn-slice_get rows i row at))

    row_bits : (place : ℕ) → place < width row.range → IsBitNumber s body (name_at names row.name, place) (row.first + place)
    row_bits place within =
        let nets = map (net_by names) rows in
        record {
          bits = local_bits nets;
          all = local_bits_are s body nets plan.nets;
          there = ap (λ (first : ℕ). slice_get (local_bits nets) (first + place)) first_is ∙ bit_numbers nets i (net_by names row) place net_there within;
        }

    row_ends : row.first + width row.range ≤ bits_in rows
    row_ends =
        let nets = map (net_by names) rows in
        let net = net_by names row in
        let within = slice_get_within nets i net net_there in
        let same : width (get_or nets i net).range ≡ width row.range = ap (λ (n : OwnNet). width n.range) (get_or_from_slice_get nets i net net net_there) in
        let up = sum_by_more_le (λ (n : OwnNet). width n.range) nets i net within in
        omega (arith, first_is, same, up, same_counts names rows)

    -- a row of a body with no more bits than 64 bits can number
    pub net_row : (name : List ℕ) → name_at names row.name ≡ name → bits_in rows ≤ 18446744073709551615 → IsNetRow s body name row
    net_row name named few =
        subst (λ (x : List ℕ). IsNetRow s body x row) named (record { owned = row_owned; bits = row_bits; ends = omega (arith, row_ends, few) })

  -- a name that no row has is that of no net
  pub no_row : (name : List ℕ) → ((i : ℕ) (row : NetRow) → slice_get rows i ≡ Some row → name_at names row.name ≢ name) → own_net s body name ≡ None
  no_row name none = by (own_net s body name) refl
    where
      by : (o : Option OwnNet) → own_net s body name ≡ o → own_net s body name ≡ None
      by None e = e
      by (Some n) e =
          let is : n.name ≡ name = own_named s body name n e in
          let from = IsIn-map_from (net_by names) n rows (plan.nets.all n (ap (own_net s body) is ∙ e)) in
          let there = place_of_member from.0 rows from.1 in
          absurd (none there.0 from.0 there.1 (sym (ap (λ (x : OwnNet). x.name) from.2) ∙ is))

-- the row of a number whose name is spelled so
pub row_spelled : (s : Sources) (body : Body) (names : List (List ℕ)) (rows : List NetRow) → IsPlanOf (own_net s body) names rows → (name : List ℕ) (i : ℕ) (result : Option NetRow)
    → row_name names rows i ≡ Some name → result ≡ slice_get rows i → IfSome result (λ _. bits_in rows ≤ 18446744073709551615)
    → MatchOption result (own_net s body name ≡ None) (IsNetRow s body name)
row_spelled s body names rows plan name i result spelled gives few = by result gives few
  where
    by : (r : Option NetRow) → r ≡ slice_get rows i → IfSome r (λ _. bits_in rows ≤ 18446744073709551615) → MatchOption r (own_net s body name ≡ None) (IsNetRow s body name)
    by None e few =
        let none : None ≡ Some name = ap (option_and_then (λ (r : NetRow). slice_get names r.name)) e ∙ spelled in
        cc
    by (Some row) e few =
        let named : slice_get names row.name ≡ Some name = ap (option_and_then (λ (r : NetRow). slice_get names r.name)) e ∙ spelled in
        net_row s body names rows plan i row (sym e) name (get_or_from_slice_get names row.name name [] named) few
