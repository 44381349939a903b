-- Graphs that grow bit by bit.
use Rattle.std.proofs.Common.{◌≡◌, ℕ, ◌+◌, ◌<◌, ◌≤◌, ◌⊎◌, inl, inr, List, [], ◌∷◌, ◌++◌, Option, Some, get_or, length, slice_get, sym, ap, ◌∙◌, subst, arith}
use Rattle.std.specs.Option.{option_to_list}
use Rattle.std.proofs.lemmas.Bool.{cases_lt}
use Rattle.std.proofs.lemmas.List.{get_or_append_left, get_or_at}
use Rattle.design_rows.specs.declared.tables.Feed.{Feed}
use Rattle.net_inner.specs.declared.inner.Inner.{Inner}
use Rattle.net_instances.specs.declared.numbering.InstanceRow.{InstanceRow}
use Rattle.net_loops.specs.Graphs.{IsGraphRow, inner_bit, linked_bit}

pub rows_more : (rows : List InstanceRow) (inner : Inner) (feeds : List Feed) (graph new : List (List ℕ)) (sources : List ℕ) (bit : ℕ) → length graph ≡ bit → new ≡ graph ++ sources ∷ []
    → ((k : ℕ) → k < bit → IsGraphRow rows inner feeds k (get_or graph k [])) → IsGraphRow rows inner feeds bit sources
    → (k : ℕ) → k < bit + 1 → IsGraphRow rows inner feeds k (get_or new k [])
rows_more rows inner feeds graph new sources bit count grown old here k within =
    subst (λ g. IsGraphRow rows inner feeds k (get_or g k [])) (sym grown) (by (cases_lt k bit))
  where
    by : (k < bit) ⊎ (bit ≤ k) → IsGraphRow rows inner feeds k (get_or (graph ++ sources ∷ []) k [])
    by (inl early) = subst (IsGraphRow rows inner feeds k) (sym (get_or_append_left graph (sources ∷ []) [] k (omega (arith, count, early)))) (old k early)
    by (inr late) =
        let last : length graph ≡ k = omega (arith, count, late, within) in
        let same : bit ≡ k = omega (arith, late, within) in
        subst (IsGraphRow rows inner feeds k) (sym (get_or_at graph sources [] [] k last)) (subst (λ (n : ℕ). IsGraphRow rows inner feeds n sources) same here)

-- what feeds a bit, by its owner
pub graph_row : (rows : List InstanceRow) (inner : Inner) (feeds : List Feed) (bit owner : ℕ) (row : InstanceRow) (feed : Feed) (linked inside : Option ℕ) → slice_get rows owner ≡ Some row
    → row.first_bit ≤ bit → ((y : InstanceRow) → slice_get rows (owner + 1) ≡ Some y → bit < y.first_bit) → slice_get feeds bit ≡ Some feed → linked ≡ linked_bit (Some feed)
    → inside ≡ inner_bit inner row bit → IsGraphRow rows inner feeds bit (option_to_list linked ++ option_to_list inside)
graph_row rows inner feeds bit owner row feed linked inside there before next at_feed link within = record {
  owner = owner;
  row = row;
  last = record { there = there; before = before; next = next };
  is = ap (λ o. option_to_list o ++ option_to_list inside) (link ∙ ap linked_bit (sym at_feed)) ∙ ap (λ o. option_to_list (linked_bit (slice_get feeds bit)) ++ option_to_list o) within;
}
