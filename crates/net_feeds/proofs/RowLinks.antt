-- The links of rows, one after the other.
use Rattle.std.proofs.Common.{◌≡◌, ℕ, ◌+◌, ◌<◌, List, [], ◌∷◌, ◌++◌, get_or, length, map, take, refl, sym, ap, ◌∙◌, arith, append-nil, append_assoc}
use Rattle.std.specs.Prelude.{Option, Some, None}
use Rattle.std.specs.List.{flat_map, range_with_len}
use Rattle.std.proofs.lemmas.Grind.{flat_map-append}
use Rattle.std.proofs.lemmas.List.{map-append, take_more}
use Rattle.std.proofs.lemmas.List.FromFn.{map-range_with_len_more}
use Rattle.net_instances.specs.declared.numbering.Instances.{Instances}
use Rattle.net_links.specs.LocalLinks.{end_after, links_of_row, locals}
use Rattle.net_links.specs.declared.rows.LinkEnd.{LinkEnd}
use Rattle.net_links.specs.declared.rows.LinkEnd.TheVariants.{Own, Child, Constant}
use Rattle.net_links.specs.declared.rows.LinkRow.{LinkRow}
use Rattle.net_feeds.specs.declared.links.LinkAt.{LinkAt}
use Rattle.net_feeds.specs.LinkNumbers.{bit_behind, end_number, link_at, links_at, links_before, links_of_rows}

-- a bit behind one that is behind another
behind_twice : (o : Option ℕ) (bit more : ℕ) → bit_behind more (bit_behind (bit + 0) o) ≡ bit_behind (bit + more) o
behind_twice None bit more = refl
behind_twice (Some first) bit more = ap Some (omega arith)

-- the bits of an end stand one behind another
pub end_behind : (made : Instances) (inst : ℕ) (e : LinkEnd) (more : ℕ) → bit_behind more (end_number made inst (end_after e 0)) ≡ end_number made inst (end_after e more)
end_behind made inst (Own bit) more = behind_twice _ bit more
end_behind made inst (Child line bit) more = behind_twice _ bit more
end_behind made inst Constant more = refl

-- a link of a row
abbrev pub link_of_row : Instances → ℕ → LinkRow → ℕ → LinkAt
link_of_row made inst row more = record { fed = end_number made inst (end_after row.fed more); source = end_number made inst (end_after row.source more); line = row.line }

pub row_whole : (made : Instances) (inst : ℕ) (row : LinkRow) → map (link_at made inst) (links_of_row row) ≡ map (link_of_row made inst row) (range_with_len 0 row.count)
row_whole made inst row = each (range_with_len 0 row.count)
  where
    each : (ks : List ℕ) → map (link_at made inst) (map (λ k. record { fed = end_after row.fed k; source = end_after row.source k; line = row.line }) ks) ≡ map (link_of_row made inst row) ks
    each [] = refl
    each (k ∷ ks) = ap (λ rest. link_of_row made inst row k ∷ rest) (each ks)

pub row_more : (made : Instances) (inst : ℕ) (row : LinkRow) (more : ℕ) (fed source one two : Option ℕ) → fed ≡ end_number made inst (end_after row.fed 0)
    → source ≡ end_number made inst (end_after row.source 0) → one ≡ bit_behind more fed → two ≡ bit_behind more source
    → (old now : List LinkAt) → now ≡ old ++ map (link_of_row made inst row) (range_with_len 0 more)
    → now ++ record { fed = one; source = two; line = row.line } ∷ [] ≡ old ++ map (link_of_row made inst row) (range_with_len 0 (more + 1))
row_more made inst row more fed source one two is_fed is_source is_one is_two old now is =
    let first : one ≡ end_number made inst (end_after row.fed more) = is_one ∙ ap (bit_behind more) is_fed ∙ end_behind made inst row.fed more in
    let second : two ≡ end_number made inst (end_after row.source more) = is_two ∙ ap (bit_behind more) is_source ∙ end_behind made inst row.source more in
    let front = map (link_of_row made inst row) (range_with_len 0 more) in
    (λ i. is i ++ record { fed = first i; source = second i; line = row.line } ∷ [])
    ∙ append_assoc old front (link_of_row made inst row more ∷ [])
    ∙ ap (λ rest. old ++ rest) (sym (map-range_with_len_more (link_of_row made inst row) 0 more more (omega arith)))

-- the links of one row more
pub rows_more : (made : Instances) (inst : ℕ) (rows : List LinkRow) (i : ℕ) (d : LinkRow) → i < length rows → (old now : List LinkAt) → now ≡ old ++ links_of_rows made inst (take i rows)
    → now ++ map (link_at made inst) (links_of_row (get_or rows i d)) ≡ old ++ links_of_rows made inst (take (i + 1) rows)
rows_more made inst rows i d within old now is =
    let row = get_or rows i d in
    let front = locals (take i rows) in
    let one : locals (row ∷ []) ≡ links_of_row row = append-nil (links_of_row row) in
    let more : locals (take (i + 1) rows) ≡ front ++ links_of_row row =
    ap locals (take_more rows i d within) ∙ flat_map-append links_of_row (take i rows) (row ∷ []) ∙ ap (λ rest. front ++ rest) one in
    ap (λ (ls : List LinkAt). ls ++ map (link_at made inst) (links_of_row row)) is
    ∙ append_assoc old (map (link_at made inst) front) (map (link_at made inst) (links_of_row row))
    ∙ ap (λ rest. old ++ rest) (sym (map-append (link_at made inst) front (links_of_row row)) ∙ sym (ap (map (link_at made inst)) more))

-- the links of one instance more
pub before_more : (links : List (List LinkRow)) (made : Instances) (count : ℕ) → links_before links made (count + 1) ≡ links_before links made count ++ links_at links made count
before_more links made count =
    let numbers : range_with_len 0 (count + 1) ≡ range_with_len 0 count ++ count ∷ [] =
    range_more 0 count ∙ ap (λ (k : ℕ). range_with_len 0 count ++ k ∷ []) {x = 0 + count} {y = count} (omega arith) in
    ap (flat_map (links_at links made)) numbers ∙ flat_map-append (links_at links made) (range_with_len 0 count) (count ∷ [])
    ∙ ap (λ rest. links_before links made count ++ rest) (append-nil (links_at links made count))
  where
    range_more : (a n : ℕ) → range_with_len a (n + 1) ≡ range_with_len a n ++ (a + n) ∷ []
    range_more a n = sym (same (range_with_len a (n + 1))) ∙ map-range_with_len_more (λ (k : ℕ). k) a n (a + n) refl ∙ ap (λ (ks : List ℕ). ks ++ (a + n) ∷ []) (same (range_with_len a n))
      where
        same : (ks : List ℕ) → map (λ (k : ℕ). k) ks ≡ ks
        same [] = refl
        same (k ∷ ks) = ap (λ (rest : List ℕ). k ∷ rest) (same ks)
