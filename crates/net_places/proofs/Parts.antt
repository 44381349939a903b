-- Tables that grow.
use Rattle.std.proofs.Common.{◌≡◌, ℕ, zero, suc, ◌+◌, ◌-◌, ◌<◌, List, [], ◌∷◌, ◌++◌, length, get_or, map, take, drop, refl, sym, ap, ◌∙◌, subst, arith}
use Rattle.std.specs.Prelude.{Some, None, option_map, slice_get}
use Rattle.std.specs.List.{All}
use Rattle.std.proofs.Math.Seq.{drop-append_seam}
use Rattle.std.proofs.lemmas.List.{get_or-drop, get_or-take, length-append, length-drop, length-take, map_push, take_all}
use Rattle.std.proofs.lemmas.Option.{get_or_from_slice_get, slice_get-get_or, slice_get-map}
use Rattle.std.proofs.lemmas.List.Elements.{All-push}
use Rattle.module_rows.proofs.ReadLemmas.{read_fits}
use Rattle.list_defs.proofs.Longer.{early_part}
use Rattle.net_places.specs.declared.rows.NetRow.{NetRow}
use Rattle.net_places.specs.declared.tables.BodyRow.{BodyRow}
use Rattle.net_places.specs.Tables.{IsPart, bits_in, part}

part_kept : (nets more : List NetRow) (b : BodyRow) → IsPart nets b → part (nets ++ more) b ≡ part nets b
part_kept nets more b is = early_part nets more b.first b.end is.rises is.end

one_kept : (nets more : List NetRow) (b : BodyRow) → IsPart nets b → IsPart (nets ++ more) b
one_kept nets more b is = record {
  rises = is.rises;
  end = omega (arith, is.end, length-append nets more);
  bits = is.bits ∙ sym (ap bits_in (part_kept nets more b is));
}

-- with more rows behind them the bodies have the same rows
pub all_kept : (nets new more : List NetRow) (bodies : List BodyRow) → new ≡ nets ++ more → All (IsPart nets) bodies → All (IsPart new) bodies
all_kept nets new more bodies same all i d within =
    let P : List NetRow → Type 0 = λ rows. IsPart rows (get_or bodies i d) in
    subst P (sym same) (one_kept nets more (get_or bodies i d) (all i d within))

same_parts : (nets more : List NetRow) (bodies : List BodyRow) → All (IsPart nets) bodies → map (part (nets ++ more)) bodies ≡ map (part nets) bodies
same_parts nets more [] all = refl
same_parts nets more (b ∷ bs) all =
    ap (λ rows. rows ∷ map (part (nets ++ more)) bs) (part_kept nets more b (all 0 b (omega arith)))
    ∙ ap (λ rest. part nets b ∷ rest) (same_parts nets more bs (λ i d within. all (suc i) d (omega arith)))

last_part : (nets rows : List NetRow) (bits : ℕ) → part (nets ++ rows) (record { first = length nets; end = length (nets ++ rows); bits = bits }) ≡ rows
last_part nets rows bits =
    ap (take (length (nets ++ rows) - length nets)) (drop-append_seam nets rows)
    ∙ take_all (length (nets ++ rows) - length nets) rows (omega (arith, length-append nets rows))

-- a body that is added
pub parts_more : (nets new rows : List NetRow) (bodies : List BodyRow) (bits : ℕ) → new ≡ nets ++ rows → bits ≡ bits_in rows → All (IsPart nets) bodies
    → All (IsPart new) (bodies ++ record { first = length nets; end = length new; bits = bits } ∷ [])
parts_more nets new rows bodies bits same count all =
    let last : BodyRow = record { first = length nets; end = length (nets ++ rows); bits = bits } in
    let fits : IsPart (nets ++ rows) last = record {
      rises = omega (arith, length-append nets rows);
      end = omega arith;
      bits = count ∙ sym (ap bits_in (last_part nets rows bits));
    } in
    let P : List NetRow → Type 0 = λ all. All (IsPart all) (bodies ++ record { first = length nets; end = length all; bits = bits } ∷ []) in
    subst P (sym same) (All-push (IsPart (nets ++ rows)) bodies last (λ i d within. one_kept nets rows (get_or bodies i d) (all i d within)) fits)

pub added : (nets new rows : List NetRow) (bodies : List BodyRow) (bits : ℕ) → new ≡ nets ++ rows → All (IsPart nets) bodies
    → map (part new) (bodies ++ record { first = length nets; end = length new; bits = bits } ∷ []) ≡ map (part nets) bodies ++ rows ∷ []
added nets new rows bodies bits same all =
    let P : List NetRow → Type 0 = λ all. map (part all) (bodies ++ record { first = length nets; end = length all; bits = bits } ∷ []) ≡ map (part nets) bodies ++ rows ∷ [] in
    let last : BodyRow = record { first = length nets; end = length (nets ++ rows); bits = bits } in
    subst P (sym same) (map_push (part (nets ++ rows)) bodies last
    ∙ ap (λ front. front ++ part (nets ++ rows) last ∷ []) (same_parts nets rows bodies all)
    ∙ ap (λ end. map (part nets) bodies ++ end ∷ []) (last_part nets rows bits))

-- a body that isn't there has no rows
none_past : {X : Type 0} (xs : List (List X)) (i : ℕ) → slice_get xs i ≡ None → get_or xs i [] ≡ []
none_past [] i h = refl
none_past (x ∷ xs) zero h = cc
none_past (x ∷ xs) (suc i) h = none_past xs i h

pub rows_past : (nets : List NetRow) (bodies : List BodyRow) (now : List (List NetRow)) (body : ℕ) → map (part nets) bodies ≡ now → None ≡ slice_get bodies body
    → get_or now body [] ≡ []
rows_past nets bodies now body view past =
    none_past now body (ap (λ (all : List (List NetRow)). slice_get all body) (sym view) ∙ slice_get-map (part nets) bodies body ∙ ap (option_map (part nets)) (sym past))

-- a body that is there has its part
pub rows_there : (nets : List NetRow) (bodies : List BodyRow) (now : List (List NetRow)) (body : ℕ) (b : BodyRow) → map (part nets) bodies ≡ now → Some b ≡ slice_get bodies body
    → get_or now body [] ≡ part nets b
rows_there nets bodies now body b view there =
    get_or_from_slice_get now body (part nets b) []
    (ap (λ (all : List (List NetRow)). slice_get all body) (sym view) ∙ slice_get-map (part nets) bodies body ∙ ap (option_map (part nets)) (sym there))

pub part_is : (nets : List NetRow) (bodies : List BodyRow) (body : ℕ) (b : BodyRow) → All (IsPart nets) bodies → Some b ≡ slice_get bodies body → IsPart nets b
part_is nets bodies body b all there = read_fits (IsPart nets) bodies body b all (sym there)

pub part_length : (nets : List NetRow) (b : BodyRow) → IsPart nets b → length (part nets b) ≡ b.end - b.first
part_length nets b is = omega (arith, is.end, length-take (b.end - b.first) (drop b.first nets), length-drop b.first nets)

-- a row of a part
pub part_get : (nets : List NetRow) (b : BodyRow) (i : ℕ) → IsPart nets b → i < b.end - b.first → slice_get (part nets b) i ≡ slice_get nets (b.first + i)
part_get nets b i is within =
    let inside : b.first + i < length nets = omega (arith, is.end) in
    slice_get-get_or (part nets b) i no_row (omega (arith, part_length nets b is))
    ∙ ap Some (get_or-take (b.end - b.first) (drop b.first nets) i no_row within ∙ get_or-drop b.first nets i no_row)
    ∙ sym (slice_get-get_or nets (b.first + i) no_row inside)
  where
    no_row : NetRow
    no_row = record { name = 0; range = None; port = None; first = 0 }

pub added_row : (nets new rows : List NetRow) (bodies grown : List BodyRow) (now : List (List NetRow)) (first end bits : ℕ) → new ≡ nets ++ rows → All (IsPart nets) bodies
    → first ≡ length nets → end ≡ length new → grown ≡ bodies ++ record { first = first; end = end; bits = bits } ∷ [] → map (part nets) bodies ≡ now
    → map (part new) grown ≡ now ++ rows ∷ []
added_row nets new rows bodies grown now first end bits same all is_first is_end is_grown view =
    ap (map (part new)) (
    is_grown ∙ ap (λ (n : ℕ). bodies ++ record { first = n; end = end; bits = bits } ∷ []) is_first
    ∙ ap (λ (n : ℕ). bodies ++ record { first = length nets; end = n; bits = bits } ∷ []) is_end
    )
    ∙ added nets new rows bodies bits same all ∙ ap (λ (front : List (List NetRow)). front ++ rows ∷ []) view
