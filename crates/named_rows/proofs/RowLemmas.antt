-- Names and rows beside each other.
use Rattle.std.proofs.Common.{◌≡◌, ℕ, suc, zero, List, [], ◌∷◌, ◌++◌, length, set, refl, sym, ap, ◌∙◌, arith, length-append}
use Rattle.std.specs.List.{zip}
use Rattle.std.proofs.lemmas.List.{length-map}
use Rattle.std.proofs.lemmas.Slice.Zip.{firsts-zip, seconds-zip}
use Rattle.named_rows.specs.Rows.{names_in, rows_in, with_row}

-- the names and the rows of a view
pub names_of_view : {X : Type 0} (ks : List (List ℕ)) (vs : List X) (rows : List (List ℕ × X)) → length vs ≡ length ks → zip ks vs ≡ rows → names_in rows ≡ ks
names_of_view ks vs rows count view = ap names_in (sym view) ∙ firsts-zip ks vs count

pub rows_of_view : {X : Type 0} (ks : List (List ℕ)) (vs : List X) (rows : List (List ℕ × X)) → length vs ≡ length ks → zip ks vs ≡ rows → rows_in rows ≡ vs
rows_of_view ks vs rows count view = ap rows_in (sym view) ∙ seconds-zip ks vs count

pub count_of_view : {X : Type 0} (ks : List (List ℕ)) (vs : List X) (rows : List (List ℕ × X)) → length vs ≡ length ks → zip ks vs ≡ rows → length ks ≡ length rows
count_of_view {X} ks vs rows count view =
    ap length (sym (names_of_view ks vs rows count view)) ∙ length-map rows (λ (p : List ℕ × X). p.0)

-- one more
pub zip-push : {X : Type 0} (ks : List (List ℕ)) (vs : List X) (k : List ℕ) (v : X) → length vs ≡ length ks
    → zip (ks ++ k ∷ []) (vs ++ v ∷ []) ≡ zip ks vs ++ (k, v) ∷ []
zip-push [] [] k v e = refl
zip-push [] (w ∷ vs) k v e = absurd (omega arith)
zip-push (j ∷ ks) [] k v e = absurd (omega arith)
zip-push (j ∷ ks) (w ∷ vs) k v e = let less : length vs ≡ length ks = omega arith in ap (λ rows. (j, w) ∷ rows) (zip-push ks vs k v less)

pub count-push : {X : Type 0} (ks : List (List ℕ)) (vs : List X) (k : List ℕ) (v : X) → length vs ≡ length ks → length (vs ++ v ∷ []) ≡ length (ks ++ k ∷ [])
count-push ks vs k v e = omega (arith, length-append ks (k ∷ []), length-append vs (v ∷ []))

-- another row at a place
pub with_row-zip : {X : Type 0} (ks : List (List ℕ)) (vs : List X) (n : ℕ) (v : X) → with_row (zip ks vs) n v ≡ zip ks (set vs n v)
with_row-zip [] vs n v = refl
with_row-zip (k ∷ ks) [] n v = refl
with_row-zip (k ∷ ks) (w ∷ vs) zero v = refl
with_row-zip (k ∷ ks) (w ∷ vs) (suc n) v = ap (λ rows. (k, w) ∷ rows) (with_row-zip ks vs n v)
