-- Rows that grow can still be read.
use Rattle.std.proofs.Common.{◌≡◌, ℕ, zero, suc, ◌+◌, ◌<◌, ◌≤◌, List, [], ◌∷◌, length, get_or, take, refl, sym, ap, ◌∙◌, arith}
use Rattle.std.specs.List.{sum_by}
use Rattle.std.proofs.lemmas.List.{get_or_append_left, length_push}
use Rattle.std.proofs.lemmas.List.Sums.{sum_by-cons}
use Rattle.list_defs.proofs.Longer.{each_more}
use Rattle.design_rows.specs.declared.tables.KindRow.{KindRow}
use Rattle.design_rows.specs.declared.tables.Rows.{Rows}
use Rattle.design_rows.specs.Growth.{with_kind}
use Rattle.design_rows.specs.Sound.{AreRows}
use Rattle.design_rows.specs.View.{inst_at, no_instance, no_kind, size}

-- sums of two functions that agree at each of the list
sum_same : {X : Type 0} (f g : X → ℕ) (d : X) (xs : List X) → ((k : ℕ) → k < length xs → f (get_or xs k d) ≡ g (get_or xs k d)) → sum_by f xs ≡ sum_by g xs
sum_same f g d [] same = refl
sum_same f g d (x ∷ xs) same =
    let rest = sum_same f g d xs (λ k within. same (suc k) (omega arith)) in
    omega (arith, sum_by-cons f x xs, sum_by-cons g x xs, same 0 (omega arith), rest)

sum_same_take : {X : Type 0} (f g : X → ℕ) (d : X) (n : ℕ) (xs : List X) → ((k : ℕ) → k < length xs → f (get_or xs k d) ≡ g (get_or xs k d)) → sum_by f (take n xs) ≡ sum_by g (take n xs)
sum_same_take f g d zero xs same = refl
sum_same_take f g d (suc n) [] same = refl
sum_same_take f g d (suc n) (x ∷ xs) same =
    let rest = sum_same_take f g d n xs (λ k within. same (suc k) (omega arith)) in
    omega (arith, sum_by-cons f x (take n xs), sum_by-cons g x (take n xs), same 0 (omega arith), rest)

-- instances of the kinds that there were have as many bits as before
same_size : (r : Rows) (kind : KindRow) → AreRows r → (n : ℕ) → n < length r.insts → size r (inst_at r n) ≡ size (with_kind r kind) (inst_at r n)
same_size r kind rows n within =
    ap (λ (k : KindRow). k.size) (sym (get_or_append_left r.kinds (kind ∷ []) no_kind (inst_at r n).kind (rows.inst_kinds n within)))

pub rows_with_kind : (r : Rows) (kind : KindRow) → kind.first + kind.size ≤ length r.places → AreRows r → AreRows (with_kind r kind)
rows_with_kind r kind placed rows = record {
  parents = rows.parents;
  inst_names = rows.inst_names;
  inst_kinds = λ n within. omega (arith, rows.inst_kinds n within, length_push r.kinds kind);
  kind_places = each_more (λ k x. x.first + x.size ≤ length r.places) r.kinds kind no_kind rows.kind_places placed;
  bit_names = rows.bit_names;
  firsts = λ n within. rows.firsts n within ∙ sum_same_take (size r) (size (with_kind r kind)) no_instance n r.insts (same_size r kind rows);
  all = rows.all ∙ sum_same (size r) (size (with_kind r kind)) no_instance r.insts (same_size r kind rows);
  few = rows.few;
}
