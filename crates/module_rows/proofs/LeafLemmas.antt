-- Expressions that are read by number.
use Rattle.std.proofs.Common.{◌≡◌, ℕ, ◌+◌, ◌-◌, ◌<◌, List, [], ◌∷◌, length, get_or, map, take, drop, reverse, ◌++◌, append-nil, refl, sym, ap, ◌∙◌, subst, arith}
use Rattle.std.specs.Prelude.{Some, slice_get}
use Rattle.std.specs.List.{flat_map, range_with_len, slice_range}
use Rattle.std.proofs.lemmas.List.{drop-map, drop_more, ext_get_or, get_or-map, length-map, take-map, take_more}
use Rattle.std.proofs.lemmas.List.Folds.{flat_map-map}
use Rattle.std.proofs.lemmas.List.FromFn.{get_or-map-range_with_len, length-map-range_with_len}
use Rattle.std.proofs.lemmas.Option.{get_or_from_slice_get, slice_get-get_or, slice_get_within}
use Rattle.pw_defs.specs.declared.netlist.Expr.{Expr}
use Rattle.pw_defs.specs.declared.netlist.Expr.TheOpen.{Expr-F}
use Rattle.pw_defs.specs.declared.netlist.Expr.TheFolds.{fold-roll-Expr}
use Rattle.pw_defs.specs.declared.netlist.Expr.TheVariants.{Whole as WholeExpr, Bit as BitExpr, Part as PartExpr, Const as ConstExpr, Join as JoinExpr, rolls-Whole, rolls-Bit, rolls-Part, rolls-Const, rolls-Join}
use Rattle.module_rows.specs.declared.tables.ExprRow.{ExprRow}
use Rattle.module_rows.specs.declared.tables.ExprRow.TheVariants.{Whole, Bit, Part, Const, Join}
use Rattle.module_rows.specs.declared.tables.Rows.{Rows}
use Rattle.module_rows.specs.declared.tables.Terms.{Terms}
use Rattle.module_rows.specs.Leaves.{leaves, own_leaf, own_leaf_at}
use Rattle.module_rows.specs.Reads.{numbered_expr, HasLeavesFrom, IsExprHead}
use Rattle.module_rows.specs.Sound.{AreRows, AreTerms, IsExprRow, IsSpan, IsSpanned, leaf_of, leaves_of}
use Rattle.module_rows.specs.View.{expr_at, first_row, head_of_row, last_of, name_at, netlist_of, open_after, opened}
use Rattle.module_rows.proofs.ReadLemmas.{read_fits}
use Rattle.module_rows.proofs.TermLemmas.{after_append, leaves_bit, leaves_const, leaves_part, leaves_whole}

-- the name or constant that an expression is
pub own_whole : (name : List ℕ) → own_leaf (WholeExpr name) ≡ WholeExpr name ∷ []
unfolding own_leaf
own_whole name = ap own_leaf (sym (rolls-Whole name)) ∙ fold-roll-Expr (List Expr) own_leaf_at (Expr-F.Whole name)

pub own_bit : (name : List ℕ) (index : ℕ) → own_leaf (BitExpr name index) ≡ BitExpr name index ∷ []
unfolding own_leaf
own_bit name index = ap own_leaf (sym (rolls-Bit name index)) ∙ fold-roll-Expr (List Expr) own_leaf_at (Expr-F.Bit name index)

pub own_part : (name : List ℕ) (left right : ℕ) → own_leaf (PartExpr name left right) ≡ PartExpr name left right ∷ []
unfolding own_leaf
own_part name left right = ap own_leaf (sym (rolls-Part name left right)) ∙ fold-roll-Expr (List Expr) own_leaf_at (Expr-F.Part name left right)

pub own_const : (count : ℕ) → own_leaf (ConstExpr count) ≡ ConstExpr count ∷ []
unfolding own_leaf
own_const count = ap own_leaf (sym (rolls-Const count)) ∙ fold-roll-Expr (List Expr) own_leaf_at (Expr-F.Const count)

pub own_join : (parts : List Expr) → own_leaf (JoinExpr parts) ≡ []
unfolding own_leaf
own_join parts = ap own_leaf (sym (rolls-Join parts)) ∙ fold-roll-Expr (List Expr) own_leaf_at (Expr-F.Join parts)

-- the expression that ends with a row is what the row opens
pub ends_with : (t : Terms) (n : ℕ) (row : ExprRow) → slice_get t.exprs n ≡ Some row
    → expr_at t n ≡ last_of (opened t.symbols (open_after t.symbols [] (take n t.exprs)) row)
unfolding expr_at open_after
ends_with t n row is =
    let front = take n t.exprs in
    ap (λ rows. last_of (open_after t.symbols [] rows)) (
    take_more t.exprs n row (slice_get_within t.exprs n row is)
    ∙ ap (λ last. front ++ last ∷ []) (get_or_from_slice_get t.exprs n row row is)
    )
    ∙ ap last_of (after_append t.symbols [] front (row ∷ []))

own_opened : (symbols : List (List ℕ)) (stack : List Expr) (row : ExprRow) → own_leaf (last_of (opened symbols stack row)) ≡ leaf_of symbols row
own_opened symbols stack (Whole s) = own_whole (name_at symbols s)
own_opened symbols stack (Bit s index) = own_bit (name_at symbols s) index
own_opened symbols stack (Part s left right) = own_part (name_at symbols s) left right
own_opened symbols stack (Const count) = own_const count
own_opened symbols stack (Join first count) = own_join (reverse (take count stack))

-- names and constants of a part of the rows are those of the expressions
abbrev pub exprs_of : Terms → List Expr
exprs_of t = map (expr_at t) (range_with_len 0 (length t.exprs))

pub expr_is : (t : Terms) (n : ℕ) → n < length t.exprs → get_or (exprs_of t) n (ConstExpr 0) ≡ expr_at t n
expr_is t n within = get_or-map-range_with_len (expr_at t) 0 (length t.exprs) n n (ConstExpr 0) within (omega arith)

pub expr_within : (t : Terms) (n : ℕ) → n < length (exprs_of t) → n < length t.exprs
expr_within t n within = omega (arith, within, length-map-range_with_len (expr_at t) 0 (length t.exprs))

own_leaves : (t : Terms) → map (leaf_of t.symbols) t.exprs ≡ map own_leaf (exprs_of t)
own_leaves t = ext_get_or [] (map (leaf_of t.symbols) t.exprs) (map own_leaf (exprs_of t)) sizes each
  where
    size : length (exprs_of t) ≡ length t.exprs
    size = length-map-range_with_len (expr_at t) 0 (length t.exprs)

    sizes : length (map (leaf_of t.symbols) t.exprs) ≡ length (map own_leaf (exprs_of t))
    sizes = length-map t.exprs (leaf_of t.symbols) ∙ sym size ∙ sym (length-map (exprs_of t) own_leaf)

    each : (i : ℕ) → i < length (map (leaf_of t.symbols) t.exprs) → get_or (map (leaf_of t.symbols) t.exprs) i [] ≡ get_or (map own_leaf (exprs_of t)) i []
    each i there =
        let within : i < length t.exprs = omega (arith, there, length-map t.exprs (leaf_of t.symbols)) in
        let row = get_or t.exprs i (Const 0) in
        let stack = open_after t.symbols [] (take i t.exprs) in
        get_or-map (leaf_of t.symbols) t.exprs i (Const 0) [] within
        ∙ sym (own_opened t.symbols stack row)
        ∙ ap own_leaf (sym (ends_with t i row (slice_get-get_or t.exprs i (Const 0) within)) ∙ sym (expr_is t i within))
        ∙ sym (get_or-map own_leaf (exprs_of t) i (ConstExpr 0) [] (omega (arith, within, size)))

part_map : {X Y : Type 0} (f : X → Y) (xs : List X) (a b : ℕ) → slice_range (map f xs) a b ≡ map f (slice_range xs a b)
part_map f xs a b = ap (take (b - a)) (drop-map f a xs) ∙ take-map f (b - a) (drop a xs)

pub part_leaves : (t : Terms) (a b : ℕ) → leaves_of t.symbols (slice_range t.exprs a b) ≡ flat_map own_leaf (slice_range (exprs_of t) a b)
part_leaves t a b =
    sym (flat_map-map (λ xs. xs) (leaf_of t.symbols) (slice_range t.exprs a b))
    ∙ ap (flat_map (λ xs. xs)) (
    sym (part_map (leaf_of t.symbols) t.exprs a b) ∙ ap (λ all. slice_range all a b) (own_leaves t) ∙ part_map own_leaf (exprs_of t) a b
    )
    ∙ flat_map-map (λ xs. xs) own_leaf (slice_range (exprs_of t) a b)

-- a part of one row
one_part : {X : Type 0} (xs : List X) (n : ℕ) (x : X) → slice_get xs n ≡ Some x → slice_range xs n (n + 1) ≡ x ∷ []
one_part xs n x is =
    let one : n + 1 - n ≡ 1 = omega arith in
    ap (λ k. take k (drop n xs)) one ∙ ap (take 1) (drop_more xs n x (slice_get_within xs n x is))
    ∙ ap (λ y. y ∷ []) (get_or_from_slice_get xs n x x is)

-- the names and constants in the expression that ends with a row, from its first row on
leaf_span : (t : Terms) (n : ℕ) (row : ExprRow) (e : Expr) → slice_get t.exprs n ≡ Some row → expr_at t n ≡ e → leaves e ≡ e ∷ []
    → leaf_of t.symbols row ≡ e ∷ [] → IsSpan t n n
leaf_span t n row e is ends own leaf = (omega arith, ap leaves ends ∙ own ∙ sym (ap (leaves_of t.symbols) (one_part t.exprs n row is) ∙ append-nil (leaf_of t.symbols row) ∙ leaf))

pub span_read : (t : Terms) → AreTerms t → (n : ℕ) (row : ExprRow) → slice_get t.exprs n ≡ Some row → IsSpan t (first_row n row) n
span_read t sound n (Whole s) is =
    let e = WholeExpr (name_at t.symbols s) in leaf_span t n (Whole s) e is (ends_with t n (Whole s) is) (leaves_whole (name_at t.symbols s)) refl
span_read t sound n (Bit s index) is =
    let e = BitExpr (name_at t.symbols s) index in leaf_span t n (Bit s index) e is (ends_with t n (Bit s index) is) (leaves_bit (name_at t.symbols s) index) refl
span_read t sound n (Part s left right) is =
    let e = PartExpr (name_at t.symbols s) left right in
    leaf_span t n (Part s left right) e is (ends_with t n (Part s left right) is) (leaves_part (name_at t.symbols s) left right) refl
span_read t sound n (Const count) is = leaf_span t n (Const count) (ConstExpr count) is (ends_with t n (Const count) is) (leaves_const count) refl
span_read t sound n (Join first count) is =
    let within = slice_get_within t.exprs n (Join first count) is in
    let P : ExprRow → Type 0 = λ row. IsSpanned t n row in
    subst P (get_or_from_slice_get t.exprs n (Join first count) (Const 0) is) (sound.spans n within)

pub leaves_read : (r : Rows) → AreRows r → (n : ℕ) (row : ExprRow) → slice_get r.terms.exprs n ≡ Some row → HasLeavesFrom (netlist_of r) n (first_row n row)
leaves_read r rows n row is =
    let t = r.terms in
    let span = span_read t rows.terms n row is in
    let first = first_row n row in
    record { rises = span.0; same = ap leaves (expr_is t n (slice_get_within t.exprs n row is)) ∙ span.1 ∙ part_leaves t first (n + 1) }

-- what an expression is
head_fits : (r : Rows) (stack : List Expr) (row : ExprRow) → IsExprRow r.terms.symbols row
    → IsExprHead (netlist_of r) (last_of (opened r.terms.symbols stack row)) (head_of_row row)
head_fits r stack (Whole s) fits = (fits, refl)
head_fits r stack (Bit s index) fits = (fits, refl)
head_fits r stack (Part s left right) fits = (fits, refl)
head_fits r stack (Const count) fits = refl
head_fits r stack (Join first count) fits = (reverse (take count stack), refl)

pub head_read : (r : Rows) → AreRows r → (n : ℕ) (row : ExprRow) → slice_get r.terms.exprs n ≡ Some row
    → IsExprHead (netlist_of r) (numbered_expr (netlist_of r) n) (head_of_row row)
head_read r rows n row is =
    let t = r.terms in
    let P : Expr → Type 0 = λ e. IsExprHead (netlist_of r) e (head_of_row row) in
    let stack = open_after t.symbols [] (take n t.exprs) in
    let fits = read_fits (IsExprRow t.symbols) t.exprs n row rows.terms.rows is in
    subst P (sym (expr_is t n (slice_get_within t.exprs n row is) ∙ ends_with t n row is)) (head_fits r stack row fits)
