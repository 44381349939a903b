-- Spellings and expressions that grow.
use Rattle.std.proofs.Common.{◌≡◌, ℕ, zero, suc, ◌+◌, ◌-◌, ◌<◌, ◌≤◌, List, [], ◌∷◌, ◌++◌, length, get_or, take, drop, refl, sym, ap, ◌∙◌, arith, append_assoc, append-nil}
use Rattle.std.specs.Prelude.{MatchOption, MatchResult, Option, Some, None, Result, Ok, Err, IfOk, slice_get}
use Rattle.list_defs.specs.Members.{place_of, same_name}
use Rattle.list_defs.proofs.Longer.{early_part}
use Rattle.list_defs.proofs.NameLemmas.{slice_get-place_of}
use Rattle.std.specs.List.{All, flat_map, slice_range}
use Rattle.std.specs.declared.alloc.AllocError.{AllocError}
use Rattle.std.proofs.lemmas.List.{get_or_append_left, length-append, take-append-le}
use Rattle.std.proofs.lemmas.List.Elements.{All-drop, All-take}
use Rattle.std.proofs.lemmas.List.Folds.{flat_map-map}
use Rattle.pw_defs.specs.declared.netlist.Expr.{Expr}
use Rattle.pw_defs.specs.declared.netlist.Expr.TheOpen.{Expr-F}
use Rattle.pw_defs.specs.declared.netlist.Expr.TheFolds.{fold-roll-Expr}
use Rattle.pw_defs.specs.declared.netlist.Expr.TheVariants.{Whole as WholeExpr, Bit as BitExpr, Part as PartExpr, Const as ConstExpr, Join as JoinExpr, rolls-Whole, rolls-Bit, rolls-Part, rolls-Const, rolls-Join}
use Rattle.module_rows.specs.declared.tables.ExprRow.{ExprRow}
use Rattle.module_rows.specs.declared.tables.ExprRow.TheVariants.{Whole, Bit, Part, Const, Join}
use Rattle.module_rows.specs.declared.tables.Terms.{Terms}
use Rattle.module_rows.specs.Growth.{Extends, open_in}
use Rattle.module_rows.specs.Leaves.{leaves, leaves_at}
use Rattle.module_rows.specs.Sound.{IsExprRow, IsSpanned, leaf_of, leaves_of}
use Rattle.module_rows.specs.View.{connected, expr_at, last_of, name_at, open_after, opened}

-- what an expression has
pub leaves_whole : (name : List ℕ) → leaves (WholeExpr name) ≡ WholeExpr name ∷ []
unfolding leaves
leaves_whole name = ap leaves (sym (rolls-Whole name)) ∙ fold-roll-Expr (List Expr) leaves_at (Expr-F.Whole name)

pub leaves_bit : (name : List ℕ) (index : ℕ) → leaves (BitExpr name index) ≡ BitExpr name index ∷ []
unfolding leaves
leaves_bit name index = ap leaves (sym (rolls-Bit name index)) ∙ fold-roll-Expr (List Expr) leaves_at (Expr-F.Bit name index)

pub leaves_part : (name : List ℕ) (left right : ℕ) → leaves (PartExpr name left right) ≡ PartExpr name left right ∷ []
unfolding leaves
leaves_part name left right = ap leaves (sym (rolls-Part name left right)) ∙ fold-roll-Expr (List Expr) leaves_at (Expr-F.Part name left right)

pub leaves_const : (count : ℕ) → leaves (ConstExpr count) ≡ ConstExpr count ∷ []
unfolding leaves
leaves_const count = ap leaves (sym (rolls-Const count)) ∙ fold-roll-Expr (List Expr) leaves_at (Expr-F.Const count)

pub leaves_join : (parts : List Expr) → leaves (JoinExpr parts) ≡ flat_map leaves parts
unfolding leaves
leaves_join parts = ap leaves (sym (rolls-Join parts)) ∙ fold-roll-Expr (List Expr) leaves_at (Expr-F.Join parts) ∙ flat_map-map (λ ys. ys) leaves parts

-- lists with more behind them
abbrev pub extends_same : {X : Type 0} (xs : List X) → Extends xs xs
extends_same xs = ([], sym (append-nil xs))

abbrev pub extends_trans : {X : Type 0} (xs ys zs : List X) → Extends xs ys → Extends ys zs → Extends xs zs
extends_trans xs ys zs (more, is) (most, all) = (more ++ most, all ∙ ap (λ front. front ++ most) is ∙ append_assoc xs more most)

pub extends_length : {X : Type 0} (xs ys : List X) → Extends xs ys → length xs ≤ length ys
extends_length xs ys (more, is) = omega (arith, ap length is, length-append xs more)

pub extends_part : {X : Type 0} (xs ys : List X) (from end : ℕ) → Extends xs ys → from ≤ end → end ≤ length xs → slice_range ys from end ≡ slice_range xs from end
extends_part xs ys from end (more, is) rises within = ap (λ all. slice_range all from end) is ∙ early_part xs more from end rises within

-- what one list of symbols says, a longer one says too
module _ (old new : List (List ℕ)) (longer : Extends old new) where
  pub name_kept : (s : ℕ) → s < length old → name_at new s ≡ name_at old s
  name_kept s there = ap (λ names. get_or names s []) longer.1 ∙ get_or_append_left old longer.0 [] s there

  opened_kept : (stack : List Expr) (row : ExprRow) → IsExprRow old row → opened new stack row ≡ opened old stack row
  opened_kept stack (Whole s) there = ap (λ name. WholeExpr name ∷ stack) (name_kept s there)
  opened_kept stack (Bit s index) there = ap (λ name. BitExpr name index ∷ stack) (name_kept s there)
  opened_kept stack (Part s left right) there = ap (λ name. PartExpr name left right ∷ stack) (name_kept s there)
  opened_kept stack (Const count) there = refl
  opened_kept stack (Join first count) there = refl

  pub after_kept : (stack : List Expr) (rows : List ExprRow) → All (IsExprRow old) rows → open_after new stack rows ≡ open_after old stack rows
  unfolding open_after
  after_kept stack [] each = refl
  after_kept stack (row ∷ rows) each =
      ap (λ deeper. open_after new deeper rows) (opened_kept stack row (each 0 row (omega arith)))
      ∙ after_kept (opened old stack row) rows (λ k d within. each (suc k) d (omega arith))

  leaf_kept : (row : ExprRow) → IsExprRow old row → leaf_of new row ≡ leaf_of old row
  leaf_kept (Whole s) there = ap (λ name. WholeExpr name ∷ []) (name_kept s there)
  leaf_kept (Bit s index) there = ap (λ name. BitExpr name index ∷ []) (name_kept s there)
  leaf_kept (Part s left right) there = ap (λ name. PartExpr name left right ∷ []) (name_kept s there)
  leaf_kept (Const count) there = refl
  leaf_kept (Join first count) there = refl

  pub leaves_kept : (rows : List ExprRow) → All (IsExprRow old) rows → leaves_of new rows ≡ leaves_of old rows
  leaves_kept [] each = refl
  leaves_kept (row ∷ rows) each =
      ap (λ leaf. leaf ++ leaves_of new rows) (leaf_kept row (each 0 row (omega arith)))
      ∙ ap (λ rest. leaf_of old row ++ rest) (leaves_kept rows (λ k d within. each (suc k) d (omega arith)))

  pub row_kept : (row : ExprRow) → IsExprRow old row → IsExprRow new row
  row_kept (Whole s) there = omega (arith, there, extends_length old new longer)
  row_kept (Bit s index) there = omega (arith, there, extends_length old new longer)
  row_kept (Part s left right) there = omega (arith, there, extends_length old new longer)
  row_kept (Const count) there = there
  row_kept (Join first count) there = there

pub after_append : (symbols : List (List ℕ)) (stack : List Expr) (xs ys : List ExprRow)
    → open_after symbols stack (xs ++ ys) ≡ open_after symbols (open_after symbols stack xs) ys
unfolding open_after
after_append symbols stack [] ys = refl
after_append symbols stack (x ∷ xs) ys = after_append symbols (opened symbols stack x) xs ys

pub after_push : (t : Terms) (row : ExprRow) → open_after t.symbols [] (t.exprs ++ row ∷ []) ≡ opened t.symbols (open_in t) row
unfolding open_after
after_push t row = after_append t.symbols [] t.exprs (row ∷ [])

-- what terms say, longer ones say too
module _ (old new : Terms) (symbols : Extends old.symbols new.symbols) (exprs : Extends old.exprs new.exprs) (rows : All (IsExprRow old.symbols) old.exprs) where
  pub expr_kept : (n : ℕ) → n < length old.exprs → expr_at new n ≡ expr_at old n
  unfolding expr_at
  expr_kept n there =
      ap last_of (
      ap (λ all. open_after new.symbols [] (take (n + 1) all)) exprs.1
      ∙ ap (open_after new.symbols []) (take-append-le (n + 1) old.exprs exprs.0 (omega arith))
      ∙ after_kept old.symbols new.symbols symbols [] (take (n + 1) old.exprs) (All-take (IsExprRow old.symbols) (n + 1) old.exprs rows)
      )

  pub connected_kept : (n : ℕ) → n ≤ length old.exprs → connected new n ≡ connected old n
  connected_kept zero there = refl
  connected_kept (suc n) there = ap Some (expr_kept n (omega arith))

  pub span_kept : (n : ℕ) (row : ExprRow) → n < length old.exprs → IsSpanned old n row → IsSpanned new n row
  span_kept n (Whole s) there span = span
  span_kept n (Bit s index) there span = span
  span_kept n (Part s left right) there span = span
  span_kept n (Const count) there span = span
  span_kept n (Join first count) there span =
      let part = slice_range old.exprs first (n + 1) in
      let each : All (IsExprRow old.symbols) part =
      All-take (IsExprRow old.symbols) (n + 1 - first) (drop first old.exprs) (All-drop (IsExprRow old.symbols) first old.exprs rows) in (
        span.0,
        ap leaves (expr_kept n there) ∙ span.1 ∙ sym (leaves_kept old.symbols new.symbols symbols part each)
            ∙ ap (leaves_of new.symbols) (sym (extends_part old.exprs new.exprs first (n + 1) exprs (omega (arith, span.0)) (omega arith))),
      )

-- a name that is numbered leaves the names before it as they were
pub numbered_longer : (old new : List (List ℕ)) (name : List ℕ) (o : Option ℕ) (r : Result ℕ AllocError)
    → MatchOption o (MatchResult r (λ _. new ≡ old ++ name ∷ []) (λ _. new ≡ old)) (λ _. new ≡ old) → Extends old new
numbered_longer old new name None (Ok n) is = (name ∷ [], is)
numbered_longer old new name None (Err e) is = ([], is ∙ sym (append-nil old))
numbered_longer old new name (Some n) r is = ([], is ∙ sym (append-nil old))

-- and is the name at its number
pub numbered_there : (names : List (List ℕ)) (name : List ℕ) (r : Result ℕ AllocError)
    → IfOk r (λ n. place_of (same_name name) names ≡ Some n) → IfOk r (λ n. slice_get names n ≡ Some name)
numbered_there names name (Ok n) is = slice_get-place_of name names n is
numbered_there names name (Err e) is = is
