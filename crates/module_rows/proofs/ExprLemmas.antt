-- Expressions that are added.
use Rattle.std.proofs.Common.{◌≡◌, ℕ, zero, suc, ◌+◌, ◌-◌, ◌<◌, List, [], ◌∷◌, ◌++◌, length, get_or, take, drop, reverse, refl, sym, ap, ◌∙◌, subst, arith, append_assoc, append-nil}
use Rattle.std.specs.Prelude.{Some, None}
use Rattle.std.specs.List.{All, flat_map, slice_range}
use Rattle.std.proofs.lemmas.List.{drop_at, length-append, length-reverse, length_push, reverse-append, reverse-reverse, take_all, take_at}
use Rattle.std.proofs.lemmas.List.Elements.{All-push}
use Rattle.std.proofs.lemmas.List.Concat.{flat_map-append}
use Rattle.pw_defs.specs.declared.netlist.Expr.{Expr}
use Rattle.pw_defs.specs.declared.netlist.Expr.TheVariants.{Join as JoinExpr}
use Rattle.module_rows.specs.declared.tables.ExprRow.{ExprRow}
use Rattle.module_rows.specs.declared.tables.ExprRow.TheVariants.{Whole, Bit, Part, Const, Join}
use Rattle.module_rows.specs.declared.tables.Terms.{Terms}
use Rattle.module_rows.specs.Growth.{Extends, Grows, HasExprs, IsConnected, IsExpr, open_in}
use Rattle.module_rows.specs.Leaves.{leaves}
use Rattle.module_rows.specs.Sound.{AreTerms, IsExprRow, IsLeafRow, IsSpan, IsSpanned, leaf_of, leaves_of}
use Rattle.module_rows.specs.View.{connected, expr_at, last_of, name_at, open_after, opened}
use Rattle.list_defs.proofs.Longer.{each_more}
use Rattle.module_rows.proofs.TermLemmas.{after_kept, after_push, extends_length, extends_same, extends_trans, leaves_bit, leaves_const, leaves_join, leaves_kept, leaves_part, leaves_whole, row_kept, span_kept}

abbrev pub grows_trans : (a b c : Terms) → Grows a b → Grows b c → Grows a c
grows_trans a b c first second = record {
  symbols = extends_trans a.symbols b.symbols c.symbols first.symbols second.symbols;
  exprs = extends_trans a.exprs b.exprs c.exprs first.exprs second.exprs;
  sound = second.sound;
}

abbrev pub grows_same : (t : Terms) → AreTerms t → Grows t t
grows_same t sound = record { symbols = extends_same t.symbols; exprs = extends_same t.exprs; sound = sound }

pub has_none : (t : Terms) → AreTerms t → HasExprs t t []
has_none t sound = record { grown = grows_same t sound; stack = refl; parts = refl }

-- the rows that were added still have the same names and constants
added_kept : (a b c : Terms) (ab : Grows a b) (bc : Grows b c) → leaves_of c.symbols ab.exprs.0 ≡ leaves_of b.symbols ab.exprs.0
added_kept a b c ab bc =
    let P : List ExprRow → Type 0 = λ rows. All (IsExprRow b.symbols) rows in
    let all = subst P ab.exprs.1 ab.sound.rows in
    leaves_kept b.symbols c.symbols bc.symbols ab.exprs.0 (all_behind (IsExprRow b.symbols) a.exprs ab.exprs.0 all)
  where
    all_behind : {X : Type 0} (P : X → Type 0) (xs ys : List X) → All P (xs ++ ys) → All P ys
    all_behind P [] ys all = all
    all_behind P (x ∷ xs) ys all = all_behind P xs ys (λ k d within. all (suc k) d (omega arith))

pub has_trans : (a b c : Terms) (xs ys : List Expr) → AreTerms b → HasExprs a b xs → HasExprs b c ys → HasExprs a c (xs ++ ys)
has_trans a b c xs ys sound first second = record {
  grown = grows_trans a b c first.grown second.grown;
  stack = second.stack ∙ ap (λ rest. reverse ys ++ rest) first.stack ∙ sym (append_assoc (reverse ys) (reverse xs) (open_in a))
      ∙ ap (λ front. front ++ open_in a) (sym (reverse-append xs ys));
  parts = flat_map-append (leaf_of c.symbols) first.grown.exprs.0 second.grown.exprs.0
      ∙ ap (λ front. front ++ leaves_of c.symbols second.grown.exprs.0) (added_kept a b c first.grown second.grown ∙ first.parts)
      ∙ ap (λ rest. flat_map leaves xs ++ rest) second.parts ∙ sym (flat_map-append leaves xs ys);
}

-- more symbols
module _ (t : Terms) (sound : AreTerms t) (names : List (List ℕ)) (more : Extends t.symbols names) where
  abbrev pub with_names : Terms
  with_names = record t { symbols = names }

  abbrev pub names_grow : Grows t with_names
  names_grow = record {
    symbols = more;
    exprs = extends_same t.exprs;
    sound = record {
      rows = λ k d within. row_kept t.symbols names more (get_or t.exprs k d) (sound.rows k d within);
      spans = λ n within. span_kept t with_names more (extends_same t.exprs) sound.rows n (get_or t.exprs n (Const 0)) within (sound.spans n within);
    };
  }

  pub names_added : HasExprs t with_names []
  names_added = record { grown = names_grow; stack = after_kept t.symbols names more [] t.exprs sound.rows; parts = refl }

-- one row more
module _ (t : Terms) (sound : AreTerms t) (row : ExprRow) where
  abbrev pub with_row : Terms
  with_row = record t { exprs = t.exprs ++ row ∷ [] }

  abbrev pub row_grows : IsExprRow t.symbols row → IsSpanned with_row (length t.exprs) row → Grows t with_row
  row_grows fits span = record {
    symbols = extends_same t.symbols;
    exprs = (row ∷ [], refl);
    sound = record {
      rows = All-push (IsExprRow t.symbols) t.exprs row sound.rows fits;
      spans = each_more (IsSpanned with_row) t.exprs row (Const 0)
          (λ n within. span_kept t with_row (extends_same t.symbols) (row ∷ [], refl) sound.rows n (get_or t.exprs n (Const 0)) within (sound.spans n within)) span;
    };
  }

-- a name or constant more
leaf_fits : (symbols : List (List ℕ)) (row : ExprRow) → IsLeafRow symbols row → IsExprRow symbols row
leaf_fits symbols (Whole s) there = there
leaf_fits symbols (Bit s index) there = there
leaf_fits symbols (Part s left right) there = there
leaf_fits symbols (Const count) there = there
leaf_fits symbols (Join first count) there = absurd there

leaf_spanned : (t : Terms) (n : ℕ) (symbols : List (List ℕ)) (row : ExprRow) → IsLeafRow symbols row → IsSpanned t n row
leaf_spanned t n symbols (Whole s) there = tt
leaf_spanned t n symbols (Bit s index) there = tt
leaf_spanned t n symbols (Part s left right) there = tt
leaf_spanned t n symbols (Const count) there = tt
leaf_spanned t n symbols (Join first count) there = absurd there

leaf_opened : (symbols : List (List ℕ)) (stack : List Expr) (row : ExprRow) → IsLeafRow symbols row
    → opened symbols stack row ≡ reverse (leaf_of symbols row) ++ stack
leaf_opened symbols stack (Whole s) there = refl
leaf_opened symbols stack (Bit s index) there = refl
leaf_opened symbols stack (Part s left right) there = refl
leaf_opened symbols stack (Const count) there = refl
leaf_opened symbols stack (Join first count) there = absurd there

leaf_leaves : (symbols : List (List ℕ)) (row : ExprRow) → IsLeafRow symbols row → leaves_of symbols (row ∷ []) ≡ flat_map leaves (leaf_of symbols row)
leaf_leaves symbols (Whole s) there = ap (λ xs. xs ++ []) (sym (leaves_whole (name_at symbols s)))
leaf_leaves symbols (Bit s index) there = ap (λ xs. xs ++ []) (sym (leaves_bit (name_at symbols s) index))
leaf_leaves symbols (Part s left right) there = ap (λ xs. xs ++ []) (sym (leaves_part (name_at symbols s) left right))
leaf_leaves symbols (Const count) there = ap (λ xs. xs ++ []) (sym (leaves_const count))
leaf_leaves symbols (Join first count) there = absurd there

pub leaf_added : (t : Terms) (sound : AreTerms t) (row : ExprRow) → IsLeafRow t.symbols row
    → HasExprs t (record t { exprs = t.exprs ++ row ∷ [] }) (leaf_of t.symbols row)
leaf_added t sound row leaf = record {
  grown = row_grows t sound row (leaf_fits t.symbols row leaf) (leaf_spanned (with_row t sound row) (length t.exprs) t.symbols row leaf);
  stack = after_push t row ∙ leaf_opened t.symbols (open_in t) row leaf;
  parts = leaf_leaves t.symbols row leaf;
}

-- a concatenation behind its parts
module _ (a b : Terms) (parts : List Expr) (has : HasExprs a b parts) (count : ℕ) (counts : length parts ≡ count) where
  abbrev pub join : ExprRow
  join = Join (length a.exprs) count

  joined : opened b.symbols (open_in b) join ≡ JoinExpr parts ∷ open_in a
  joined =
      let enough = length-reverse parts ∙ counts in
      let front = ap (take count) has.stack ∙ take_at (reverse parts) (open_in a) count enough in
      let rest = ap (drop count) has.stack ∙ drop_at (reverse parts) (open_in a) count enough in
      ap (λ xs. JoinExpr (reverse xs) ∷ drop count (open_in b)) front ∙ ap (λ xs. JoinExpr xs ∷ drop count (open_in b)) (reverse-reverse parts)
      ∙ ap (λ xs. JoinExpr parts ∷ xs) rest

  ends : expr_at (record b { exprs = b.exprs ++ join ∷ [] }) (length b.exprs) ≡ JoinExpr parts
  unfolding expr_at
  ends =
      ap last_of (
      ap (open_after b.symbols []) (take_all (length b.exprs + 1) (b.exprs ++ join ∷ []) (omega (arith, length_push b.exprs join)))
      ∙ after_push b join ∙ joined
      )

  part_is : slice_range (b.exprs ++ join ∷ []) (length a.exprs) (length b.exprs + 1) ≡ has.grown.exprs.0 ++ join ∷ []
  part_is =
      let more = has.grown.exprs.0 in
      let all : b.exprs ++ join ∷ [] ≡ a.exprs ++ (more ++ join ∷ []) = ap (λ xs. xs ++ join ∷ []) has.grown.exprs.1 ∙ append_assoc a.exprs more (join ∷ []) in
      let size = ap length has.grown.exprs.1 ∙ length-append a.exprs more in
      ap (take (length b.exprs + 1 - length a.exprs)) (ap (drop (length a.exprs)) all ∙ drop_at a.exprs (more ++ join ∷ []) (length a.exprs) refl)
      ∙ take_all (length b.exprs + 1 - length a.exprs) (more ++ join ∷ []) (omega (arith, length_push more join, size))

  leaves_are : leaves_of b.symbols (has.grown.exprs.0 ++ join ∷ []) ≡ leaves (JoinExpr parts)
  leaves_are =
      flat_map-append (leaf_of b.symbols) has.grown.exprs.0 (join ∷ []) ∙ append-nil (flat_map (leaf_of b.symbols) has.grown.exprs.0) ∙ has.parts ∙ sym (leaves_join parts)

  spanned : IsSpan (record b { exprs = b.exprs ++ join ∷ [] }) (length a.exprs) (length b.exprs)
  spanned = (extends_length a.exprs b.exprs has.grown.exprs, ap leaves ends ∙ sym leaves_are ∙ ap (leaves_of b.symbols) (sym part_is))

  pub join_added : HasExprs a (record b { exprs = b.exprs ++ join ∷ [] }) (JoinExpr parts ∷ [])
  join_added = record {
    grown = grows_trans a b (record b { exprs = b.exprs ++ join ∷ [] }) has.grown (row_grows b has.grown.sound join tt spanned);
    stack = after_push b join ∙ joined;
    parts = leaves_are ∙ sym (append-nil (leaves (JoinExpr parts)));
  }

-- the last expression is that of the last row
pub last_added : (a b : Terms) (e : Expr) → HasExprs a b (e ∷ []) → 0 < length b.exprs → IsExpr b e (length b.exprs - 1)
unfolding expr_at
last_added a b e has some = record {
  there = omega (arith, some);
  same = ap last_of (ap (open_after b.symbols []) (take_all (length b.exprs - 1 + 1) b.exprs (omega arith)) ∙ has.stack);
}

-- an expression has some row
pub some_added : (a b : Terms) (e : Expr) → HasExprs a b (e ∷ []) → 0 < length b.exprs
unfolding open_after
some_added a b e has = by b.exprs refl
  where
    by : (rows : List ExprRow) → b.exprs ≡ rows → 0 < length b.exprs
    by (row ∷ rows) is = omega (arith, ap length is)
    by [] is =
        let none : length (reverse (e ∷ []) ++ open_in a) ≡ 0 = ap length (sym has.stack ∙ ap (open_after b.symbols []) is) in
        absurd (omega (arith, none))

pub connected_added : (a b : Terms) (e : Expr) → HasExprs a b (e ∷ []) → IsConnected b (Some e) (length b.exprs)
connected_added a b e has = record { there = omega arith; same = by (length b.exprs) refl }
  where
    by : (n : ℕ) → length b.exprs ≡ n → connected b n ≡ Some e
    by zero is = absurd (omega (arith, is, some_added a b e has))
    by (suc n) is =
        let last = last_added a b e has (some_added a b e has) in
        ap (λ k. Some (expr_at b k)) (omega (arith, is)) ∙ ap Some last.same

pub connected_none : (t : Terms) → IsConnected t None 0
connected_none t = record { there = omega arith; same = refl }
