-- Rows of instances that grow.
use Rattle.std.proofs.Common.{◌≡◌, ℕ, zero, suc, ◌+◌, ◌<◌, ◌≤◌, ◌⊎◌, List, [], ◌∷◌, ◌++◌, Some, length, slice_get, inl, inr, refl, sym, ap, ◌∙◌, subst, arith, append_assoc, get_or}
use Rattle.std.proofs.lemmas.Bool.{cases_lt}
use Rattle.std.proofs.lemmas.List.{append-nil, length_push}
use Rattle.std.proofs.lemmas.Option.{none-some, same_Some, slice_get-get_or, slice_get_within}
use Rattle.list_defs.proofs.Longer.{slice_get-append, slice_get_front, slice_get_last, slice_get_behind}
use Rattle.pw_defs.specs.declared.design.Body.TheVariants.{Module as ModuleBody}
use Rattle.module_rows.specs.declared.plain.Netlist.{Netlist}
use Rattle.net_hierarchy.specs.Graph.{Types}
use Rattle.net_instances.specs.declared.tree.TreeRow.{TreeRow}
use Rattle.net_instances.specs.Trees.{HasAllInside, HasChild, HasChildren, HasInside, IsChild, IsInside, IsTree, holder_of, lines_in}

-- what stands behind the first of two lists stands in the second
pub in_second : {X : Type 0} (xs ys : List X) (n : ℕ) (x : X) → length xs ≤ n → slice_get (xs ++ ys) n ≡ Some x → (i : ℕ) × (n ≡ length xs + i) × (slice_get ys i ≡ Some x)
in_second [] ys n x past e = (n, omega arith, e)
in_second (y ∷ xs) ys zero x past e = absurd (omega (arith, past))
in_second (y ∷ xs) ys (suc n) x past e = let found = in_second xs ys n x (omega (arith, past)) e in (found.0, omega (arith, found.1), found.2)

module _ (n : Netlist) (types : Types) where
  pub no_children : (holder parent : ℕ) (rows : List TreeRow) → HasChildren n types holder parent 0 rows rows
  no_children holder parent rows = record { more = []; grown = sym (append-nil rows); count_is = refl; each = λ inst row e. absurd (none-some row e) }

  pub one_child_more : (holder parent count : ℕ) (old middle new : List TreeRow) → HasChildren n types holder parent count old middle
      → HasChild n types holder parent count middle new → HasChildren n types holder parent (count + 1) old new
  one_child_more holder parent count old middle new some one = record {
    more = some.more ++ one.row ∷ [];
    grown = one.grown ∙ ap (λ rows. rows ++ one.row ∷ []) some.grown ∙ append_assoc old some.more (one.row ∷ []);
    count_is = length_push some.more one.row ∙ ap (λ (k : ℕ). k + 1) some.count_is;
    each = λ inst row e. by inst row e (cases_lt inst (length some.more));
  }
    where
      by : (inst : ℕ) (row : TreeRow) → slice_get (some.more ++ one.row ∷ []) inst ≡ Some row → (inst < length some.more) ⊎ (length some.more ≤ inst)
          → IsChild n types holder parent inst row
      by inst row e (inl early) = some.each inst row (slice_get_front some.more (one.row ∷ []) inst row early e)
      by inst row e (inr late) =
          let short : inst < length (some.more ++ one.row ∷ []) = slice_get_within (some.more ++ one.row ∷ []) inst row e in
          let size = length_push some.more one.row in
          let last : inst ≡ length some.more = omega (arith, late, short, size) in
          let same : one.row ≡ row = same_Some one.row row (sym (slice_get_last some.more one.row inst last) ∙ e) in
          let number : count ≡ inst = sym some.count_is ∙ sym last in
          subst (λ (r : TreeRow). IsChild n types holder parent inst r) same (subst (λ (k : ℕ). IsChild n types holder parent k one.row) number one.is)

  module _ (top : ℕ) where
    pub first_tree : (row : TreeRow) → row.body ≡ ModuleBody top → IsTree n types top (row ∷ []) []
    first_tree row is = record {
      top_row = row;
      top_there = refl;
      top_body = is;
      inside = λ at other below e. absurd (omega (arith, below, slice_get_within (row ∷ []) at other e));
      all = λ at first other e f. absurd (none-some first e);
    }

    inside_kept : (rows more : List TreeRow) (at : ℕ) (row : TreeRow) → IsInside n types rows at row → IsInside n types (rows ++ more) at row
    inside_kept rows more at row is = record {
      outer = is.outer;
      there = slice_get-append rows more row.parent is.outer is.there;
      earlier = is.earlier;
      within = is.within;
      child = is.child;
    }

    all_kept : (rows more : List TreeRow) (at first : ℕ) (row : TreeRow) → HasAllInside n types rows at first row → HasAllInside n types (rows ++ more) at first row
    all_kept rows more at first row is = record {
      behind = is.behind;
      each = λ inst within.
          let inner = is.each inst within in
          (inner.0, slice_get-append rows more (first + inst) inner.0 inner.1, inner.2);
    }

    -- the instances inside one more
    pub tree_grows : (rows new : List TreeRow) (firsts : List ℕ) (row : TreeRow) → IsTree n types top rows firsts → slice_get rows (length firsts) ≡ Some row
        → HasInside n types (length firsts) row.body rows new → IsTree n types top new (firsts ++ length rows ∷ [])
    tree_grows rows new firsts row is there grows = subst (λ rs. IsTree n types top rs (firsts ++ length rows ∷ [])) (sym grows.grown) grown
      where
        more : List TreeRow
        more = grows.more

        open_row : length firsts < length rows
        open_row = slice_get_within rows (length firsts) row there

        of_new : (at i : ℕ) (other : TreeRow) → at ≡ length rows + i → slice_get more i ≡ Some other → IsInside n types (rows ++ more) at other
        of_new at i other place e =
            let child = grows.each i other e in
            let within : i < length more = slice_get_within more i other e in
            let count : length more ≡ lines_in n row.body = grows.count_is in
            record {
              outer = row;
              there = slice_get-append rows more other.parent row (subst (λ (k : ℕ). slice_get rows k ≡ Some row) (sym child.inside) there);
              earlier = omega (arith, child.inside, open_row, place);
              within = omega (arith, child.line, within, count);
              child = subst (λ (k : ℕ). IsChild n types (holder_of row.body) k other.inst other) (sym child.inside)
                  (subst (λ (k : ℕ). IsChild n types (holder_of row.body) (length firsts) k other) (sym child.line) child);
            }

        inside : (at : ℕ) (other : TreeRow) → 0 < at → slice_get (rows ++ more) at ≡ Some other → IsInside n types (rows ++ more) at other
        inside at other below e = by (cases_lt at (length rows))
          where
            by : (at < length rows) ⊎ (length rows ≤ at) → IsInside n types (rows ++ more) at other
            by (inl early) = inside_kept rows more at other (is.inside at other below (slice_get_front rows more at other early e))
            by (inr late) = let found = in_second rows more at other late e in of_new at found.0 other found.1 found.2

        new_all : HasAllInside n types (rows ++ more) (length firsts) (length rows) row
        new_all = record {
          behind = open_row;
          each = λ inst within.
              let there_more : slice_get more inst ≡ Some (get_or more inst row) = slice_get-get_or more inst row (omega (arith, within, grows.count_is)) in
              (get_or more inst row, slice_get_behind rows more inst ∙ there_more, grows.each inst (get_or more inst row) there_more);
        }

        all : (at first : ℕ) (other : TreeRow) → slice_get (firsts ++ length rows ∷ []) at ≡ Some first → slice_get (rows ++ more) at ≡ Some other
            → HasAllInside n types (rows ++ more) at first other
        all at first other e f = by (cases_lt at (length firsts))
          where
            by : (at < length firsts) ⊎ (length firsts ≤ at) → HasAllInside n types (rows ++ more) at first other
            by (inl early) =
                all_kept rows more at first other
                (is.all at first other (slice_get_front firsts (length rows ∷ []) at first early e) (slice_get_front rows more at other (omega (arith, early, open_row)) f))
            by (inr late) =
                let short : at < length (firsts ++ length rows ∷ []) = slice_get_within (firsts ++ length rows ∷ []) at first e in
                let size = length_push firsts (length rows) in
                let last : at ≡ length firsts = omega (arith, late, short, size) in
                let same_first : length rows ≡ first = same_Some (length rows) first (sym (slice_get_last firsts (length rows) at last) ∙ e) in
                let at_row : slice_get (rows ++ more) at ≡ Some row =
                subst (λ (k : ℕ). slice_get (rows ++ more) k ≡ Some row) (sym last) (slice_get-append rows more (length firsts) row there) in
                let same_row : row ≡ other = same_Some row other (sym at_row ∙ f) in
                subst (λ (r : TreeRow). HasAllInside n types (rows ++ more) at first r) same_row
                (subst (λ (k : ℕ). HasAllInside n types (rows ++ more) at k row) same_first
                (subst (λ (k : ℕ). HasAllInside n types (rows ++ more) k (length rows) row) (sym last) new_all))

        grown : IsTree n types top (rows ++ more) (firsts ++ length rows ∷ [])
        grown = record {
          top_row = is.top_row;
          top_there = slice_get-append rows more 0 is.top_row is.top_there;
          top_body = is.top_body;
          inside = inside;
          all = all;
        }
