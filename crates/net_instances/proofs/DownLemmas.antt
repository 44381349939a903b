-- Ways down from one instance to another, taken apart and put together.
use Rattle.std.proofs.Common.{◌≡◌, ℕ, zero, suc, ◌<◌, ◌≤◌, Bool, true, false, cond, ltb, List, [], ◌∷◌, ◌++◌, Option, None, Some, slice_get, refl, sym, ap, ◌∙◌, subst, arith, append_assoc}
use Rattle.std.proofs.lemmas.Bool.{lt-ltb, ltb-true}
use Rattle.design_defs.specs.Hierarchy.{Way}
use Rattle.net_instances.specs.declared.tree.TreeRow.{TreeRow}
use Rattle.net_instances.specs.Trees.{name_in, parent_in, parent_of}
use Rattle.net_instances.specs.Ways.{IsDown, here, further, IsShared, IsStep, way_in, way_to}

module _ (symbols : List (List ℕ)) (rows : List TreeRow) where
  pub down_le : (from n : ℕ) (way : Way) → IsDown symbols rows from n way → from ≤ n
  down_le from n way (here _ _ same none) = omega (arith, same)
  down_le from n way (further _ _ outer above down parts) = omega (arith, above)

  -- what a way that isn't empty goes through last
  pub record IsOpened (from n : ℕ) (way : Way) : Type 0 where
    pub outer : Way
    pub down : IsDown symbols rows from (parent_in rows n) outer
    pub parts : way ≡ name_in symbols rows n ∷ outer

  pub opened : (from n : ℕ) (way : Way) → from < n → IsDown symbols rows from n way → IsOpened from n way
  opened from n way below (here _ _ same none) = absurd (omega (arith, same, below))
  opened from n way below (further _ _ outer above down parts) = record { outer = outer; down = down; parts = parts }

  pub at_end : (from n : ℕ) (way : Way) → n ≤ from → IsDown symbols rows from n way → way ≡ []
  at_end from n way past (here _ _ same none) = none
  at_end from n way past (further _ _ outer above down parts) = absurd (omega (arith, past, above))

  -- only the instance itself is at the end of the empty way
  pub no_way : (from n : ℕ) (way : Way) → way ≡ [] → IsDown symbols rows from n way → n ≡ from
  no_way from n way empty (here _ _ same none) = same
  no_way from n way empty (further _ _ outer above down parts) = let never : [] ≡ name_in symbols rows n ∷ outer = sym empty ∙ parts in cc

  pub down_joined : (from middle n : ℕ) (upper lower : Way) → IsDown symbols rows from middle upper → IsDown symbols rows middle n lower
      → IsDown symbols rows from n (lower ++ upper)
  down_joined from middle n upper lower first (here _ _ same none) =
      subst (λ w. IsDown symbols rows from n (w ++ upper)) (sym none) (subst (λ (k : ℕ). IsDown symbols rows from k upper) (sym same) first)
  down_joined from middle n upper lower first (further _ _ outer above down parts) =
      IsDown.further n (lower ++ upper) (outer ++ upper) (omega (arith, above, down_le from middle upper first))
      (down_joined from middle (parent_in rows n) upper outer first down) (ap (λ (w : Way). w ++ upper) parts)

  -- there is one way down
  pub one_way_down : (from n : ℕ) (v w : Way) → IsDown symbols rows from n v → IsDown symbols rows from n w → v ≡ w
  one_way_down from n v w (here _ _ same none) other = none ∙ sym (at_end from n w (omega (arith, same)) other)
  one_way_down from n v w (further _ _ outer above down parts) other =
      let b = opened from n w above other in
      let rest : outer ≡ b.outer = one_way_down from (parent_in rows n) outer b.outer down b.down in
      parts ∙ ap (λ (o : Way). name_in symbols rows n ∷ o) rest ∙ sym b.parts

  -- an instance stands on the way from one down to another
  pub record IsOnWay (from to : ℕ) (way : Way) (middle : ℕ) : Type 0 where
    pub lower : Way
    pub upper : Way
    pub parts : way ≡ lower ++ upper
    pub down_lower : IsDown symbols rows middle to lower
    pub down_upper : IsDown symbols rows from middle upper

  pub on_way_end : (from to : ℕ) (way : Way) → IsDown symbols rows from to way → IsOnWay from to way to
  on_way_end from to way down = record { lower = []; upper = way; parts = refl; down_lower = IsDown.here to [] refl refl; down_upper = down }

  -- so does what it is inside
  pub one_up : (from to : ℕ) (way : Way) (middle : ℕ) → from < middle → parent_in rows middle < middle → IsOnWay from to way middle → IsOnWay from to way (parent_in rows middle)
  one_up from to way middle below above on =
      let up = opened from middle on.upper below on.down_upper in
      let name = name_in symbols rows middle in
      let step : IsDown symbols rows (parent_in rows middle) middle (name ∷ []) = IsDown.further middle (name ∷ []) [] above (IsDown.here (parent_in rows middle) [] refl refl) refl in
      record {
        lower = on.lower ++ name ∷ [];
        upper = up.outer;
        parts = on.parts ∙ ap (λ (w : Way). on.lower ++ w) up.parts ∙ sym (append_assoc on.lower (name ∷ []) up.outer);
        down_lower = down_joined (parent_in rows middle) middle to (name ∷ []) on.lower step on.down_lower;
        down_upper = up.down;
      }

  -- where what it is inside isn't further down than the first, that is the first itself
  pub step_found : (from to : ℕ) (way : Way) (middle : ℕ) → from < middle → parent_in rows middle ≤ from → IsOnWay from to way middle → IsStep symbols rows from to way middle
  step_found from to way middle below above on =
      let up = opened from middle on.upper below on.down_upper in
      let none : up.outer ≡ [] = at_end from (parent_in rows middle) up.outer above up.down in
      let name = name_in symbols rows middle in
      record {
        rest = on.lower;
        parts = on.parts ∙ ap (λ (w : Way). on.lower ++ w) (up.parts ∙ ap (λ (o : Way). name ∷ o) none);
        down = on.down_lower;
      }

  pub shared_found : (a b shared : ℕ) (v w : Way) → IsOnWay 0 a v shared → IsOnWay 0 b w shared → IsShared symbols rows a b v w shared
  shared_found a b shared v w on_a on_b =
      let same : on_b.upper ≡ on_a.upper = one_way_down 0 shared on_b.upper on_a.upper on_b.down_upper on_a.down_upper in
      record {
        to_a = on_a.lower;
        to_b = on_b.lower;
        outer = on_a.upper;
        down_a = on_a.down_lower;
        down_b = on_b.down_lower;
        parts_a = on_a.parts;
        parts_b = on_b.parts ∙ ap (λ (u : Way). on_b.lower ++ u) same;
      }

-- what an instance is inside comes before it
pub parent_lower : (rows : List TreeRow) (n : ℕ) → 0 < n → parent_in rows n < n
parent_lower rows n below = by (slice_get rows n)
  where
    of_row : (parent : ℕ) (b : Bool) → ltb parent n ≡ b → cond b parent 0 < n
    of_row parent true less = ltb-true parent n less
    of_row parent false more = below

    by : (o : Option TreeRow) → parent_of n o < n
    by None = below
    by (Some row) = of_row row.parent (ltb row.parent n) refl

pub parent_is : (rows : List TreeRow) (n : ℕ) (row : TreeRow) → slice_get rows n ≡ Some row → row.parent < n → parent_in rows n ≡ row.parent
parent_is rows n row there below = ap (parent_of n) there ∙ ap (λ b. cond b row.parent 0) (lt-ltb row.parent n below)

module _ (symbols : List (List ℕ)) (rows : List TreeRow) where
  pub way_is_down : (more n : ℕ) → n ≤ more → IsDown symbols rows 0 n (way_to symbols rows more n)
  unfolding way_to
  way_is_down more zero few = IsDown.here 0 [] refl refl
  way_is_down zero (suc n) few = absurd (omega (arith, few))
  way_is_down (suc more) (suc n) few =
      let above = parent_lower rows (suc n) (omega arith) in
      IsDown.further (suc n) (way_to symbols rows (suc more) (suc n)) (way_to symbols rows more (parent_in rows (suc n))) (omega arith)
      (way_is_down more (parent_in rows (suc n)) (omega (arith, few, above))) refl

  -- the way to an instance is its name behind the way to what it is inside
  pub way_parts : (n : ℕ) → 0 < n → way_in symbols rows n ≡ name_in symbols rows n ∷ way_in symbols rows (parent_in rows n)
  way_parts n below =
      let outer = way_in symbols rows (parent_in rows n) in
      one_way_down symbols rows 0 n (way_in symbols rows n) (name_in symbols rows n ∷ outer) (way_is_down n n (omega arith))
      (IsDown.further n (name_in symbols rows n ∷ outer) outer below (way_is_down (parent_in rows n) (parent_in rows n) (omega arith)) refl)

  pub top_way : way_in symbols rows 0 ≡ []
  unfolding way_to
  top_way = refl
