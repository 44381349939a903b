-- Texts of ways, and how they compare.
use Rattle.std.proofs.Common.{◌≡◌, ◌≢◌, ◌⊎◌, ℕ, zero, suc, ◌+◌, ◌-◌, ◌<◌, ◌≤◌, ◌==◌, Bool, true, false, cond, List, [], ◌∷◌, ◌++◌, Option, None, Some, length, slice_index, take, drop, inl, inr, refl, sym, ap, ◌∙◌, subst, arith, append_assoc, ltb, eqb}
use Rattle.std.proofs.lemmas.Bool.{cases_lt, eqb-true, ltb-false, ltb-true}
use Rattle.std.specs.Bool.{⊤}
use Rattle.std.specs.Ordering.{ordering_then}
use Rattle.std.specs.declared.cmp.Ordering.{Ordering}
use Rattle.std.specs.declared.cmp.Ordering.TheVariants.{Less, Equal, Greater}
use Rattle.std.proofs.lemmas.List.{append-nil}
use Rattle.list_defs.specs.Orders.{name_cmp}
use Rattle.design_defs.specs.Hierarchy.{Way, path, way_cmp}
use Rattle.design_defs.specs.Names.{joined}
use Rattle.net_instances.specs.declared.tree.TreeRow.{TreeRow}
use Rattle.net_instances.specs.Trees.{name_in, parent_in}
use Rattle.net_instances.specs.Ways.{AreNamed, IsDown, IsLeft, IsShared, IsStep, by_first, first_byte, slashed}
use Rattle.design_defs.proofs.BitOrders.{way_total}
use Rattle.std.proofs.lemmas.Cmp.{nat_cmp_total, tied_itself}
use Rattle.net_instances.proofs.DownLemmas.{at_end, no_way, one_way_down, opened}

-- the first byte of a text
abbrev pub head_of : List ℕ → Option ℕ
head_of [] = None
head_of (c ∷ cs) = Some c

pub no_items : (xs : List ℕ) → length xs ≡ 0 → xs ≡ []
no_items [] e = refl
no_items (x ∷ xs) e = absurd (omega (arith, e))

pub slashed-append : (xs ys : Way) → slashed (xs ++ ys) ≡ slashed ys ++ slashed xs
slashed-append [] ys = sym (append-nil (slashed ys))
slashed-append (x ∷ xs) ys = ap (λ t. t ++ 47 ∷ x) (slashed-append xs ys) ∙ append_assoc (slashed ys) (slashed xs) (47 ∷ x)

-- a text that isn't empty begins with a slash
pub first_slash : (outer : Way) (name : List ℕ) → head_of (slashed outer ++ 47 ∷ name) ≡ Some 47
first_slash [] name = refl
first_slash (other ∷ outer) name = ap head_of (append_assoc (slashed outer) (47 ∷ other) (47 ∷ name)) ∙ first_slash outer (other ++ 47 ∷ name)

-- the same in front changes nothing
pub cmp_front : (front t u : List ℕ) → name_cmp (front ++ t) (front ++ u) ≡ name_cmp t u
cmp_front [] t u = refl
cmp_front (c ∷ front) t u = ap (λ o. ordering_then o (name_cmp (front ++ t) (front ++ u))) (tied_itself nat_cmp_total c) ∙ cmp_front front t u

-- fronts of one length that are the same
pub cmp_fronts : (k : ℕ) (p q t u : List ℕ) → k ≤ length p → k ≤ length q → take k p ≡ take k q → name_cmp (p ++ t) (q ++ u) ≡ name_cmp (drop k p ++ t) (drop k q ++ u)
cmp_fronts zero p q t u in_p in_q same = refl
cmp_fronts (suc k) [] q t u in_p in_q same = absurd (omega (arith, in_p))
cmp_fronts (suc k) (c ∷ p) [] t u in_p in_q same = absurd (omega (arith, in_q))
cmp_fronts (suc k) (c ∷ p) (d ∷ q) t u in_p in_q same =
    let whole : c ∷ take k p ≡ d ∷ take k q = same in
    let head : c ≡ d = cc in
    let tails : take k p ≡ take k q = cc in
    ap (λ (e : ℕ). name_cmp (e ∷ (p ++ t)) (d ∷ (q ++ u))) head ∙ cmp_front (d ∷ []) (p ++ t) (q ++ u) ∙ cmp_fronts k p q t u (omega (arith, in_p)) (omega (arith, in_q)) tails

-- how two texts compare, where their first bytes decide it
pub decided : (t u : List ℕ) (order : Ordering) → by_first (head_of t) (head_of u) ≡ Some order → order ≡ name_cmp t u
decided [] [] order e = cc
decided [] (d ∷ u) order e = cc
decided (c ∷ t) [] order e = cc
decided (c ∷ t) (d ∷ u) order e = by (ltb c d) refl (c == d) refl e
  where
    by : (less : Bool) → ltb c d ≡ less → (same : Bool) → (c == d) ≡ same → cond less (Some Less) (cond same None (Some Greater)) ≡ Some order
        → order ≡ ordering_then (cond less Less (cond same Equal Greater)) (name_cmp t u)
    by true _ same _ h = cc
    by false _ true _ h = cc
    by false _ false _ h = cc

-- two texts that begin alike
pub record BeginAlike (t u : List ℕ) : Type 0 where
  pub byte : ℕ
  pub t_rest : List ℕ
  pub u_rest : List ℕ
  pub t_parts : t ≡ byte ∷ t_rest
  pub u_parts : u ≡ byte ∷ u_rest

pub begin_alike : (t u : List ℕ) → by_first (head_of t) (head_of u) ≡ None → BeginAlike t u
begin_alike [] [] e = cc
begin_alike [] (d ∷ u) e = cc
begin_alike (c ∷ t) [] e = cc
begin_alike (c ∷ t) (d ∷ u) e = by (ltb c d) refl (c == d) refl e
  where
    by : (less : Bool) → ltb c d ≡ less → (same : Bool) → (c == d) ≡ same → cond less (Some Less) (cond same None (Some Greater)) ≡ None
        → BeginAlike (c ∷ t) (d ∷ u)
    by true _ same _ h = cc
    by false _ false _ h = cc
    by false _ true is h =
        let equal : c ≡ d = eqb-true c d is in
        record { byte = d; t_rest = t; u_rest = u; t_parts = ap (λ b. b ∷ t) equal; u_parts = refl }

module _ (symbols : List (List ℕ)) (rows : List TreeRow) where
  -- what is left of a text begins with the byte that is read next
  pub head_left : (to at : ℕ) (rest text : List ℕ) → IsLeft symbols rows to at rest text → head_of text ≡ first_byte at rest to
  head_left to at (c ∷ rest) text left = ap head_of left.is
  head_left to at [] text left = by (ltb at to) refl
    where
      started : (w : Way) → left.way ≡ w → at < to → head_of text ≡ Some 47
      started [] e below = absurd (omega (arith, below, no_way symbols rows at to left.way e left.down))
      started (name ∷ outer) e below = ap head_of (left.is ∙ ap slashed e) ∙ first_slash outer name

      by : (b : Bool) → ltb at to ≡ b → head_of text ≡ cond b (Some 47) None
      by true below = started left.way refl (ltb-true at to below)
      by false past = ap head_of (left.is ∙ ap slashed (at_end symbols rows at to left.way (ltb-false at to past) left.down))

  -- so many bytes that stand at the front of both of two texts say nothing of how they compare
  pub record AreSkipped (a b left right : ℕ) (left_rest right_rest t u : List ℕ) : Type 0 where
    pub t_rest : List ℕ
    pub u_rest : List ℕ
    pub t_left : IsLeft symbols rows a left left_rest t_rest
    pub u_left : IsLeft symbols rows b right right_rest u_rest
    pub same : name_cmp t u ≡ name_cmp t_rest u_rest

  pub skipped : (a b left right k : ℕ) (p q t u : List ℕ) → IsLeft symbols rows a left p t → IsLeft symbols rows b right q u → k ≤ length p → k ≤ length q
      → take k p ≡ take k q → AreSkipped a b left right (drop k p) (drop k q) t u
  skipped a b left right k p q t u of_t of_u in_p in_q same = record {
    t_rest = drop k p ++ slashed of_t.way;
    u_rest = drop k q ++ slashed of_u.way;
    t_left = record { way = of_t.way; down = of_t.down; is = refl };
    u_left = record { way = of_u.way; down = of_u.down; is = refl };
    same = ap (λ x. name_cmp x u) of_t.is ∙ ap (name_cmp (p ++ slashed of_t.way)) of_u.is ∙ cmp_fronts k p q (slashed of_t.way) (slashed of_u.way) in_p in_q same;
  }

  -- the next byte of a name
  pub next_in_name : (to at byte : ℕ) (c : ℕ) (rest more : List ℕ) → IsLeft symbols rows to at (c ∷ rest) (byte ∷ more) → IsLeft symbols rows to at rest more
  next_in_name to at byte c rest more left =
      let parts : byte ∷ more ≡ c ∷ (rest ++ slashed left.way) = left.is in
      record { way = left.way; down = left.down; is = cc }

  -- the slash before the next name
  pub next_name : (to at byte below : ℕ) (more : List ℕ) (left : IsLeft symbols rows to at [] (byte ∷ more)) → IsStep symbols rows at to left.way below
      → IsLeft symbols rows to below (name_in symbols rows below) more
  next_name to at byte below more left step =
      let name = name_in symbols rows below in
      let parts : byte ∷ more ≡ 47 ∷ (name ++ slashed step.rest) = left.is ∙ ap slashed step.parts ∙ slashed-append step.rest (name ∷ []) in
      record { way = step.rest; down = step.down; is = cc }

  pub no_more : (to at byte : ℕ) (more : List ℕ) → to ≤ at → IsLeft symbols rows to at [] (byte ∷ more) → ⊥
  no_more to at byte more past left =
      let none : byte ∷ more ≡ [] = left.is ∙ ap slashed (at_end symbols rows at to left.way past left.down) in
      cc

-- PATHS
-- the path of an instance below the top isn't empty, and has a slash less in front
pub record IsPathText (name : List ℕ) (outer : Way) : Type 0 where
  pub first : ℕ
  pub rest : List ℕ
  pub is_path : path (name ∷ outer) ≡ first ∷ rest
  pub is_text : slashed (name ∷ outer) ≡ 47 ∷ path (name ∷ outer)

pub path_text : (name : List ℕ) (outer : Way) → AreNamed (name ∷ outer) → IsPathText name outer
path_text [] outer named = absurd (named.0 refl)
path_text (c ∷ name) [] named = record { first = c; rest = name; is_path = refl; is_text = refl }
path_text (c ∷ name) (other ∷ outer) named =
    let above = path_text other outer named.1 in
    let joined_path : path ((c ∷ name) ∷ other ∷ outer) ≡ above.first ∷ (above.rest ++ 47 ∷ (c ∷ name)) = ap (λ p. joined p (c ∷ name)) above.is_path in
    record {
      first = above.first;
      rest = above.rest ++ 47 ∷ (c ∷ name);
      is_path = joined_path;
      is_text = ap (λ t. t ++ 47 ∷ (c ∷ name)) (above.is_text ∙ ap (λ p. 47 ∷ p) above.is_path) ∙ ap (λ p. 47 ∷ p) (sym joined_path);
    }

-- of two ways that end below the top, texts compare as paths do
texts_as_paths : (n m : List ℕ) (v w : Way) → AreNamed (n ∷ v) → AreNamed (m ∷ w) → name_cmp (slashed (n ∷ v)) (slashed (m ∷ w)) ≡ name_cmp (path (n ∷ v)) (path (m ∷ w))
texts_as_paths n m v w named_v named_w =
    ap (λ t. name_cmp t (slashed (m ∷ w))) (path_text n v named_v).is_text ∙ ap (name_cmp (47 ∷ path (n ∷ v))) (path_text m w named_w).is_text

-- what texts say of the order of ways
abbrev pub SaysOf : Ordering → Way → Way → Type 0
SaysOf Less v w = way_cmp v w ≡ Less
SaysOf Greater v w = way_cmp v w ≡ Greater
SaysOf Equal [] [] = ⊤
SaysOf Equal [] (m ∷ w) = ⊥
SaysOf Equal (n ∷ v) [] = ⊥
SaysOf Equal (n ∷ v) (m ∷ w) = way_cmp (n ∷ v) (m ∷ w) ≡ way_cmp v w

pub texts_say : (v w : Way) → AreNamed v → AreNamed w → SaysOf (name_cmp (slashed v) (slashed w)) v w
texts_say [] [] named_v named_w = tt
texts_say [] (m ∷ w) named_v named_w = subst (λ o. SaysOf o [] (m ∷ w)) (ap (name_cmp []) (sym (path_text m w named_w).is_text)) refl
texts_say (n ∷ v) [] named_v named_w = subst (λ o. SaysOf o (n ∷ v) []) (ap (λ t. name_cmp t []) (sym (path_text n v named_v).is_text)) refl
texts_say (n ∷ v) (m ∷ w) named_v named_w =
    subst (λ o. SaysOf o (n ∷ v) (m ∷ w)) (sym (texts_as_paths n m v w named_v named_w)) (by (name_cmp (path (n ∷ v)) (path (m ∷ w))) refl)
  where
    by : (o : Ordering) → name_cmp (path (n ∷ v)) (path (m ∷ w)) ≡ o → SaysOf o (n ∷ v) (m ∷ w)
    by Less e = ap (λ o. ordering_then o (way_cmp v w)) e
    by Greater e = ap (λ o. ordering_then o (way_cmp v w)) e
    by Equal e = ap (λ o. ordering_then o (way_cmp v w)) e

-- LOOPS
-- The texts of two ways compare as what is left of both.
pub record AreBoth (symbols : List (List ℕ)) (rows : List TreeRow) (a b left right : ℕ) (left_rest right_rest : List ℕ) (v w : Way) : Type 0 where
  pub t : List ℕ
  pub u : List ℕ
  pub t_left : IsLeft symbols rows a left left_rest t
  pub u_left : IsLeft symbols rows b right right_rest u
  pub same : name_cmp (slashed v) (slashed w) ≡ name_cmp t u

pub both_at_shared : (symbols : List (List ℕ)) (rows : List TreeRow) (a b shared : ℕ) (v w : Way) → IsShared symbols rows a b v w shared
    → AreBoth symbols rows a b shared shared [] [] v w
both_at_shared symbols rows a b shared v w is = record {
  t = slashed is.to_a;
  u = slashed is.to_b;
  t_left = record { way = is.to_a; down = is.down_a; is = refl };
  u_left = record { way = is.to_b; down = is.down_b; is = refl };
  same = ap (λ (x : Way). name_cmp (slashed x) (slashed w)) is.parts_a ∙ ap (λ (x : Way). name_cmp (slashed (is.to_a ++ is.outer)) (slashed x)) is.parts_b
      ∙ ap (λ x. name_cmp x (slashed (is.to_b ++ is.outer))) (slashed-append is.to_a is.outer)
      ∙ ap (name_cmp (slashed is.outer ++ slashed is.to_a)) (slashed-append is.to_b is.outer)
      ∙ cmp_front (slashed is.outer) (slashed is.to_a) (slashed is.to_b);
}

-- both without bytes that are alike
pub both_skipped : (symbols : List (List ℕ)) (rows : List TreeRow) (a b left right k : ℕ) (p q : List ℕ) (v w : Way) → AreBoth symbols rows a b left right p q v w
    → k ≤ length p → k ≤ length q → take k p ≡ take k q → AreBoth symbols rows a b left right (drop k p) (drop k q) v w
both_skipped symbols rows a b left right k p q v w both in_p in_q same =
    let less = skipped symbols rows a b left right k p q both.t both.u both.t_left both.u_left in_p in_q same in
    record { t = less.t_rest; u = less.u_rest; t_left = less.t_left; u_left = less.u_left; same = both.same ∙ less.same }

-- where the next bytes decide
pub both_decided : (symbols : List (List ℕ)) (rows : List TreeRow) (a b left right : ℕ) (p q : List ℕ) (v w : Way) (order : Ordering)
    → by_first (first_byte left p a) (first_byte right q b) ≡ Some order → AreBoth symbols rows a b left right p q v w → order ≡ name_cmp (slashed v) (slashed w)
both_decided symbols rows a b left right p q v w order e both =
    decided both.t both.u order (ap (λ o. by_first o (head_of both.u)) (head_left symbols rows a left p both.t both.t_left)
    ∙ ap (by_first (first_byte left p a)) (head_left symbols rows b right q both.u both.u_left) ∙ e) ∙ sym both.same

-- where they don't
pub both_further : (symbols : List (List ℕ)) (rows : List TreeRow) (a b left right left_next right_next : ℕ) (p q p_next q_next : List ℕ) (v w : Way)
    → by_first (first_byte left p a) (first_byte right q b) ≡ None
    → ((byte : ℕ) → (more : List ℕ) → IsLeft symbols rows a left p (byte ∷ more) → IsLeft symbols rows a left_next p_next more)
    → ((byte : ℕ) → (more : List ℕ) → IsLeft symbols rows b right q (byte ∷ more) → IsLeft symbols rows b right_next q_next more)
    → AreBoth symbols rows a b left right p q v w → AreBoth symbols rows a b left_next right_next p_next q_next v w
both_further symbols rows a b left right left_next right_next p q p_next q_next v w e of_left of_right both =
    let alike = begin_alike both.t both.u (ap (λ o. by_first o (head_of both.u)) (head_left symbols rows a left p both.t both.t_left)
    ∙ ap (by_first (first_byte left p a)) (head_left symbols rows b right q both.u both.u_left) ∙ e) in
    record {
      t = alike.t_rest;
      u = alike.u_rest;
      t_left = of_left alike.byte alike.t_rest (subst (IsLeft symbols rows a left p) alike.t_parts both.t_left);
      u_left = of_right alike.byte alike.u_rest (subst (IsLeft symbols rows b right q) alike.u_parts both.u_left);
      same = both.same ∙ ap (λ x. name_cmp x both.u) alike.t_parts ∙ ap (name_cmp (alike.byte ∷ alike.t_rest)) alike.u_parts
          ∙ cmp_front (alike.byte ∷ []) alike.t_rest alike.u_rest;
    }

-- Where two ways have one path, they compare as the ways to what they are inside.
pub record AreOuter (symbols : List (List ℕ)) (rows : List TreeRow) (left right : ℕ) (v w : Way) : Type 0 where
  pub left_way : Way
  pub right_way : Way
  pub left_down : IsDown symbols rows 0 left left_way
  pub right_down : IsDown symbols rows 0 right right_way
  pub left_named : AreNamed left_way
  pub right_named : AreNamed right_way
  pub same : way_cmp v w ≡ way_cmp left_way right_way

pub outer_starts : (symbols : List (List ℕ)) (rows : List TreeRow) (a b : ℕ) (v w : Way) → IsDown symbols rows 0 a v → IsDown symbols rows 0 b w → AreNamed v → AreNamed w
    → AreOuter symbols rows a b v w
outer_starts symbols rows a b v w of_a of_b named_a named_b =
    record { left_way = v; right_way = w; left_down = of_a; right_down = of_b; left_named = named_a; right_named = named_b; same = refl }

pub outer_says : (symbols : List (List ℕ)) (rows : List TreeRow) (left right : ℕ) (v w : Way) (outer : AreOuter symbols rows left right v w) (order : Ordering)
    → order ≡ name_cmp (slashed outer.left_way) (slashed outer.right_way) → SaysOf order outer.left_way outer.right_way
outer_says symbols rows left right v w outer order e =
    subst (λ o. SaysOf o outer.left_way outer.right_way) (sym e) (texts_say outer.left_way outer.right_way outer.left_named outer.right_named)

-- one instance further out
pub outer_further : (symbols : List (List ℕ)) (rows : List TreeRow) (left right : ℕ) (v w : Way) (outer : AreOuter symbols rows left right v w) → left ≢ right
    → SaysOf Equal outer.left_way outer.right_way → AreOuter symbols rows (parent_in rows left) (parent_in rows right) v w
outer_further symbols rows left right v w outer differ says = by outer.left_way refl outer.right_way refl says
  where
    below : (n : ℕ) (way : Way) (name : List ℕ) (rest : Way) → way ≡ name ∷ rest → IsDown symbols rows 0 n way → 0 < n
    below n way name rest parts down = by_number (cases_lt 0 n)
      where
        by_number : (0 < n) ⊎ (n ≤ 0) → 0 < n
        by_number (inl above) = above
        by_number (inr none) = let empty : way ≡ [] = at_end symbols rows 0 n way none down in let never : name ∷ rest ≡ [] = sym parts ∙ empty in cc

    by : (x : Way) → outer.left_way ≡ x → (y : Way) → outer.right_way ≡ y → SaysOf Equal x y → AreOuter symbols rows (parent_in rows left) (parent_in rows right) v w
    by [] e [] f h = absurd (differ (no_way symbols rows 0 left outer.left_way e outer.left_down ∙ sym (no_way symbols rows 0 right outer.right_way f outer.right_down)))
    by [] e (m ∷ y) f h = absurd h
    by (n ∷ x) e [] f h = absurd h
    by (n ∷ x) e (m ∷ y) f h =
        let of_left = opened symbols rows 0 left outer.left_way (below left outer.left_way n x e outer.left_down) outer.left_down in
        let of_right = opened symbols rows 0 right outer.right_way (below right outer.right_way m y f outer.right_down) outer.right_down in
        let left_parts : n ∷ x ≡ name_in symbols rows left ∷ of_left.outer = sym e ∙ of_left.parts in
        let right_parts : m ∷ y ≡ name_in symbols rows right ∷ of_right.outer = sym f ∙ of_right.parts in
        let left_same : of_left.outer ≡ x = cc in
        let right_same : of_right.outer ≡ y = cc in
        record {
          left_way = x;
          right_way = y;
          left_down = subst (IsDown symbols rows 0 (parent_in rows left)) left_same of_left.down;
          right_down = subst (IsDown symbols rows 0 (parent_in rows right)) right_same of_right.down;
          left_named = (subst AreNamed e outer.left_named).1;
          right_named = (subst AreNamed f outer.right_named).1;
          same = outer.same ∙ ap (λ (z : Way). way_cmp z outer.right_way) e ∙ ap (way_cmp (n ∷ x)) f ∙ h;
        }

pub outer_same : (symbols : List (List ℕ)) (rows : List TreeRow) (left right : ℕ) (v w : Way) → left ≡ right → AreOuter symbols rows left right v w → Equal ≡ way_cmp v w
outer_same symbols rows left right v w same outer =
    let one : outer.right_way ≡ outer.left_way =
    one_way_down symbols rows 0 left outer.right_way outer.left_way (subst (λ (n : ℕ). IsDown symbols rows 0 n outer.right_way) (sym same) outer.right_down) outer.left_down in
    sym (outer.same ∙ ap (way_cmp outer.left_way) one ∙ tied_itself way_total outer.left_way)

-- PROGRESS
-- what stands first behind so many
record IsFirstBehind (k : ℕ) (xs : List ℕ) (c : ℕ) : Type 0 where
  pub within : k < length xs
  pub is : slice_index xs k ≡ c

first_behind : (k : ℕ) (xs : List ℕ) (c : ℕ) (rest : List ℕ) → drop k xs ≡ c ∷ rest → IsFirstBehind k xs c
first_behind zero [] c rest e = cc
first_behind zero (x ∷ xs) c rest e = record { within = omega arith; is = cc }
first_behind (suc k) [] c rest e = cc
first_behind (suc k) (x ∷ xs) c rest e = let more = first_behind k xs c rest e in record { within = omega (arith, more.within); is = more.is }

nothing_left : (o : Option ℕ) → by_first None o ≡ None → ⊥
nothing_left None e = cc
nothing_left (Some x) e = cc

-- where two texts go on alike behind what names have in common, one of the names has ended
pub moves : (left right a b k : ℕ) (xs ys : List ℕ) → by_first (first_byte left (drop k xs) a) (first_byte right (drop k ys) b) ≡ None
    → (k < length xs → k < length ys → slice_index xs k ≢ slice_index ys k) → ((drop k xs ≡ []) × (left < a)) ⊎ ((drop k ys ≡ []) × (right < b))
moves left right a b k xs ys e apart = by (drop k xs) refl (drop k ys) refl e
  where
    first_ended : (q : List ℕ) → (f : Bool) → ltb left a ≡ f → by_first (cond f (Some 47) None) (first_byte right q b) ≡ None → left < a
    first_ended q true below h = ltb-true left a below
    first_ended q false past h = absurd (nothing_left (first_byte right q b) h)

    second_ended : (c : ℕ) (f : Bool) → ltb right b ≡ f → by_first (Some c) (cond f (Some 47) None) ≡ None → right < b
    second_ended c true below h = ltb-true right b below
    second_ended c false past h = cc

    by : (p : List ℕ) → drop k xs ≡ p → (q : List ℕ) → drop k ys ≡ q → by_first (first_byte left p a) (first_byte right q b) ≡ None
        → ((drop k xs ≡ []) × (left < a)) ⊎ ((drop k ys ≡ []) × (right < b))
    by [] p_is q q_is h = inl (p_is, first_ended q (ltb left a) refl h)
    by (c ∷ p) p_is [] q_is h = inr (q_is, second_ended c (ltb right b) refl h)
    by (c ∷ p) p_is (d ∷ q) q_is h =
        let alike = begin_alike (c ∷ []) (d ∷ []) h in
        let c_parts : c ∷ [] ≡ alike.byte ∷ alike.t_rest = alike.t_parts in
        let d_parts : d ∷ [] ≡ alike.byte ∷ alike.u_rest = alike.u_parts in
        let same : c ≡ d = cc in
        let x = first_behind k xs c p p_is in
        let y = first_behind k ys d q q_is in
        absurd (apart x.within y.within (x.is ∙ same ∙ sym y.is))

-- so that less is left of the ways
pub less_left : (left right left_next right_next a b : ℕ) (p q : List ℕ) → left ≤ a → right ≤ b → (left ≤ left_next) × (left_next ≤ a) → (right ≤ right_next) × (right_next ≤ b)
    → (p ≡ [] → left < a → left < left_next) → (q ≡ [] → right < b → right < right_next) → ((p ≡ []) × (left < a)) ⊎ ((q ≡ []) × (right < b))
    → (a - left_next) + (b - right_next) < (a - left) + (b - right)
less_left left right left_next right_next a b p q in_a in_b l r further_l further_r (inl move) =
    let more = further_l move.0 move.1 in
    omega (arith, more, l.0, l.1, r.0, r.1, in_a, in_b)
less_left left right left_next right_next a b p q in_a in_b l r further_l further_r (inr move) =
    let more = further_r move.0 move.1 in
    omega (arith, more, l.0, l.1, r.0, r.1, in_a, in_b)
