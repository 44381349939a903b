-- Cells that are put together one after the other.
use Rattle.std.proofs.Common.{◌≡◌, ◌≢◌, ℕ, ◌<◌, Bool, true, false, not, List, [], ◌∷◌, ◌++◌, length, map, take, drop, get_or, slice_get, ◌+◌, ◌⊎◌, inl, inr, Some, None, MatchBool, Err, refl, sym, ap, ◌∙◌, subst, arith}
use Rattle.std.specs.List.{list_any}
use Rattle.std.specs.Option.{option_map}
use Rattle.std.proofs.lemmas.Option.{slice_get-map}
use Rattle.std.proofs.lemmas.List.{append-nil, append_assoc, drop_more, map-append, take-append-drop, take_more}
use Rattle.list_defs.specs.Members.{IsIn, place_of, same_name}
use Rattle.list_defs.proofs.Members.{IsIn-append_cases, IsIn-append_right, IsIn-map, IsIn-map_from, IsIn-slice_get}
use Rattle.list_defs.proofs.NameLemmas.{IsIn-list_any, absent-place_of, slice_get-place_of}
use Rattle.pw_defs.specs.declared.cells.Cell.{Cell}
use Rattle.pw_defs.specs.declared.cells.Cells.{Cells}
use Rattle.pw_defs.specs.declared.faults.LibFault.{LibFault}
use Rattle.pw_defs.specs.declared.faults.LibFault.TheVariants.{L1, L2, L3, Memory}
use Rattle.text_defs.specs.FirstPlace.{HasNoPlace, IsFirstPlace, firsts}
use Rattle.text_defs.proofs.FirstPlaces.{first_behind}
use Rattle.text_defs.proofs.Told.{IsTold}
use Rattle.lib_cells.specs.Joins.{IsGivenOtherwise, same_cell_name}
use Rattle.lib_cells.proofs.CellsTold.{told_cell}
use Rattle.lib_cells.proofs.FirstsLaws.{firsts_new, firsts_old, from_firsts, named_firsts}
use Rattle.cell_joins.specs.Unions.{IsFirstOther, IsJoin, IsOtherwiseAt, IsUnionOf, StandsAs, StandsTo, Takes, TakesAll, names_of}
use Rattle.cell_joins.specs.declared.unions.Standing.{Standing}
use Rattle.cell_joins.specs.declared.unions.Standing.TheVariants.{Alike, New, Otherwise}
use Rattle.cell_joins.specs.declared.unions.Union.{Union}

-- a list that begins longer than a front has the front and what stands behind it
pub prefix : {X : Type 0} (before behind front : List X) (y : X) (rest : List X) → before ++ behind ≡ front ++ y ∷ rest → length front < length before
    → (more : List X) × (before ≡ front ++ y ∷ more)
prefix [] behind front y rest split less = absurd (omega arith)
prefix (x ∷ before) behind [] y rest split less = (before, (let same : x ∷ before ≡ y ∷ before = cc in same))
prefix (x ∷ before) behind (z ∷ front) y rest split less =
    let tail : before ++ behind ≡ front ++ y ∷ rest = cc in
    let head : x ≡ z = cc in
    let fewer : length front < length before = omega arith in
    let deeper = prefix before behind front y rest tail fewer in
    (deeper.0, ap (λ w. w ∷ before) head ∙ ap (λ l. z ∷ l) deeper.1)

-- a cell that is given otherwise behind cells of which none is, is the first
pub first_otherwise : (before behind : List Cell) (x : Cell) → HasNoPlace IsGivenOtherwise before → IsGivenOtherwise before x []
    → IsFirstPlace IsGivenOtherwise (before ++ x ∷ behind) x
first_otherwise before behind x alike other =
    first_behind IsGivenOtherwise before x behind (other.0, other.1, other.2, other.3)
    (λ front y rest split less g. let inside = prefix before (x ∷ behind) front y rest split less in alike front y inside.0 inside.1 (g.0, g.1, g.2, g.3))

-- what stands in a list parts it
parted : {X : Type 0} (x : X) (xs : List X) → IsIn x xs → (front : List X) × (rest : List X) × (xs ≡ front ++ x ∷ rest)
parted x [] i = absurd i
parted x (y ∷ xs) (inl e) = ([], xs, ap (λ z. z ∷ xs) (sym e))
parted x (y ∷ xs) (inr i) = let parts = parted x xs i in (y ∷ parts.0, parts.1, ap (λ zs. y ∷ zs) parts.2)

-- where no cell is given otherwise, one of each name stands for all of that name
one_of_name : (before : List Cell) → HasNoPlace IsGivenOtherwise before → (a b : Cell) → IsIn a before → IsIn b before → a.name ≡ b.name → a ≡ b
one_of_name before alike a b ia ib same = by (told_cell a b)
  where
    parts : (front : List Cell) × (rest : List Cell) × (before ≡ front ++ a ∷ rest)
    parts = parted a before ia

    by : IsTold (a ≡ b) → a ≡ b
    by (inl e) = e
    by (inr n) = elim (IsIn-append_cases b parts.0 (a ∷ parts.1) (subst (IsIn b) parts.2 ib)) [
      | inl early ↦ absurd (alike parts.0 a parts.1 parts.2 (b, early, sym same, λ e. n (sym e)))
      | inr late ↦ elim late [
        | inl e ↦ sym e
        | inr behind ↦
            (let deeper = parted b parts.1 behind in
            let split : before ≡ (parts.0 ++ a ∷ deeper.0) ++ b ∷ deeper.1 =
            parts.2 ∙ ap (λ l. parts.0 ++ a ∷ l) deeper.2 ∙ sym (append_assoc parts.0 (a ∷ deeper.0) (b ∷ deeper.1)) in
            absurd (alike (parts.0 ++ a ∷ deeper.0) b deeper.1 split (a, IsIn-append_right a parts.0 (a ∷ deeper.0) (inl refl), same, n)))
      ]
    ]

-- a place of a list with one more at the end is one of the list, or the end
last_or_inside : {X : Type 0} (before : List X) (x : X) (front : List X) (y : X) (rest : List X) → before ++ x ∷ [] ≡ front ++ y ∷ rest
    → ((more : List X) × (before ≡ front ++ y ∷ more)) ⊎ ((front ≡ before) × (y ≡ x))
last_or_inside [] x [] y rest split = inr (refl, (let same : y ≡ x = cc in same))
last_or_inside [] x (z ∷ []) y rest split = cc
last_or_inside [] x (z ∷ w ∷ front) y rest split = cc
last_or_inside (b ∷ before) x [] y rest split = inl (before, (let same : b ∷ before ≡ y ∷ before = cc in same))
last_or_inside {X} (b ∷ before) x (z ∷ front) y rest split = longer (last_or_inside before x front y rest tail)
  where
    head : b ≡ z
    head = cc

    tail : before ++ x ∷ [] ≡ front ++ y ∷ rest
    tail = cc

    longer : ((more : List X) × (before ≡ front ++ y ∷ more)) ⊎ ((front ≡ before) × (y ≡ x))
        → ((more : List X) × (b ∷ before ≡ z ∷ front ++ y ∷ more)) ⊎ ((z ∷ front ≡ b ∷ before) × (y ≡ x))
    longer (inl inside) = inl (inside.0, ap (λ w. w ∷ before) head ∙ ap (λ l. z ∷ l) inside.1)
    longer (inr end) = inr (ap (λ w. w ∷ front) (sym head) ∙ ap (λ l. b ∷ l) end.0, end.1)

-- one more cell that isn't given otherwise
alike_more : (before : List Cell) (c : Cell) → HasNoPlace IsGivenOtherwise before → ¬ IsGivenOtherwise before c [] → HasNoPlace IsGivenOtherwise (before ++ c ∷ [])
alike_more before c alike fits front y rest split g = by (last_or_inside before c front y rest split)
  where
    by : ((more : List Cell) × (before ≡ front ++ y ∷ more)) ⊎ ((front ≡ before) × (y ≡ c)) → ⊥
    by (inl inside) = alike front y inside.0 inside.1 (g.0, g.1, g.2, g.3)
    by (inr end) = fits (subst (λ f. IsGivenOtherwise f c []) end.0 (subst (λ z. IsGivenOtherwise front z []) end.1 (g.0, g.1, g.2, g.3)))

no_cells : HasNoPlace IsGivenOtherwise []
no_cells [] y rest split g = cc
no_cells (z ∷ front) y rest split g = cc

-- no cells are put together
pub none_joined : (u : Union) → u.cells ≡ [] → u.names ≡ [] → IsUnionOf [] u
unfolding firsts
none_joined u cells names = record { alike = no_cells; cells = cells; names = names ∙ ap names_of (sym cells) }

module _ (before : List Cell) (old : Union) (are : IsUnionOf before old) (c : Cell) where
  named_before : IsIn c.name (names_of old.cells) → IsIn c.name (names_of before)
  named_before i =
      let there = IsIn-map_from (λ (x : Cell). x.name) c.name old.cells i in
      subst (λ n. IsIn n (names_of before)) (sym there.2)
      (IsIn-map (λ (x : Cell). x.name) there.0 before (from_firsts same_cell_name before there.0 (subst (IsIn there.0) are.cells there.1)))

  -- a cell of a new name is put in at the end
  pub new_joined : (new : Union) → ¬ IsIn c.name (names_of old.cells) → new.cells ≡ old.cells ++ c ∷ [] → new.names ≡ names_of new.cells → IsUnionOf (before ++ c ∷ []) new
  new_joined new absent cells names =
      let unnamed : ¬ IsIn c.name (names_of before) =
      (λ i. absent (subst (λ l. IsIn c.name (names_of l)) (sym are.cells) (named_firsts (λ (x : Cell). x.name) before c.name i))) in
      record {
        alike =
            alike_more before c are.alike
            (λ g. unnamed (subst (λ n. IsIn n (names_of before)) g.2 (IsIn-map (λ (x : Cell). x.name) g.0 before g.1)));
        cells = cells ∙ ap (λ l. l ++ c ∷ []) are.cells ∙ sym (firsts_new (λ (x : Cell). x.name) before c unnamed);
        names = names;
      }

  -- a cell that is there is put in already
  pub alike_joined : IsIn c old.cells → IsUnionOf (before ++ c ∷ []) old
  alike_joined there =
      let inside : IsIn c before = from_firsts same_cell_name before c (subst (IsIn c) are.cells there) in
      record {
        alike = alike_more before c are.alike (λ g. g.3 (one_of_name before are.alike g.0 c g.1 inside g.2));
        cells = are.cells ∙ sym (firsts_old (λ (x : Cell). x.name) before c (IsIn-map (λ (x : Cell). x.name) c before inside));
        names = are.names;
      }

  -- another cell of its name was there before
  pub otherwise_before : IsGivenOtherwise old.cells c [] → IsGivenOtherwise before c []
  otherwise_before g = (g.0, from_firsts same_cell_name before g.0 (subst (IsIn g.0) are.cells g.1), g.2, g.3)

-- the first cell that is given otherwise, among things that have cells
pub first_of_others : {X : Type 0} (cell_in : X → Cell) (before behind : List Cell) (xs : List X) (x : X) → IsFirstOther cell_in before xs x
    → IsFirstPlace IsGivenOtherwise (before ++ (map cell_in xs ++ behind)) (cell_in x)
first_of_others cell_in before behind xs x f =
    let whole : before ++ (map cell_in xs ++ behind) ≡ (before ++ map cell_in f.front) ++ cell_in x ∷ (map cell_in f.rest ++ behind) =
    ap (λ l. before ++ (map cell_in l ++ behind)) f.split
    ∙ ap (λ l. before ++ (l ++ behind)) (map-append cell_in f.front (x ∷ f.rest))
    ∙ ap (λ l. before ++ l) (append_assoc (map cell_in f.front) (cell_in x ∷ map cell_in f.rest) behind)
    ∙ sym (append_assoc before (map cell_in f.front) (cell_in x ∷ (map cell_in f.rest ++ behind))) in
    subst (λ l. IsFirstPlace IsGivenOtherwise l (cell_in x)) (sym whole)
    (first_otherwise (before ++ map cell_in f.front) (map cell_in f.rest ++ behind) (cell_in x) f.alike f.other)

-- a list up to a place, what stands there, and what stands behind it
pub split_here : {X : Type 0} (xs : List X) (i : ℕ) (d : X) → i < length xs → xs ≡ take i xs ++ get_or xs i d ∷ drop (i + 1) xs
split_here xs i d lt = sym (take-append-drop i xs) ∙ ap (λ l. take i xs ++ l) (drop_more xs i d lt)

-- one more of a list
pub one_more : (before cells : List Cell) (i : ℕ) (c : Cell) → i < length cells → c ≡ get_or cells i c → (before ++ take i cells) ++ c ∷ [] ≡ before ++ take (i + 1) cells
one_more before cells i c lt is =
    append_assoc before (take i cells) (c ∷ []) ∙ ap (λ x. before ++ (take i cells ++ x ∷ [])) is ∙ ap (λ l. before ++ l) (sym (take_more cells i c lt))

map_itself : {X : Type 0} (xs : List X) → map (λ (x : X). x) xs ≡ xs
map_itself [] = refl
map_itself (x ∷ xs) = ap (λ l. x ∷ l) (map_itself xs)

-- where a cell of a list is the first that is given otherwise
pub cell_here : (before cells : List Cell) (i : ℕ) (c : Cell) → i < length cells → c ≡ get_or cells i c → HasNoPlace IsGivenOtherwise (before ++ take i cells)
    → IsGivenOtherwise (before ++ take i cells) c [] → IsFirstOther (λ (x : Cell). x) before cells c
cell_here before cells i c lt is alike other =
    record {
      front = take i cells;
      rest = drop (i + 1) cells;
      split = split_here cells i c lt ∙ ap (λ x. take i cells ++ x ∷ drop (i + 1) cells) (sym is);
      alike = subst (λ l. HasNoPlace IsGivenOtherwise (before ++ l)) (sym (map_itself (take i cells))) alike;
      other = subst (λ l. IsGivenOtherwise (before ++ l) c []) (sym (map_itself (take i cells))) other;
    }

-- its fault
pub cell_told : (old new : Union) (cells : List Cell) (i : ℕ) (c : Cell) (u : Union) (f : LibFault) → i < length cells → c ≡ get_or cells i c
    → ((before : List Cell) → IsUnionOf before old → IsUnionOf (before ++ take i cells) u) → Takes u c false new → IsOtherwiseAt 0 c f → TakesAll old cells (Err f) new
cell_told old new cells i c u (L1 at) lt is so takes told = absurd told
cell_told old new cells i c u (L2 at) lt is so takes told =
    λ before are.
    (c, cell_here before cells i c lt is (so before are).alike (takes (before ++ take i cells) (so before are)), told)
cell_told old new cells i c u (L3 at) lt is so takes told = absurd told
cell_told old new cells i c u Memory lt is so takes told = tt

-- the first of two lists at which a cell is given otherwise
pub first_in_left : (all more : List Cell) (c : Cell) → IsFirstOther (λ (x : Cell). x) [] all c → IsFirstPlace IsGivenOtherwise (all ++ more) c
first_in_left all more c f = subst (λ l. IsFirstPlace IsGivenOtherwise (l ++ more) c) (map_itself all) (first_of_others (λ (x : Cell). x) [] more all c f)

pub first_in_right : (all more : List Cell) (c : Cell) → IsFirstOther (λ (x : Cell). x) all more c → IsFirstPlace IsGivenOtherwise (all ++ more) c
first_in_right all more c f =
    subst (λ l. IsFirstPlace IsGivenOtherwise (all ++ l) c) (append-nil (map (λ (x : Cell). x) more) ∙ map_itself more) (first_of_others (λ (x : Cell). x) all [] more c f)

-- a cell whose name is not found is new
pub new_by_name : (u : Union) (cell : Cell) → u.names ≡ names_of u.cells → place_of (same_name cell.name) u.names ≡ None → StandsAs u.cells cell New
new_by_name u cell names none = absent-place_of cell.name (names_of u.cells) (ap (place_of (same_name cell.name)) (sym names) ∙ none)

module _ (cells : List Cell) (cell : Cell) (at : ℕ) (found : place_of (same_name cell.name) (names_of cells) ≡ Some at) where
  -- a name that is found is that of the cell at its place
  name_there : (known : Cell) → slice_get cells at ≡ Some known → known.name ≡ cell.name
  name_there known there =
      let name : slice_get (names_of cells) at ≡ Some cell.name = slice_get-place_of cell.name (names_of cells) at found in
      let mapped : slice_get (names_of cells) at ≡ Some known.name = slice_get-map (λ (c : Cell). c.name) cells at ∙ ap (option_map (λ (c : Cell). c.name)) there in
      let both : Some known.name ≡ Some cell.name = sym mapped ∙ name in
      cc

  -- how a cell stands to that of its name is how it stands to all
  pub stands_as : (known : Cell) (s : Standing) → slice_get cells at ≡ Some known → StandsTo known cell s → StandsAs cells cell s
  stands_as known New there to = absurd to
  stands_as known Alike there to = subst (λ c. IsIn c cells) to (IsIn-slice_get cells at known there)
  stands_as known Otherwise there to = (known, IsIn-slice_get cells at known there, name_there known there, to)

  -- there is a cell at the place of a name that is found
  pub some_there : slice_get cells at ≢ None
  some_there none =
      let name : slice_get (names_of cells) at ≡ Some cell.name = slice_get-place_of cell.name (names_of cells) at found in
      let mapped : slice_get (names_of cells) at ≡ None = slice_get-map (λ (c : Cell). c.name) cells at ∙ ap (option_map (λ (c : Cell). c.name)) none in
      cc

-- names of one cell more
pub names_more : (names : List (List ℕ)) (cells : List Cell) (c : Cell) → names ≡ names_of cells → names ++ c.name ∷ [] ≡ names_of (cells ++ c ∷ [])
names_more names cells c same = ap (λ l. l ++ c.name ∷ []) same ∙ sym (map-append (λ (x : Cell). x.name) cells (c ∷ []))

-- a name that is new is put in
pub name_added : (old new : List (List ℕ)) (name : List ℕ) (b : Bool) → ¬ IsIn name old → b ≡ not (list_any (same_name name) old)
    → MatchBool b (new ≡ old ++ name ∷ []) (new ≡ old) → new ≡ old ++ name ∷ []
name_added old new name true absent is m = m
name_added old new name false absent is m = absurd (absent (IsIn-list_any name old (there (list_any (same_name name) old) (sym is))))
  where
    there : (t : Bool) → not t ≡ false → t ≡ true
    there true e = refl
    there false e = cc

-- the fault of the first of two lists
pub left_fault : (all more : Cells) (old new : Union) (e : LibFault) → IsUnionOf [] old → TakesAll old all.cells (Err e) new → IsJoin all more (Err e)
left_fault all more old new (L1 at) are takes = absurd takes
left_fault all more old new (L2 at) are takes = let f = takes [] are in (f.0, first_in_left all.cells more.cells f.0 f.1, f.2)
left_fault all more old new (L3 at) are takes = absurd takes
left_fault all more old new Memory are takes = tt

-- the fault of the second
pub right_fault : (all more : Cells) (old new : Union) (e : LibFault) → IsUnionOf all.cells old → TakesAll old more.cells (Err e) new → IsJoin all more (Err e)
right_fault all more old new (L1 at) are takes = absurd takes
right_fault all more old new (L2 at) are takes = let f = takes all.cells are in (f.0, first_in_right all.cells more.cells f.0 f.1, f.2)
right_fault all more old new (L3 at) are takes = absurd takes
right_fault all more old new Memory are takes = tt
