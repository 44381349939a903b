-- Cells that are put together from a library's groups, and the faults of its text.
use Rattle.std.proofs.Common.{◌≡◌, ◌<◌, ℕ, true, false, List, [], ◌∷◌, ◌++◌, length, map, take, get_or, ◌+◌, inl, inr, Result, Ok, Err, drop, ◌⊎◌, refl, sym, ap, ◌∙◌, subst}
use Rattle.std.proofs.lemmas.List.{map-append, take_more}
use Rattle.std.proofs.lemmas.Bool.{false≢true}
use Rattle.list_defs.specs.Members.{IsIn}
use Rattle.list_defs.proofs.Members.{IsIn-append_cases, IsIn-append_right, IsIn-map}
use Rattle.pw_defs.specs.declared.cells.Cell.{Cell}
use Rattle.pw_defs.specs.declared.cells.Cells.{Cells}
use Rattle.pw_defs.specs.declared.faults.At.{At}
use Rattle.pw_defs.specs.declared.faults.LibFault.{LibFault}
use Rattle.pw_defs.specs.declared.faults.LibFault.TheVariants.{L1, L2, L3, Memory}
use Rattle.text_defs.specs.FirstPlace.{HasNoPlace, IsFirstPlace, firsts}
use Rattle.text_defs.proofs.FirstPlaces.{first_behind}
use Rattle.lib_cells.specs.CellViews.{placed_of}
use Rattle.lib_cells.specs.CellsMeant.{cell_of, is_odd}
use Rattle.lib_cells.specs.Groups.{CellGroup}
use Rattle.lib_cells.specs.Joins.{IsGivenOtherwise, same_cell_name}
use Rattle.lib_cells.specs.LibraryFaults.{HasGroups, IsOddGroup, IsOtherGroup, at_group}
use Rattle.lib_cells.specs.Readings.{ReadsGroups}
use Rattle.lib_cells.specs.declared.libraries.PlacedCell.{PlacedCell}
use Rattle.cell_joins.specs.Unions.{ChecksRoles, IsFirstOdd, IsFirstOther, IsOddAt, IsOtherwiseAt, IsReading, JoinsPlaced}
use Rattle.cell_joins.proofs.UnionLaws.{prefix, split_here}

-- the parts of a mapped list are mapped parts
record MapParts {X Y : Type 0} (f : X → Y) (xs : List X) (front : List Y) (y : Y) (rest : List Y) : Type 0 where
  before : List X
  here : X
  behind : List X
  split : xs ≡ before ++ here ∷ behind
  fronts : front ≡ map f before
  same : y ≡ f here

map_parts : {X Y : Type 0} (f : X → Y) (xs : List X) (front : List Y) (y : Y) (rest : List Y) → map f xs ≡ front ++ y ∷ rest → MapParts f xs front y rest
map_parts f [] [] y rest split = cc
map_parts f [] (z ∷ front) y rest split = cc
map_parts f (x ∷ xs) [] y rest split =
    record { before = []; here = x; behind = xs; split = refl; fronts = refl; same = (let same : y ≡ f x = cc in same) }
map_parts {X} {Y} f (x ∷ xs) (z ∷ front) y rest split = longer (map_parts f xs front y rest tail)
  where
    tail : map f xs ≡ front ++ y ∷ rest
    tail = cc

    head : z ≡ f x
    head = cc

    longer : MapParts f xs front y rest → MapParts f (x ∷ xs) (z ∷ front) y rest
    longer deeper = record {
      before = x ∷ deeper.before;
      here = deeper.here;
      behind = deeper.behind;
      split = ap (λ l. x ∷ l) deeper.split;
      fronts = ap (λ l. z ∷ l) deeper.fronts ∙ ap (λ w. w ∷ map f deeper.before) head;
      same = deeper.same;
    }

-- the line and name of a placed cell
abbrev at_of : PlacedCell → At
at_of p = record { line = p.line; name = p.cell.name }

cells_of_groups : (groups : List CellGroup) → map (λ (p : PlacedCell). p.cell) (map placed_of groups) ≡ map cell_of groups
cells_of_groups [] = refl
cells_of_groups (g ∷ groups) = ap (λ l. cell_of g ∷ l) (cells_of_groups groups)

-- the line and name of a group's cell are the group's
line_and_name : (g : CellGroup) → at_of (placed_of g) ≡ at_group g
unfolding cell_of
line_and_name g = refl

-- what a text that is cut short is read as
pub cut_read : (text : List ℕ) (e : LibFault) → ReadsGroups text (Err e) → IsReading text (Err e)
cut_read text (L1 at) r = r
cut_read text (L2 at) r = absurd r
cut_read text (L3 at) r = absurd r
cut_read text Memory r = tt

module _ (text : List ℕ) (groups : List CellGroup) (reads : HasGroups text groups) where
  -- the first group of an odd cell is the fault
  odd_first : (p : PlacedCell) → IsFirstOdd (map placed_of groups) p → (g : CellGroup) × IsFirstPlace IsOddGroup groups g × (p ≡ placed_of g)
  odd_first p f = (parts.here, subst (λ l. IsFirstPlace IsOddGroup l parts.here) (sym parts.split) first, parts.same)
    where
      parts : MapParts placed_of groups f.front p f.rest
      parts = map_parts placed_of groups f.front p f.rest f.split

      none : (front : List CellGroup) (y : CellGroup) (rest : List CellGroup) → parts.before ++ parts.here ∷ parts.behind ≡ front ++ y ∷ rest
          → length front < length parts.before → ¬ IsOddGroup front y rest
      none front y rest split less odd =
          let inside = prefix parts.before (parts.here ∷ parts.behind) front y rest split less in
          let there : IsIn y parts.before = subst (IsIn y) (sym inside.1) (IsIn-append_right y front (y ∷ inside.0) (inl refl)) in
          let straight : is_odd (cell_of y) ≡ false = f.straight (placed_of y) (subst (IsIn (placed_of y)) (sym parts.fronts) (IsIn-map placed_of y parts.before there)) in
          false≢true (sym straight ∙ odd)

      first : IsFirstPlace IsOddGroup (parts.before ++ parts.here ∷ parts.behind) parts.here
      first =
          first_behind IsOddGroup parts.before parts.here parts.behind
          (let odd : is_odd (cell_of parts.here) ≡ true = subst (λ (q : PlacedCell). is_odd q.cell ≡ true) parts.same f.odd in odd) none

  pub odd_read : (e : LibFault) → ChecksRoles (map placed_of groups) (Err e) → IsReading text (Err e)
  odd_read (L1 at) r = absurd r
  odd_read (L2 at) r = absurd r
  odd_read (L3 at) r =
      let found = odd_first r.0 r.1 in
      record {
        groups = groups;
        reads = reads;
        group = found.0;
        first = found.1;
        place = r.2 ∙ ap at_of found.2 ∙ line_and_name found.0;
      }
  odd_read Memory r = tt

  straight_groups : ((q : PlacedCell) → IsIn q (map placed_of groups) → is_odd q.cell ≡ false) → HasNoPlace IsOddGroup groups
  straight_groups straight front y rest split odd =
      let there : IsIn y groups = subst (IsIn y) (sym split) (IsIn-append_right y front (y ∷ rest) (inl refl)) in
      false≢true (sym (straight (placed_of y) (IsIn-map placed_of y groups there)) ∙ odd)

  alike_groups : (cells : List Cell) (more : List CellGroup) → cells ≡ map cell_of more → HasNoPlace IsGivenOtherwise cells → HasNoPlace IsOtherGroup more
  alike_groups cells more are alike front y rest split g =
      alike (map cell_of front) (cell_of y) (map cell_of rest) (are ∙ ap (map cell_of) split ∙ map-append cell_of front (y ∷ rest)) (g.0, g.1, g.2, g.3)

  other_first : (p : PlacedCell) → IsFirstOther (λ (x : PlacedCell). x.cell) [] (map placed_of groups) p
      → (g : CellGroup) × IsFirstPlace IsOtherGroup groups g × (p ≡ placed_of g)
  other_first p f = (parts.here, subst (λ l. IsFirstPlace IsOtherGroup l parts.here) (sym parts.split) first, parts.same)
    where
      parts : MapParts placed_of groups f.front p f.rest
      parts = map_parts placed_of groups f.front p f.rest f.split

      fronts : map (λ (x : PlacedCell). x.cell) f.front ≡ map cell_of parts.before
      fronts = ap (map (λ (x : PlacedCell). x.cell)) parts.fronts ∙ cells_of_groups parts.before

      none : (front : List CellGroup) (y : CellGroup) (rest : List CellGroup) → parts.before ++ parts.here ∷ parts.behind ≡ front ++ y ∷ rest
          → length front < length parts.before → ¬ IsOtherGroup front y rest
      none front y rest split less other =
          let inside = prefix parts.before (parts.here ∷ parts.behind) front y rest split less in
          alike_groups (map (λ (x : PlacedCell). x.cell) f.front) parts.before fronts f.alike front y inside.0 inside.1 (other.0, other.1, other.2, other.3)

      holds : IsOtherGroup parts.before parts.here parts.behind
      holds =
          let o = f.other in
          let at : IsGivenOtherwise (map cell_of parts.before) (cell_of parts.here) [] =
          subst (λ l. IsGivenOtherwise l (cell_of parts.here) []) fronts
          (subst (λ (q : PlacedCell). IsGivenOtherwise (map (λ (x : PlacedCell). x.cell) f.front) q.cell []) parts.same (o.0, o.1, o.2, o.3)) in
          (at.0, at.1, at.2, at.3)

      first : IsFirstPlace IsOtherGroup (parts.before ++ parts.here ∷ parts.behind) parts.here
      first = first_behind IsOtherGroup parts.before parts.here parts.behind holds none

  module _ (straight : (q : PlacedCell) → IsIn q (map placed_of groups) → is_odd q.cell ≡ false) where
    pub joined_read : (r : Result Cells LibFault) → JoinsPlaced (map placed_of groups) r → IsReading text r
    joined_read (Ok cells) j =
        record {
          groups = groups;
          reads = reads;
          straight = straight_groups straight;
          alike = alike_groups (map (λ (x : PlacedCell). x.cell) (map placed_of groups)) groups (cells_of_groups groups) j.0;
          value = j.1 ∙ ap (λ l. record { cells = firsts same_cell_name l }) (cells_of_groups groups);
        }
    joined_read (Err (L1 at)) j = absurd j
    joined_read (Err (L2 at)) j =
        let found = other_first j.0 j.1 in
        record {
          groups = groups;
          reads = reads;
          straight = straight_groups straight;
          group = found.0;
          first = found.1;
          place = j.2 ∙ ap at_of found.2 ∙ line_and_name found.0;
        }
    joined_read (Err (L3 at)) j = absurd j
    joined_read (Err Memory) j = tt

-- of the first things none is odd, and the next isn't
pub straight_more : (placed : List PlacedCell) (i : ℕ) (p : PlacedCell) → i < length placed → p ≡ get_or placed i p
    → ((q : PlacedCell) → IsIn q (take i placed) → is_odd q.cell ≡ false) → is_odd p.cell ≡ false
    → (q : PlacedCell) → IsIn q (take (i + 1) placed) → is_odd q.cell ≡ false
straight_more placed i p lt is so here q there =
    by (IsIn-append_cases q (take i placed) (get_or placed i p ∷ []) (subst (IsIn q) (take_more placed i p lt) there))
  where
    by : IsIn q (take i placed) ⊎ IsIn q (get_or placed i p ∷ []) → is_odd q.cell ≡ false
    by (inl before) = so q before
    by (inr (inl e)) = subst (λ (x : PlacedCell). is_odd x.cell ≡ false) (is ∙ sym e) here
    by (inr (inr n)) = absurd n

-- an odd one behind them is the first, whose fault it is
pub odd_told : (placed : List PlacedCell) (i : ℕ) (p : PlacedCell) (f : LibFault) → i < length placed → p ≡ get_or placed i p
    → ((q : PlacedCell) → IsIn q (take i placed) → is_odd q.cell ≡ false) → is_odd p.cell ≡ true → IsOddAt p.line p.cell f → ChecksRoles placed (Err f)
odd_told placed i p f lt is so odd told = by f told
  where
    first : IsFirstOdd placed p
    first = record {
      front = take i placed;
      rest = drop (i + 1) placed;
      split = split_here placed i p lt ∙ ap (λ x. take i placed ++ x ∷ drop (i + 1) placed) (sym is);
      straight = so;
      odd = odd;
    }

    by : (f : LibFault) → IsOddAt p.line p.cell f → ChecksRoles placed (Err f)
    by (L1 at) told = absurd told
    by (L2 at) told = absurd told
    by (L3 at) told = (p, first, told)
    by Memory told = tt

-- the same of a cell that is given otherwise
pub otherwise_told : (placed : List PlacedCell) (i : ℕ) (p : PlacedCell) (f : LibFault) → i < length placed → p ≡ get_or placed i p
    → HasNoPlace IsGivenOtherwise (map (λ (x : PlacedCell). x.cell) (take i placed)) → IsGivenOtherwise (map (λ (x : PlacedCell). x.cell) (take i placed)) p.cell []
    → IsOtherwiseAt p.line p.cell f → JoinsPlaced placed (Err f)
otherwise_told placed i p f lt is alike other told = by f told
  where
    first : IsFirstOther (λ (x : PlacedCell). x.cell) [] placed p
    first = record {
      front = take i placed;
      rest = drop (i + 1) placed;
      split = split_here placed i p lt ∙ ap (λ x. take i placed ++ x ∷ drop (i + 1) placed) (sym is);
      alike = alike;
      other = other;
    }

    by : (f : LibFault) → IsOtherwiseAt p.line p.cell f → JoinsPlaced placed (Err f)
    by (L1 at) told = absurd told
    by (L2 at) told = (p, first, told)
    by (L3 at) told = absurd told
    by Memory told = tt

-- the cells of one group more
pub one_group_more : (placed : List PlacedCell) (i : ℕ) (p : PlacedCell) → i < length placed → p ≡ get_or placed i p
    → map (λ (x : PlacedCell). x.cell) (take i placed) ++ p.cell ∷ [] ≡ map (λ (x : PlacedCell). x.cell) (take (i + 1) placed)
one_group_more placed i p lt is =
    ap (λ (x : PlacedCell). map (λ (y : PlacedCell). y.cell) (take i placed) ++ x.cell ∷ []) is
    ∙ sym (map-append (λ (x : PlacedCell). x.cell) (take i placed) (get_or placed i p ∷ []))
    ∙ ap (map (λ (x : PlacedCell). x.cell)) (sym (take_more placed i p lt))
