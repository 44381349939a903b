-- Places of pins by their roles, as a loop finds them.
use Rattle.std.proofs.Common.{◌≡◌, ℕ, suc, ◌+◌, ◌<◌, ◌≤◌, Bool, true, false, cond, ◌&&◌, ◌||◌, List, [], ◌∷◌, ◌++◌, length, map, Option, Some, None, drop, take, get_or, refl, sym, ap, ◌∙◌, unwrap_or, is_some, slice_get, subst, arith}
use Rattle.std.specs.List.{enumerate_from, filter, filter_map}
use Rattle.std.specs.Option.{option_map}
use Rattle.std.proofs.lemmas.List.{append-nil, drop_all, drop_more, map-append, take_more}
use Rattle.std.proofs.lemmas.Option.{get_or_from_slice_get, slice_get-map}
use Rattle.std.proofs.lemmas.List.Elements.{filter_map-append}
use Rattle.list_defs.specs.Members.{place_of}
use Rattle.list_defs.proofs.NameLemmas.{place_of-map, place_of-position}
use Rattle.text_streams.proofs.CloseLaws.{counted_on}
use Rattle.lib_cells.specs.CellViews.{AreKept, cell_with, first_of, roles_by, roles_of}
use Rattle.lib_cells.specs.Marks.{cell_by, pin_by}
use Rattle.lib_cells.proofs.CellsTold.{cell_of_parts}
use Rattle.lib_cells.specs.declared.marks.Marks.{Marks}
use Rattle.pw_defs.specs.declared.cells.Dir.{Dir}
use Rattle.pw_defs.specs.declared.cells.Pin.{Pin}
use Rattle.lib_cells.specs.CellsMeant.{KnownPin, enable_of, is_input, places_where, the_only}
use Rattle.lib_cells.specs.Groups.{present}
use Rattle.lib_cells.specs.declared.pins.KeptPins.{KeptPins}
use Rattle.lib_cells.specs.declared.pins.PinRoles.{PinRoles}

counted_further : (at : ℕ) (o : Option ℕ) → counted_on at (option_map suc o) ≡ counted_on (at + 1) o
unfolding counted_on
counted_further at None = refl
counted_further at (Some n) = ap Some (omega arith)

module _ {X : Type 0} (test : X → Bool) where
  place_split : (x : X) (rest : List X) (b : Bool) → test x ≡ b → place_of test (x ∷ rest) ≡ cond b (Some 0) (option_map suc (place_of test rest))
  place_split x rest b e = ap (λ (t : Bool). cond t (Some 0) (option_map suc (place_of test rest))) e

  -- the places of a list that pass the test, counted from a number
  abbrev pub places_from : ℕ → List X → List ℕ
  places_from n xs = map (λ (p : ℕ × X). p.0) (filter (λ (p : ℕ × X). test p.1) (enumerate_from n xs))

  from_split : (n : ℕ) (x : X) (rest : List X) (b : Bool) → test x ≡ b → places_from n (x ∷ rest) ≡ cond b (n ∷ places_from (n + 1) rest) (places_from (n + 1) rest)
  from_split n x rest b e = ap (λ (t : Bool). map (λ (p : ℕ × X). p.0) (cond t ((n, x) ∷ filter (λ (p : ℕ × X). test p.1) (enumerate_from (n + 1) rest)) (filter (λ (p : ℕ × X). test p.1) (enumerate_from (n + 1) rest)))) e ∙ by b
    where
      by : (t : Bool) → map (λ (p : ℕ × X). p.0) (cond t ((n, x) ∷ filter (λ (p : ℕ × X). test p.1) (enumerate_from (n + 1) rest)) (filter (λ (p : ℕ × X). test p.1) (enumerate_from (n + 1) rest)))
          ≡ cond t (n ∷ places_from (n + 1) rest) (places_from (n + 1) rest)
      by true = refl
      by false = refl

  -- what a search for the only place keeps
  abbrev pub OnlySoFar : List X → ℕ → Option ℕ → Type 0
  OnlySoFar xs at found = the_only (present (found ∷ []) ++ places_from at (drop at xs)) ≡ the_only (places_from 0 xs)

  pub only_on : (xs : List X) (at : ℕ) (x : X) (found : Option ℕ) → at < length xs → x ≡ get_or xs at x → test x ≡ false → OnlySoFar xs at found → OnlySoFar xs (at + 1) found
  only_on xs at x found lt is fails so_far =
      let split : drop at xs ≡ x ∷ drop (at + 1) xs = drop_more xs at x lt ∙ ap (λ (y : X). y ∷ drop (at + 1) xs) (sym is) in
      sym (ap (λ l. the_only (present (found ∷ []) ++ places_from at l)) split ∙ ap (λ (l : List ℕ). the_only (present (found ∷ []) ++ l)) (from_split at x (drop (at + 1) xs) false fails)) ∙ so_far

  pub only_here : (xs : List X) (at : ℕ) (x : X) → at < length xs → x ≡ get_or xs at x → test x ≡ true → OnlySoFar xs at None → OnlySoFar xs (at + 1) (Some at)
  only_here xs at x lt is passes so_far =
      let split : drop at xs ≡ x ∷ drop (at + 1) xs = drop_more xs at x lt ∙ ap (λ (y : X). y ∷ drop (at + 1) xs) (sym is) in
      sym (ap (λ l. the_only (places_from at l)) split ∙ ap the_only (from_split at x (drop (at + 1) xs) true passes)) ∙ so_far

  pub only_again : (xs : List X) (at : ℕ) (x : X) (n : ℕ) → at < length xs → x ≡ get_or xs at x → test x ≡ true → OnlySoFar xs at (Some n) → None ≡ the_only (places_from 0 xs)
  only_again xs at x n lt is passes so_far =
      let split : drop at xs ≡ x ∷ drop (at + 1) xs = drop_more xs at x lt ∙ ap (λ (y : X). y ∷ drop (at + 1) xs) (sym is) in
      sym (ap (λ l. the_only (n ∷ places_from at l)) split ∙ ap (λ (l : List ℕ). the_only (n ∷ l)) (from_split at x (drop (at + 1) xs) true passes)) ∙ so_far

  pub only_end : (xs : List X) (at : ℕ) (found : Option ℕ) → length xs ≤ at → OnlySoFar xs at found → found ≡ the_only (places_from 0 xs)
  only_end xs at found past so_far = sym (ap (λ l. the_only (present (found ∷ []) ++ places_from at l)) (drop_all at xs past) ∙ by found) ∙ so_far
    where
      by : (o : Option ℕ) → the_only (present (o ∷ []) ++ []) ≡ o
      by None = refl
      by (Some n) = refl

  -- what a search for the first place keeps
  abbrev pub FirstSoFar : List X → ℕ → Type 0
  FirstSoFar xs at = first_of (places_from at (drop at xs)) ≡ first_of (places_from 0 xs)

  -- the first of the places
  pub first_place : (n : ℕ) (xs : List X) → first_of (places_from n xs) ≡ counted_on n (place_of test xs)
  unfolding counted_on
  first_place n [] = refl
  first_place n (x ∷ xs) = by (first_place (n + 1) xs) (test x) refl
    where
      by : first_of (places_from (n + 1) xs) ≡ counted_on (n + 1) (place_of test xs) → (b : Bool) → test x ≡ b → first_of (places_from n (x ∷ xs)) ≡ counted_on n (place_of test (x ∷ xs))
      by rest true e =
          ap first_of (from_split n x xs true e) ∙ ap (λ (k : ℕ). Some k) (let same : n ≡ n + 0 = omega arith in same) ∙ sym (ap (counted_on n) (place_split x xs true e))
      by rest false e = ap first_of (from_split n x xs false e) ∙ rest ∙ sym (counted_further n (place_of test xs)) ∙ sym (ap (counted_on n) (place_split x xs false e))

  -- the same of things that are made of others
  pub places-map : {Y : Type 0} (f : Y → X) (n : ℕ) (ys : List Y) → places_from n (map f ys) ≡ map (λ (p : ℕ × Y). p.0) (filter (λ (p : ℕ × Y). test (f p.1)) (enumerate_from n ys))
  places-map f n [] = refl
  places-map {Y} f n (y ∷ ys) = from_split n (f y) (map f ys) (test (f y)) refl ∙ by (test (f y)) (places-map f (n + 1) ys)
    where
      behind : List (ℕ × Y)
      behind = filter (λ (p : ℕ × Y). test (f p.1)) (enumerate_from (n + 1) ys)

      by : (b : Bool) → places_from (n + 1) (map f ys) ≡ map (λ (p : ℕ × Y). p.0) behind
          → cond b (n ∷ places_from (n + 1) (map f ys)) (places_from (n + 1) (map f ys)) ≡ map (λ (p : ℕ × Y). p.0) (cond b ((n, y) ∷ behind) behind)
      by true e = ap (λ (l : List ℕ). n ∷ l) e
      by false e = e

-- the through pin of the pins that are kept
pub through_kept : (pins : List KnownPin) (k : KeptPins) → AreKept pins k
    → the_only (places_where (λ (r : PinRoles). r.is_data) k.roles) ≡ the_only (places_where (λ (p : KnownPin). p.is_data) pins)
through_kept pins k are = ap (λ l. the_only (places_where (λ (r : PinRoles). r.is_data) l)) are.roles ∙ ap the_only (places-map (λ (r : PinRoles). r.is_data) roles_of 0 pins)

counted_none : (o : Option ℕ) → counted_on 0 o ≡ o
unfolding counted_on
counted_none None = refl
counted_none (Some n) = ap Some (omega arith)

-- their enable pin
pub enable_kept : (pins : List KnownPin) (k : KeptPins) → AreKept pins k → first_of (places_where (λ (r : PinRoles). r.enables) k.roles) ≡ enable_of pins
enable_kept pins k are =
    ap (λ l. first_of (places_where (λ (r : PinRoles). r.enables) l)) are.roles
    ∙ first_place (λ (r : PinRoles). r.enables) 0 (map roles_of pins)
    ∙ counted_none (place_of (λ (r : PinRoles). r.enables) (map roles_of pins))
    ∙ place_of-map roles_of (λ (r : PinRoles). r.enables) pins
    ∙ place_of-position (λ (p : KnownPin). is_input p.pin.dir && p.is_enable) pins

-- a pin that netlists know is kept
pub kept_known : (before : List KnownPin) (old new : KeptPins) (name : List ℕ) (marks : Marks) (dir : Dir) → unwrap_or marks.direction None ≡ Some dir
    → new.pins ≡ old.pins ++ record { name = name; dir = dir } ∷ [] → new.roles ≡ old.roles ++ roles_by dir marks ∷ []
    → AreKept before old → AreKept (before ++ present (pin_by name marks ∷ [])) new
kept_known before old new name marks dir is pins roles are =
    let made : Dir → KnownPin =
    λ d. record {
      pin = record { name = name; dir = d };
      is_data = unwrap_or marks.isolation_data false || unwrap_or marks.shifter_data false;
      is_enable = unwrap_or marks.isolation_enable false || unwrap_or marks.shifter_enable false;
    } in
    let there : present (pin_by name marks ∷ []) ≡ made dir ∷ [] = ap (λ (d : Option Dir). present (option_map made d ∷ [])) is in
    let pin_of : KnownPin → Pin = λ p. p.pin in
    record {
      pins = pins ∙ ap (λ l. l ++ record { name = name; dir = dir } ∷ []) are.pins ∙ sym (map-append pin_of before (made dir ∷ [])) ∙ ap (λ l. map pin_of (before ++ l)) (sym there);
      roles = roles ∙ ap (λ l. l ++ roles_by dir marks ∷ []) are.roles ∙ sym (map-append roles_of before (made dir ∷ [])) ∙ ap (λ l. map roles_of (before ++ l)) (sym there);
    }

-- a pin that netlists don't know isn't
pub kept_unknown : (before : List KnownPin) (k : KeptPins) (name : List ℕ) (marks : Marks) → unwrap_or marks.direction None ≡ None → AreKept before k
    → AreKept (before ++ present (pin_by name marks ∷ [])) k
kept_unknown before k name marks is are =
    let made : Dir → KnownPin =
    λ d. record {
      pin = record { name = name; dir = d };
      is_data = unwrap_or marks.isolation_data false || unwrap_or marks.shifter_data false;
      is_enable = unwrap_or marks.isolation_enable false || unwrap_or marks.shifter_enable false;
    } in
    let there : present (pin_by name marks ∷ []) ≡ [] = ap (λ (d : Option Dir). present (option_map made d ∷ [])) is in
    subst (λ l. AreKept l k) (sym (ap (λ l. before ++ l) there ∙ append-nil before)) are

-- the pins of names up to one of them, and that one
pub kept_names : (f : List ℕ → Option KnownPin) (names : List (List ℕ)) (at : ℕ) (name : List ℕ) (marks : Marks) (k : KeptPins) → slice_get names at ≡ Some name → at < length names
    → pin_by name marks ≡ f name → AreKept (filter_map f (take at names) ++ present (pin_by name marks ∷ [])) k → AreKept (filter_map f (take (at + 1) names)) k
kept_names f names at name marks k is lt same are =
    let split : take (at + 1) names ≡ take at names ++ name ∷ [] = take_more names at name lt ∙ ap (λ n. take at names ++ n ∷ []) (get_or_from_slice_get names at name name is) in
    subst (λ l. AreKept l k)
    (ap (λ (o : Option KnownPin). filter_map f (take at names) ++ present (o ∷ [])) same ∙ sym (filter_map-append f (take at names) (name ∷ [])) ∙ ap (filter_map f) (sym split)) are

-- the cell of the pins that are kept
pub kept_cell : (name : List ℕ) (marks : Marks) (pins : List KnownPin) (k : KeptPins) → AreKept pins k → cell_with name marks k ≡ cell_by name marks pins
unfolding cell_by
kept_cell name marks pins k are =
    let through = through_kept pins k are in
    let enable = enable_kept pins k are in
    cell_of_parts (cell_with name marks k) (cell_by name marks pins) refl are.pins
    (ap (λ (o : Option ℕ). unwrap_or marks.isolation false || (unwrap_or marks.shifter false && is_some o)) enable) refl through enable

-- what stands beside a name
pub mark_at : (f : List ℕ → Marks) (names : List (List ℕ)) (marks : List Marks) (at : ℕ) (name : List ℕ) (mark : Marks) → marks ≡ map f names → slice_get names at ≡ Some name
    → mark ≡ get_or marks at mark → mark ≡ f name
mark_at f names marks at name mark made is read =
    read ∙ ap (λ l. get_or l at mark) made ∙ get_or_from_slice_get (map f names) at (f name) mark (slice_get-map f names at ∙ ap (option_map f) is)
