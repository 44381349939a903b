-- The text of a library gives cells whose pins and roles are their own, each of a name of its own.
use Rattle.std.proofs.Common.{◌≡◌, ℕ, ◌+◌, ◌<◌, Bool, true, false, List, [], ◌∷◌, Option, None, Some, codes, length, map}
use Rattle.std.proofs.Common.{inl, inr, refl, sym, ap, ◌∙◌, subst, arith}
use Rattle.std.specs.Prelude.{IfSome, is_some, count_by, not, ◌&&◌, ◌||◌, ◌==◌}
use Rattle.std.specs.List.{filter, flat_map, enumerate_from, position}
use Rattle.std.specs.Option.{option_map}
use Rattle.std.proofs.lemmas.Bool.{false≢true}
use Rattle.std.proofs.lemmas.List.{length-map, map-id}
use Rattle.std.proofs.lemmas.List.Quantifiers.{position-Some}
use Rattle.std.proofs.lemmas.List.Sums.{length-filter}
use Rattle.std.proofs.lemmas.Option.{none-some, same_Some}
use Rattle.std.proofs.lemmas.Simd.{map-map}
use Rattle.pw_defs.specs.declared.cells.Cell.{Cell}
use Rattle.pw_defs.specs.declared.cells.Dir.{Dir}
use Rattle.pw_defs.specs.declared.cells.Dir.TheVariants.{Input, Output}
use Rattle.pw_defs.specs.declared.cells.Pin.{Pin}
use Rattle.list_defs.specs.Members.{IsIn, same_name}
use Rattle.list_defs.proofs.Members.{IsIn-filter_from, IsIn-map_from}
use Rattle.text_defs.specs.FirstPlace.{firsts}
use Rattle.lib_cells.specs.CellsMeant.{KnownPin, cell_of, direction_of, enable_of, is_input, is_odd, is_set, known_pins, pin_from, pins_named}
use Rattle.lib_cells.specs.CellsMeant.{places_where, said_of_pin, the_only}
use Rattle.lib_cells.specs.Groups.{Attribute, CellGroup, CellPart}
use Rattle.lib_cells.specs.Joins.{same_cell_name}
use Rattle.design_defs.specs.Drivers.{is_interface_cell}
use Rattle.design_defs.specs.Inputs.{AllDiffer, HasItsRoles, IsReadCell}
use Rattle.design_defs.specs.Ports.{is_output}
use Rattle.read_laws.specs.Laws.{AreReadCells, LibrariesGiveCells}
use Rattle.read_laws.proofs.OwnNames.{AreApart, differ_apart, firsts_apart, firsts_in, made_apart, split_at}

-- ---- names of pins

abbrev pin_name : KnownPin → List ℕ
pin_name k = k.pin.name

-- a pin that is made for a name has that name
keeps_name : (n : List ℕ) (given : List Attribute) (k : KnownPin) → pin_from n given ≡ Some k → pin_name k ≡ n
keeps_name n given k e = by made (λ dir. refl) (direction_of given) e
  where
    made : Dir → KnownPin
    made dir = record {
      pin = record { name = n; dir = dir };
      is_data = is_set (codes "isolation_cell_data_pin") given || is_set (codes "level_shifter_data_pin") given;
      is_enable = is_set (codes "isolation_cell_enable_pin") given || is_set (codes "level_shifter_enable_pin") given;
    }

    by : (f : Dir → KnownPin) → ((dir : Dir) → pin_name (f dir) ≡ n) → (o : Option Dir) → option_map f o ≡ Some k → pin_name k ≡ n
    by f has None e = absurd (none-some k e)
    by f has (Some dir) e = ap pin_name (sym (same_Some (f dir) k e)) ∙ has dir

differ_pins : (parts : List CellPart) → AllDiffer (map (λ (p : Pin). p.name) (map (λ (k : KnownPin). k.pin) (known_pins parts)))
differ_pins parts =
    let names : List (List ℕ) = firsts same_name (flat_map pins_named parts) in
    let named : AreApart names = subst AreApart (map-id names) (firsts_apart (λ n. n) (flat_map pins_named parts)) in
    let made : List ℕ → Option KnownPin = λ n. pin_from n (flat_map (said_of_pin n) parts) in
    let apart : AreApart (map pin_name (known_pins parts)) =
    made_apart pin_name made (λ n k e. keeps_name n (flat_map (said_of_pin n) parts) k e) names named in
    subst AllDiffer (sym (map-map (λ (p : Pin). p.name) (λ (k : KnownPin). k.pin) (known_pins parts))) (differ_apart (map pin_name (known_pins parts)) apart)

-- ---- roles

only_within : (bound : ℕ) (ns : List ℕ) → ((n : ℕ) → IsIn n ns → n < bound) → IfSome (the_only ns) (λ n. n < bound)
only_within bound [] within = tt
only_within bound (n ∷ []) within = within n (inl refl)
only_within bound (n ∷ m ∷ ns) within = tt

numbered_within : {X : Type 0} (a : ℕ) (xs : List X) (p : ℕ × X) → IsIn p (enumerate_from a xs) → p.0 < a + length xs
numbered_within a [] p i = absurd i
numbered_within a (x ∷ xs) p (inl e) = let at : p.0 ≡ a = ap (λ q. q.0) e in omega (arith, at)
numbered_within a (x ∷ xs) p (inr i) = let rest = numbered_within (a + 1) xs p i in omega (arith, rest)

place_within : {X : Type 0} (test : X → Bool) (xs : List X) (n : ℕ) → IsIn n (places_where test xs) → n < length xs
place_within {X} test xs n i =
    let from = IsIn-map_from (λ (p : ℕ × X). p.0) n (filter (λ (p : ℕ × X). test p.1) (enumerate_from 0 xs)) i in
    let there = numbered_within 0 xs from.0 (IsIn-filter_from (λ (p : ℕ × X). test p.1) from.0 (enumerate_from 0 xs) from.1).0 in
    let at : n ≡ from.0.0 = from.2 in
    omega (arith, there, at)

no_pin : KnownPin
no_pin = record { pin = record { name = []; dir = Input }; is_data = false; is_enable = false }

found_within : (test : KnownPin → Bool) (ks : List KnownPin) → IfSome (position test ks) (λ n. n < length ks)
found_within test ks = by (position test ks) refl
  where
    by : (o : Option ℕ) → position test ks ≡ o → IfSome o (λ n. n < length ks)
    by None e = tt
    by (Some n) e = (position-Some test ks n no_pin e).0

-- an interface cell that isn't odd has a through pin and one output pin
abbrev outputs : Cell → List Pin
outputs c = filter (λ (p : Pin). not (is_input p.dir)) c.pins

not_odd : (c : Cell) → is_odd c ≡ false → is_interface_cell (Some c) ≡ true → (is_some c.through && length (outputs c) == 1) ≡ true
unfolding is_odd
not_odd c straight is = by (c.iso || c.shift) (is_some c.through && length (outputs c) == 1) is straight
  where
    by : (a b : Bool) → a ≡ true → (a && not b) ≡ false → b ≡ true
    by a true is h = refl
    by true false is h = absurd (false≢true (sym h))
    by false false is h = absurd (false≢true is)

both_true : (a b : Bool) → (a && b) ≡ true → (a ≡ true) × (b ≡ true)
both_true true true e = (refl, refl)
both_true true false e = absurd (false≢true e)
both_true false b e = absurd (false≢true e)

same_direction : (d : Dir) → not (is_input d) ≡ is_output (Some d)
same_direction Input = refl
same_direction Output = refl

count_outputs : (c : Cell) → length (outputs c) ≡ count_by (λ (p : Pin). is_output (Some p.dir)) c.pins
count_outputs c =
    let same : (λ (p : Pin). not (is_input p.dir)) ≡ (λ (p : Pin). is_output (Some p.dir)) = λ i p. same_direction p.dir i in
    length-filter (λ (p : Pin). not (is_input p.dir)) c.pins ∙ ap (λ (test : Pin → Bool). count_by test c.pins) same

one_of : (n : ℕ) → (n == 1) ≡ true → n ≡ 1
one_of n e = grind (arith, e)

has_roles : (c : Cell) → is_odd c ≡ false → HasItsRoles c
has_roles c straight = record {
  through = λ is. (both_true (is_some c.through) (length (outputs c) == 1) (not_odd c straight is)).0;
  one_output = λ is. sym (count_outputs c) ∙ one_of (length (outputs c)) (both_true (is_some c.through) (length (outputs c) == 1) (not_odd c straight is)).1;
}

-- ---- cells

read_cell : (g : CellGroup) → is_odd (cell_of g) ≡ false → IsReadCell (cell_of g)
unfolding cell_of
read_cell g straight = record {
  pin_names = differ_pins g.parts;
  pins = record {
    through_in = only_within (length (cell_of g).pins) (places_where (λ (k : KnownPin). k.is_data) (known_pins g.parts))
        (λ n i. subst (λ m. n < m) (sym size) (place_within (λ (k : KnownPin). k.is_data) (known_pins g.parts) n i));
    enable_in = subst (λ m. IfSome (enable_of (known_pins g.parts)) (λ n. n < m)) (sym size)
        (found_within (λ (k : KnownPin). is_input k.pin.dir && k.is_enable) (known_pins g.parts));
  };
  roles = has_roles (cell_of g) straight;
}
  where
    size : length (map (λ (k : KnownPin). k.pin) (known_pins g.parts)) ≡ length (known_pins g.parts)
    size = length-map (known_pins g.parts) (λ (k : KnownPin). k.pin)

untrue : (b : Bool) → ¬ (b ≡ true) → b ≡ false
untrue true never = absurd (never refl)
untrue false never = refl

abbrev name_of : Cell → List ℕ
name_of cell = cell.name

-- the text of a library gives cells of names, pins and roles of their own
pub libraries_give_cells : LibrariesGiveCells
libraries_give_cells text cells given = subst AreReadCells (sym given.value)
    (record { each = each; names = differ_apart _ (firsts_apart name_of (map cell_of given.groups)) })
  where
    each : (c : Cell) → IsIn c (firsts same_cell_name (map cell_of given.groups)) → IsReadCell c
    each c i =
        let from = IsIn-map_from cell_of c given.groups (firsts_in same_cell_name (map cell_of given.groups) c i) in
        let split = split_at from.0 given.groups from.1 in
        let straight = untrue (is_odd (cell_of from.0)) (given.straight split.0 from.0 split.1 split.2) in
        subst IsReadCell (sym from.2) (read_cell from.0 straight)
