-- Loops over the bytes of a name, over bits and over ports, one after the other.
use Rattle.std.proofs.Common.{◌≡◌, ℕ, zero, suc, ◌+◌, ◌<◌, false, eqb, List, [], ◌∷◌, ◌++◌, Option, None, Some}
use Rattle.std.proofs.Common.{get_or, is_some, length, map, slice_get, take, refl, sym, ap, ◌∙◌, subst, arith, append-nil, inl, inr}
use Rattle.std.specs.List.{flat_map, range_with_len}
use Rattle.std.proofs.lemmas.Bool.{cases_eq, eqb-false}
use Rattle.std.proofs.lemmas.Grind.{flat_map-append}
use Rattle.std.proofs.lemmas.List.{map_push, take_more}
use Rattle.std.proofs.lemmas.Option.{get_or_from_slice_get}
use Rattle.pw_defs.specs.declared.cells.Pin.{Pin}
use Rattle.pw_defs.specs.declared.netlist.Port.{Port}
use Rattle.design_defs.specs.Names.{joined}
use Rattle.design_defs.specs.Ports.{port_of_pin}
use Rattle.design_defs.specs.Ranges.{width}
use Rattle.net_names.specs.Meets.{bits_at, met, met_all, port_at, ports_at, vector_at}
use Rattle.net_names.specs.declared.meeting.Meeting.{Meeting}
use Rattle.net_names.specs.declared.meeting.NameAt.{NameAt}
use Rattle.net_names.specs.declared.meeting.Place.{Place}
use Rattle.net_names.proofs.MeetLaws.{met_all-append}

-- BYTES
pub other_byte : (name : List ℕ) (at byte : ℕ) → eqb (get_or name at 0) byte ≡ false → slice_get name at ≡ Some byte → ⊥
other_byte name at byte differ is = eqb-false (get_or name at 0) byte differ (get_or_from_slice_get name at byte 0 is)

pub is_none_of : {X : Type 0} (o : Option X) → is_some o ≡ false → o ≡ None
is_none_of None e = refl
is_none_of (Some x) e = cc

-- what holds at each place so far, and at the next one
pub each_next : (P : ℕ → Type 0) (at : ℕ) → ((k : ℕ) → k < at → P k) → P at → (k : ℕ) → k < at + 1 → P k
each_next P at before here k less = elim (cases_eq k at) [ inl e ↦ subst P (sym e) here | inr other ↦ before k (omega (arith, less, other)) ]

-- MEETING one name after the other
range_push : (a n : ℕ) → range_with_len a (suc n) ≡ range_with_len a n ++ (a + n) ∷ []
range_push a zero = ap (λ (x : ℕ). x ∷ []) {x = a} {y = a + 0} (omega arith)
range_push a (suc n) =
    ap (λ xs. a ∷ xs) (range_push (a + 1) n ∙ ap (λ (x : ℕ). range_with_len (a + 1) n ++ x ∷ []) {x = a + 1 + n} {y = a + suc n} (omega arith))

pub met_last : (m : Meeting) (xs : List NameAt) (x : NameAt) → met_all m (xs ++ x ∷ []) ≡ met (met_all m xs) x
unfolding met_all
met_last m xs x = met_all-append m xs (x ∷ [])

pub numbers_more : (f : ℕ → NameAt) (old now new : Meeting) (k : ℕ) → now ≡ met_all old (map f (range_with_len 0 k)) → new ≡ met now (f k)
    → new ≡ met_all old (map f (range_with_len 0 (k + 1)))
numbers_more f old now new k before next =
    let more : range_with_len 0 (k + 1) ≡ range_with_len 0 k ++ k ∷ [] =
    ap (range_with_len 0) {x = k + 1} {y = suc k} (omega arith) ∙ range_push 0 k ∙ ap (λ (x : ℕ). range_with_len 0 k ++ x ∷ []) {x = 0 + k} {y = k} (omega arith) in
    next ∙ ap (λ m. met m (f k)) before
    ∙ sym (ap (met_all old) (ap (map f) more ∙ map_push f (range_with_len 0 k) k) ∙ met_last old (map f (range_with_len 0 k)) (f k))

pub met_none : (m : Meeting) → m ≡ met_all m []
unfolding met_all
met_none m = refl

-- the names of one item more
pub names_more : {X : Type 0} (names : X → List NameAt) (xs : List X) (i : ℕ) (x : X) (old now new : Meeting) → i < length xs → x ≡ get_or xs i x
    → now ≡ met_all old (flat_map names (take i xs)) → new ≡ met_all now (names x) → new ≡ met_all old (flat_map names (take (i + 1) xs))
names_more names xs i x old now new within is before next =
    let more : flat_map names (take (i + 1) xs) ≡ flat_map names (take i xs) ++ names x =
    ap (flat_map names) (take_more xs i x within ∙ ap (λ y. take i xs ++ y ∷ []) (sym is))
    ∙ flat_map-append names (take i xs) (x ∷ []) ∙ ap (λ last. flat_map names (take i xs) ++ last) (append-nil (names x)) in
    next ∙ ap (λ m. met_all m (names x)) before ∙ sym (ap (met_all old) more ∙ met_all-append old (flat_map names (take i xs)) (names x))

flat_of_map : {X Y : Type 0} (f : X → Y) (names : Y → List NameAt) (xs : List X) → flat_map names (map f xs) ≡ flat_map (λ x. names (f x)) xs
flat_of_map f names [] = refl
flat_of_map f names (x ∷ xs) = ap (λ rest. names (f x) ++ rest) (flat_of_map f names xs)

-- one pin more
pub pins_more : (place : Place) (path : List ℕ) (pins : List Pin) (i : ℕ) (x : Pin) (old now new : Meeting) → i < length pins → x ≡ get_or pins i x
    → now ≡ met_all old (ports_at place path (map port_of_pin (take i pins))) → new ≡ met_all now (port_at place path x.name None)
    → new ≡ met_all old (ports_at place path (map port_of_pin (take (i + 1) pins)))
pins_more place path pins i x old now new within is before next =
    let of_port = λ (p : Port). port_at place path p.name p.range in
    let of_pin = λ (p : Pin). port_at place path p.name None in
    names_more of_pin pins i x old now new within is (before ∙ ap (met_all old) (flat_of_map port_of_pin of_port (take i pins))) next
    ∙ ap (met_all old) (sym (flat_of_map port_of_pin of_port (take (i + 1) pins)))

-- a port and its bits
pub scalar_met : (place : Place) (path name text : List ℕ) (range : Option (ℕ × ℕ)) (old new : Meeting) → text ≡ joined path name → range ≡ None
    → new ≡ met old (record { place = place; name = text }) → new ≡ met_all old (port_at place path name range)
unfolding met_all
scalar_met place path name text range old new same none own =
    own ∙ ap (λ t. met old (record { place = place; name = t })) same
    ∙ ap (λ r. met_all (met old (record { place = place; name = joined path name })) (vector_at place (joined path name) r)) (sym none)

pub vector_met : (place : Place) (path name text again : List ℕ) (range : Option (ℕ × ℕ)) (r : ℕ × ℕ) (old now new : Meeting) → text ≡ joined path name → again ≡ text → range ≡ Some r
    → now ≡ met old (record { place = place; name = text }) → new ≡ met_all now (bits_at place again r (width (Some r))) → new ≡ met_all old (port_at place path name range)
unfolding met_all
vector_met place path name text again range r old now new same twice some own bits =
    bits ∙ ap (λ m. met_all m (bits_at place again r (width (Some r)))) (own ∙ ap (λ t. met old (record { place = place; name = t })) same)
    ∙ ap (λ t. met_all (met old (record { place = place; name = joined path name })) (bits_at place t r (width (Some r)))) (twice ∙ same)
    ∙ ap (λ q. met_all (met old (record { place = place; name = joined path name })) (vector_at place (joined path name) q)) (sym some)
