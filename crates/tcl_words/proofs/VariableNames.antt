-- The variable that a `$` names, where it names one.
use Rattle.std.proofs.Common.{◌≡◌, ◌≢◌, ℕ, Bool, true, false, ◌&&◌, cond, List, [], ◌∷◌, ◌++◌, map, ◌==◌, Some, None, refl, sym, ◌∙◌, ap, eqb-true, subst, length, ◌≤◌, arith}
use Rattle.std.proofs.lemmas.Bool.{false≢true}
use Rattle.std.proofs.lemmas.List.{nil_from_length}
use Rattle.std.specs.List.{list_all}
use Rattle.tcl_words.specs.Pieces.{Piece, byte, escaped, carried, is_byte, begins}
use Rattle.tcl_words.specs.Words.{is_name_byte, is_name_piece, IsVariable, bare, braced}
use Rattle.tcl_words.specs.Places.{IsFront}
use Rattle.tcl_words.proofs.Braces.{Found}

pub and_first : (a b : Bool) → (a && b) ≡ true → a ≡ true
and_first true b h = refl
and_first false b h = h

pub and_second : (a b : Bool) → (a && b) ≡ true → b ≡ true
and_second true b h = h
and_second false b h = absurd (false≢true h)

pub is_byte-true : (b : ℕ) (p : Piece) → is_byte b p ≡ true → p ≡ byte b
is_byte-true b (byte c) h = ap byte (eqb-true c b h)
is_byte-true b (escaped c) h = absurd (false≢true h)
is_byte-true b carried h = absurd (false≢true h)

-- the longest front of name bytes, and what is left behind it
abbrev pub name_front : List Piece → List ℕ × List Piece
name_front [] = ([], [])
name_front (byte b ∷ rest) = elim (is_name_byte b) [ true ↦ (b ∷ (name_front rest).0, (name_front rest).1) | false ↦ ([], byte b ∷ rest) ]
name_front (escaped b ∷ rest) = ([], escaped b ∷ rest)
name_front (carried ∷ rest) = ([], carried ∷ rest)

fronts : (text : List Piece) → IsFront text (name_front text).0 (name_front text).1
fronts [] = record { split = refl; each = refl; stop = refl }
fronts (byte b ∷ rest) = by (is_name_byte b) refl (fronts rest)
  where
    found : Bool → List ℕ × List Piece
    found t = elim t [ true ↦ (b ∷ (name_front rest).0, (name_front rest).1) | false ↦ ([], byte b ∷ rest) ]

    by : (t : Bool) → is_name_byte b ≡ t → IsFront rest (name_front rest).0 (name_front rest).1 → IsFront (byte b ∷ rest) (found t).0 (found t).1
    by true e h = record { split = ap (λ ps. byte b ∷ ps) h.split; each = rw e h.each; stop = h.stop }
    by false e h = record { split = refl; each = refl; stop = e }
fronts (escaped b ∷ rest) = record { split = refl; each = refl; stop = refl }
fronts (carried ∷ rest) = record { split = refl; each = refl; stop = refl }

not_begun : (left : List Piece) → begins is_name_piece left ≡ false → name_front left ≡ ([], left)
not_begun [] h = refl
not_begun (byte b ∷ rest) h = rw (h, name_front) refl
not_begun (escaped b ∷ rest) h = refl
not_begun (carried ∷ rest) h = refl

front_is : (name : List ℕ) (left : List Piece) → list_all is_name_byte name ≡ true → begins is_name_piece left ≡ false
    → name_front (map byte name ++ left) ≡ (name, left)
front_is [] left each stop = not_begun left stop
front_is (b ∷ name) left each stop =
    let first : is_name_byte b ≡ true = and_first (is_name_byte b) (list_all is_name_byte name) each in
    rw (first, name_front) (ap (λ found. (b ∷ found.0, found.1)) (front_is name left (and_second (is_name_byte b) (list_all is_name_byte name) each) stop))

abbrev pub bare_name : List ℕ → List Piece → Found
bare_name [] left = None
bare_name (b ∷ name) left = Some (b ∷ name, left)

abbrev pub braced_name : List ℕ → List Piece → Found
braced_name [] left = None
braced_name (b ∷ name) [] = None
braced_name (b ∷ name) (p ∷ left) = cond (is_byte 125 p) (Some (b ∷ name, left)) None

-- the variable that the text behind a `$` names
abbrev pub variable_of : List Piece → Found
variable_of [] = None
variable_of (p ∷ rest) =
    elim (is_byte 123 p)
    [ true ↦ braced_name (name_front rest).0 (name_front rest).1 | false ↦ bare_name (name_front (p ∷ rest)).0 (name_front (p ∷ rest)).1 ]

-- what is named is found
pub variable_found : (text : List Piece) (name : List ℕ) (left : List Piece) → IsVariable text name left → variable_of text ≡ Some (name, left)
variable_found text name left (bare [] behind is_name stop) = absurd (is_name.some refl)
variable_found text name left (bare (b ∷ more) behind is_name stop) = by (b == 123) refl
  where
    first : is_name_byte b ≡ true
    first = and_first (is_name_byte b) (list_all is_name_byte more) is_name.each

    by : (t : Bool) → (b == 123) ≡ t
        → ◌≡◌ {A = Found} (elim t [
          | true ↦ braced_name (name_front (map byte more ++ behind)).0 (name_front (map byte more ++ behind)).1
          | false ↦ bare_name (name_front (map byte (b ∷ more) ++ behind)).0 (name_front (map byte (b ∷ more) ++ behind)).1
        ]) (Some (b ∷ more, behind))
    by true e = absurd (false≢true (subst (λ c. is_name_byte c ≡ true) (eqb-true b 123 e) first))
    by false e = ap (λ (found : List ℕ × List Piece). bare_name found.0 found.1) (front_is (b ∷ more) behind is_name.each stop)
variable_found text name left (braced [] behind is_name) = absurd (is_name.some refl)
variable_found text name left (braced (b ∷ more) behind is_name) =
    ap (λ (found : List ℕ × List Piece). braced_name found.0 found.1) (front_is (b ∷ more) (byte 125 ∷ behind) is_name.each refl)

-- what is found is named
abbrev pub IsNamed : List Piece → Found → Type 0
IsNamed text None = Unit {0}
IsNamed text (Some found) = IsVariable text found.0 found.1

some : (b : ℕ) (name : List ℕ) → b ∷ name ≢ []
some b name = λ e. cc

bare_named : (text : List Piece) (name : List ℕ) (left : List Piece) → IsFront text name left → IsNamed text (bare_name name left)
bare_named text [] left front = tt
bare_named text (b ∷ name) left front =
    subst (λ t. IsVariable t (b ∷ name) left) (sym front.split) (bare (b ∷ name) left (record { some = some b name; each = front.each }) front.stop)

braced_named : (text : List Piece) (name : List ℕ) (left : List Piece) → IsFront text name left → IsNamed (byte 123 ∷ text) (braced_name name left)
braced_named text [] left front = tt
braced_named text (b ∷ name) [] front = tt
braced_named text (b ∷ name) (p ∷ left) front = by (is_byte 125 p) refl
  where
    by : (t : Bool) → is_byte 125 p ≡ t → IsNamed (byte 123 ∷ text) (cond t (Some (b ∷ name, left)) None)
    by true e =
        subst (λ t. IsVariable (byte 123 ∷ t) (b ∷ name) left) (sym (front.split ∙ ap (λ q. map byte (b ∷ name) ++ q ∷ left) (is_byte-true 125 p e)))
        (braced (b ∷ name) left (record { some = some b name; each = front.each }))
    by false e = tt

pub found_named : (text : List Piece) → IsNamed text (variable_of text)
found_named [] = tt
found_named (p ∷ rest) = by (is_byte 123 p) refl
  where
    by : (t : Bool) → is_byte 123 p ≡ t
        → IsNamed (p ∷ rest) (elim t [ true ↦ braced_name (name_front rest).0 (name_front rest).1 | false ↦ bare_name (name_front (p ∷ rest)).0 (name_front (p ∷ rest)).1 ])
    by true e =
        subst (λ q. IsNamed (q ∷ rest) (braced_name (name_front rest).0 (name_front rest).1)) (sym (is_byte-true 123 p e))
        (braced_named rest (name_front rest).0 (name_front rest).1 (fronts rest))
    by false e = bare_named (p ∷ rest) (name_front (p ∷ rest)).0 (name_front (p ∷ rest)).1 (fronts (p ∷ rest))

-- where nothing is named, nothing is found
pub variable_absent : (text : List Piece) → ((name : List ℕ) (left : List Piece) → ¬ IsVariable text name left) → variable_of text ≡ None
variable_absent text absent = by (variable_of text) (found_named text)
  where
    by : (o : Found) → IsNamed text o → o ≡ None
    by None h = refl
    by (Some found) h = absurd (absent found.0 found.1 h)

-- and where nothing is found, nothing is named
pub absent_variable : (text : List Piece) → variable_of text ≡ None → (name : List ℕ) (left : List Piece) → ¬ IsVariable text name left
absent_variable text e name left h = let found : variable_of text ≡ Some (name, left) = variable_found text name left h in cc

spelled_longer : (name : List ℕ) (left : List Piece) → length left ≤ length (map byte name ++ left)
spelled_longer [] left = omega arith
spelled_longer (b ∷ name) left = let less : length left ≤ length (map byte name ++ left) = spelled_longer name left in omega arith

-- what is left behind the name is no longer
pub variable_shorter : (text : List Piece) (name : List ℕ) (left : List Piece) → IsVariable text name left → length left ≤ length text
variable_shorter text name left (bare n behind is_name stop) = spelled_longer n behind
variable_shorter text name left (braced n behind is_name) =
    let less : length (byte 125 ∷ behind) ≤ length (map byte n ++ byte 125 ∷ behind) = spelled_longer n (byte 125 ∷ behind) in omega arith

-- the longest front is the one that is computed
pub front_read : (text : List Piece) (name : List ℕ) (left : List Piece) → IsFront text name left → name_front text ≡ (name, left)
front_read text name left f = ap name_front f.split ∙ front_is name left f.each f.stop

bare_read : (text : List Piece) (name : List ℕ) (left : List Piece) → begins (is_byte 123) text ≡ false → IsFront text name left
    → variable_of text ≡ bare_name name left
bare_read [] name left h f = ap (λ (found : List ℕ × List Piece). bare_name found.0 found.1) (front_read [] name left f)
bare_read (p ∷ rest) name left h f =
    rw (h, variable_of) (ap (λ (found : List ℕ × List Piece). bare_name found.0 found.1) (front_read (p ∷ rest) name left f))

braced_read : (rest : List Piece) (name : List ℕ) (left : List Piece) → IsFront rest name left → variable_of (byte 123 ∷ rest) ≡ braced_name name left
braced_read rest name left f = ap (λ (found : List ℕ × List Piece). braced_name found.0 found.1) (front_read rest name left f)

bare_some : (name : List ℕ) (left : List Piece) → name ≢ [] → bare_name name left ≡ Some (name, left)
bare_some [] left h = absurd (h refl)
bare_some (b ∷ name) left h = refl

braced_some : (name : List ℕ) (left : List Piece) → name ≢ [] → braced_name name (byte 125 ∷ left) ≡ Some (name, left)
braced_some [] left h = absurd (h refl)
braced_some (b ∷ name) left h = refl

braced_none : (name : List ℕ) (left : List Piece) → begins (is_byte 125) left ≡ false → braced_name name left ≡ None
braced_none [] left h = refl
braced_none (b ∷ name) [] h = refl
braced_none (b ∷ name) (p ∷ left) h = rw (h, braced_name) refl

-- a front without bytes names nothing
pub no_bare_name : (text : List Piece) (name : List ℕ) (left : List Piece) → begins (is_byte 123) text ≡ false → IsFront text name left → length name ≡ 0
    → (n : List ℕ) (l : List Piece) → ¬ IsVariable text n l
no_bare_name text name left h f e = absent_variable text (bare_read text name left h f ∙ ap (λ n. bare_name n left) (nil_from_length name e))

-- a front with bytes is a name
pub is_bare_name : (text : List Piece) (name : List ℕ) (left : List Piece) → begins (is_byte 123) text ≡ false → IsFront text name left → name ≢ []
    → IsVariable text name left
is_bare_name text name left h f some_there = subst (IsNamed text) (bare_read text name left h f ∙ bare_some name left some_there) (found_named text)

-- the same behind an opening brace
pub no_braced_name : (text rest : List Piece) (name : List ℕ) (left : List Piece) → text ≡ byte 123 ∷ rest → IsFront rest name left → length name ≡ 0
    → (n : List ℕ) (l : List Piece) → ¬ IsVariable text n l
no_braced_name text rest name left is f e =
    absent_variable text (ap variable_of is ∙ braced_read rest name left f ∙ ap (λ n. braced_name n left) (nil_from_length name e))

pub no_closed_name : (text rest : List Piece) (name : List ℕ) (left : List Piece) → text ≡ byte 123 ∷ rest → IsFront rest name left
    → begins (is_byte 125) left ≡ false → (n : List ℕ) (l : List Piece) → ¬ IsVariable text n l
no_closed_name text rest name left is f unshut =
    absent_variable text (ap variable_of is ∙ braced_read rest name left f ∙ braced_none name left unshut)

pub is_braced_name : (text rest : List Piece) (name : List ℕ) (left behind : List Piece) → text ≡ byte 123 ∷ rest → IsFront rest name left → name ≢ []
    → left ≡ byte 125 ∷ behind → IsVariable text name behind
is_braced_name text rest name left behind is f some_there closed =
    subst (IsNamed text) (ap variable_of is ∙ braced_read rest name left f ∙ ap (braced_name name) closed ∙ braced_some name behind some_there) (found_named text)
