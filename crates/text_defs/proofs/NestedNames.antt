-- A small grammar: a name, or names between braces with commas, nested at most so deep. Its law is put together from those of its parts.
use Rattle.std.proofs.Common.{◌≡◌, ℕ, zero, suc, Bool, true, false, List, [], ◌∷◌, Option, Some, None, Ok, Err, ◌⊎◌, inl, inr, refl}
use Rattle.std.specs.List.{concat}
use Rattle.list_defs.specs.Members.{IsIn}
use Rattle.text_defs.specs.Grammar.{Grammar, Reads, IsPhrase, CanEnd, read, read_whole, ◌>>=◌, ◌>>◌}
use Rattle.text_defs.specs.Phrases.{many, listed}
use Rattle.text_defs.specs.FirstFault.{IsFirstFault}
use Rattle.text_defs.proofs.Clear.{IsClear, clear-gives, clear-token, clear-then, clear-where, clear-fewer, clear-wider}
use Rattle.text_defs.proofs.ClearPhrases.{clear-listed, can_end-many}
use Rattle.text_defs.proofs.Whole.{one_value, value_or_fault}

pub data Token : Type 0 where
  Name : ℕ → Token
  Comma : Token
  Open : Token
  Shut : Token

pub data Class : Type 0 where
  ofName : Class
  ofComma : Class
  ofOpen : Class
  ofShut : Class

abbrev pub class : Token → Class
class (Name n) = ofName
class Comma = ofComma
class Open = ofOpen
class Shut = ofShut

abbrev pub is_open : Class → Bool
is_open ofOpen = true
is_open _ = false

abbrev pub is_comma : Class → Bool
is_comma ofComma = true
is_comma _ = false

abbrev pub name_in : Token → Option ℕ
name_in (Name n) = Some n
name_in _ = None

abbrev pub comma_in : Token → Option (Unit {0})
comma_in Comma = Some tt
comma_in _ = None

abbrev pub open_in : Token → Option (Unit {0})
open_in Open = Some tt
open_in _ = None

abbrev pub shut_in : Token → Option (Unit {0})
shut_in Shut = Some tt
shut_in _ = None

abbrev pub name : Grammar Token (List ℕ)
name = Grammar.token name_in >>= λ n. Grammar.gives (n ∷ [])

abbrev pub between : ℕ → Grammar Token (List ℕ) → Grammar Token (List ℕ)
between most item = do
  _ ← Grammar.token open_in
  names ← listed most (λ k. is_comma (class k)) (Grammar.token comma_in) item
  _ ← Grammar.token shut_in
  Grammar.gives (concat names)

-- the names that stand in it
pub item : ℕ → ℕ → Grammar Token (List ℕ)
item most zero = name
item most (suc depth) = Grammar.where_next (λ k. is_open (class k)) (between most (item most depth)) name

abbrev pub starts : List (Option Class)
starts = Some ofOpen ∷ Some ofName ∷ []

abbrev pub follows : List (Option Class)
follows = Some ofComma ∷ Some ofShut ∷ None ∷ []

of_name : (k : Token) (n : ℕ) → name_in k ≡ Some n → IsIn (Some (class k)) (Some ofName ∷ [])
of_name (Name m) n h = inl refl
of_name Comma n h = cc
of_name Open n h = cc
of_name Shut n h = cc

of_comma : (k : Token) (n : Unit {0}) → comma_in k ≡ Some n → IsIn (Some (class k)) (Some ofComma ∷ [])
of_comma (Name m) n h = cc
of_comma Comma n h = inl refl
of_comma Open n h = cc
of_comma Shut n h = cc

of_open : (k : Token) (n : Unit {0}) → open_in k ≡ Some n → IsIn (Some (class k)) (Some ofOpen ∷ [])
of_open (Name m) n h = cc
of_open Comma n h = cc
of_open Open n h = inl refl
of_open Shut n h = cc

of_shut : (k : Token) (n : Unit {0}) → shut_in k ≡ Some n → IsIn (Some (class k)) (Some ofShut ∷ [])
of_shut (Name m) n h = cc
of_shut Comma n h = cc
of_shut Open n h = cc
of_shut Shut n h = inl refl

clear-name : IsClear class name (Some ofName ∷ []) follows
clear-name = clear-then (clear-token of_name) (λ n. clear-gives)

clear-between : (most : ℕ) (inner : Grammar Token (List ℕ)) → IsClear class inner starts follows
    → IsClear class (between most inner) (Some ofOpen ∷ []) follows
clear-between most inner one =
    let fewer : IsClear class inner starts (Some ofComma ∷ Some ofShut ∷ []) = clear-fewer one (inl refl, (inr (inl refl), tt)) in
    clear-then (clear-token of_open)
    (λ _. clear-then (clear-listed most is_comma {marks = Some ofComma ∷ []} {follows = Some ofShut ∷ []} (clear-token of_comma) fewer refl refl)
    (λ names. clear-then (clear-token of_shut) (λ _. clear-gives)))

-- by induction on the depth
clear-item : (most depth : ℕ) → IsClear class (item most depth) starts follows
unfolding item
clear-item most zero = clear-wider clear-name (inr (inl refl), tt)
clear-item most (suc depth) = clear-where is_open (clear-between most (item most depth) (clear-item most depth)) clear-name refl refl

can_end-item : (most depth : ℕ) → CanEnd (item most depth)
unfolding item CanEnd
can_end-item most zero = ((Name 0, 0, refl), λ n. tt)
can_end-item most (suc depth) = (
  (
    (Open, tt, refl),
    λ _. (
      (
        can_end-item most depth,
        λ x. (
          can_end-many most
              (λ k. is_comma (class k)) (Grammar.token comma_in >> item most depth) ((Comma, tt, refl), λ _. can_end-item most depth),
          λ xs. tt,
        ),
      ),
      λ names. ((Shut, tt, refl), λ _. tt),
    ),
  ),
  ((Name 0, 0, refl), λ n. tt),
)

-- nested names have one reading
pub names_are_one : (most depth : ℕ) (tokens : List Token) (a b : List ℕ) → Reads (item most depth) tokens a → Reads (item most depth) tokens b → a ≡ b
names_are_one most depth = one_value class (item most depth) starts follows (clear-item most depth) (inr (inr (inl refl)))

-- or there is a first fault
pub names_or_fault : (most depth : ℕ) (tokens : List Token)
    → IsPhrase (item most depth) tokens ⊎ ((left : List Token) × IsFirstFault (IsPhrase (item most depth)) tokens left)
names_or_fault most depth = value_or_fault class (item most depth) starts follows (clear-item most depth) (inr (inr (inl refl))) (can_end-item most depth)

-- names in two braces are read, in their order
pub two_deep_is_read : read_whole (item 9 2) (Open ∷ Name 1 ∷ Comma ∷ Open ∷ Name 2 ∷ Shut ∷ Shut ∷ []) ≡ Ok (1 ∷ 2 ∷ [])
unfolding item read many
two_deep_is_read = refl

-- a comma with nothing behind it goes wrong at what stands there
pub no_name_behind_a_comma : read_whole (item 9 2) (Open ∷ Name 1 ∷ Comma ∷ Shut ∷ []) ≡ Err (Shut ∷ [])
unfolding item read many
no_name_behind_a_comma = refl

-- what is nested too deep goes wrong at its brace
pub too_deep_is_refused : read_whole (item 9 1) (Open ∷ Open ∷ Name 1 ∷ Shut ∷ Shut ∷ []) ≡ Err (Open ∷ Name 1 ∷ Shut ∷ Shut ∷ [])
unfolding item read many
too_deep_is_refused = refl

-- a text that ends too soon goes wrong at its end
pub cut_names_end_too_soon : read_whole (item 9 1) (Open ∷ Name 1 ∷ []) ≡ Err []
unfolding item read many
cut_names_end_too_soon = refl
