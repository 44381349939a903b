-- Grammars over tokens: which tokens are read as what, and how they are read from the front.
use Rattle.std.specs.Prelude.{◌≡◌, Bool, true, false, List, [], ◌∷◌, ◌++◌, Option, Some, None, ◌⊎◌, Result, Ok, Err}

infixl 20 ◌>>=◌
infixl 20 ◌>>◌
-- A grammar over tokens K, whose phrases are read as values of A.
pub data Grammar (K : Type 0) : Type 0 → Type 1 where
  -- no token; it gives this value
  gives : {A : Type 0} → A → Grammar K A
  -- one token, of those that give a value
  token : {A : Type 0} → (K → Option A) → Grammar K A
  -- a phrase, and then another, which may depend on what the first gave
  ◌>>=◌ : {A B : Type 0} → Grammar K A → (A → Grammar K B) → Grammar K B
  -- one phrase where the next token passes the test, else another
  where_next : {A : Type 0} → (K → Bool) → Grammar K A → Grammar K A → Grammar K A

-- a phrase, and then another
abbrev pub ◌>>◌ : {K A B : Type 0} → Grammar K A → Grammar K B → Grammar K B
◌>>◌ first second = first >>= λ _. second

-- The tokens are a phrase that is read as the value. Of two phrases by choice it is either one.
unfoldable pub Reads : {K A : Type 0} → Grammar K A → List K → A → Type 0
Reads (Grammar.gives x) tokens y = (tokens ≡ []) × (x ≡ y)
Reads {K} (Grammar.token taken) tokens y = (k : K) × (tokens ≡ k ∷ []) × (taken k ≡ Some y)
Reads {K} (Grammar.◌>>=◌ {A} first second) tokens y =
    (x : A) × (front : List K) × (back : List K) × (tokens ≡ front ++ back) × Reads first front x × Reads (second x) back y
Reads (Grammar.where_next test this other) tokens y = Reads this tokens y ⊎ Reads other tokens y

-- the tokens are a phrase
abbrev pub IsPhrase : {K A : Type 0} → Grammar K A → List K → Type 0
IsPhrase {A = A} g tokens = (x : A) × Reads g tokens x

-- the next token, where there is one
abbrev pub next : {K : Type 0} → List K → Option K
next [] = None
next (k ∷ _) = Some k

-- whether the next token is there and passes a test
abbrev pub passes : {K : Type 0} → (K → Bool) → Option K → Bool
passes test None = false
passes test (Some k) = test k

-- what was read and the tokens that are left, or the tokens that are left at the fault
abbrev pub Reading : Type 0 → Type 0 → Type 0
Reading K A = Result (A × List K) (List K)

-- reading goes on behind what was read
abbrev pub and_then : {K A B : Type 0} → Reading K A → (A → List K → Reading K B) → Reading K B
and_then (Ok p) more = more p.0 p.1
and_then (Err left) more = Err left

abbrev pub taken_or : {K A : Type 0} → K → List K → Option A → Reading K A
taken_or k rest None = Err (k ∷ rest)
taken_or k rest (Some x) = Ok (x, rest)

-- the first token, if it gives a value
abbrev pub read_token : {K A : Type 0} → (K → Option A) → List K → Reading K A
read_token taken [] = Err []
read_token taken (k ∷ rest) = taken_or k rest (taken k)

-- a phrase is read from the front, by looking at no more than the next token
unfoldable pub read : {K A : Type 0} → Grammar K A → List K → Reading K A
read (Grammar.gives x) tokens = Ok (x, tokens)
read (Grammar.token taken) tokens = read_token taken tokens
read (Grammar.◌>>=◌ first second) tokens = and_then (read first tokens) (λ x rest. read (second x) rest)
read (Grammar.where_next test this other) tokens =
    elim (passes test (next tokens)) [ true ↦ read this tokens | false ↦ read other tokens ]

-- each phrase that was begun can be ended
unfoldable pub CanEnd : {K A : Type 0} → Grammar K A → Type 0
CanEnd (Grammar.gives x) = Unit {0}
CanEnd {K} (Grammar.token {A} taken) = (k : K) × (x : A) × (taken k ≡ Some x)
CanEnd (Grammar.◌>>=◌ {A} first second) = CanEnd first × ((x : A) → CanEnd (second x))
CanEnd (Grammar.where_next test this other) = CanEnd this × CanEnd other

-- the text ends behind what was read, else the fault stands at the next token
abbrev pub ended : {K A : Type 0} → A → List K → Result A (List K)
ended x [] = Ok x
ended x (k ∷ rest) = Err (k ∷ rest)

-- what a whole text is read as, or what is left of it at the fault
abbrev pub whole : {K A : Type 0} → Reading K A → Result A (List K)
whole (Ok p) = ended p.0 p.1
whole (Err left) = Err left

-- what is read from the front of a text, and is the whole of it
abbrev pub read_whole : {K A : Type 0} → Grammar K A → List K → Result A (List K)
read_whole g tokens = whole (read g tokens)
