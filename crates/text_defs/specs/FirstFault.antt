-- Where a text that cannot be read goes wrong: at the first token, or the end, with which no readable text can go on.
use Rattle.std.specs.Prelude.{◌≡◌, List, [], ◌∷◌, ◌++◌}

-- what these tokens begin can go on to a readable text
abbrev pub Begins : {K : Type 0} → (List K → Type 0) → List K → Type 0
Begins {K} IsReadable front = (more : List K) × IsReadable (front ++ more)

-- No readable text goes on with what is left: with its first token none does, and where nothing is left the text ends too soon.
abbrev pub EndsAt : {K : Type 0} → (List K → Type 0) → List K → List K → Type 0
EndsAt IsReadable front [] = ¬ IsReadable front
EndsAt IsReadable front (k ∷ _) = ¬ Begins IsReadable (front ++ k ∷ [])

-- The tokens cannot be read, and `left` is what is left of them at the fault: what stands before it begins a readable
-- text, and with the next token, or the end, none goes on.
pub record IsFirstFault {K : Type 0} (IsReadable : List K → Type 0) (tokens left : List K) : Type 0 where
  pub front : List K
  pub split : tokens ≡ front ++ left
  pub begins : Begins IsReadable front
  pub ends : EndsAt IsReadable front left
