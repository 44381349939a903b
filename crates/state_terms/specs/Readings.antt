-- What is read from the front of a text, by the words and marks that the text has.
use Rattle.std.specs.Prelude.{◌≡◌, ℕ, ◌<◌, List, ◌∷◌, length}
use Rattle.pw_defs.specs.declared.faults.TermFault.{TermFault}
use Rattle.pw_defs.specs.declared.faults.TermFault.TheVariants.{U8, U9, Memory}
use Rattle.power_states.specs.ExpressionWords.{Token, HasTokens}
use Rattle.power_states.specs.Expressions.{Language, HasNoTerm}

-- The first word or mark of the text is this one, and the rest is left behind it.
pub record Begins (text : List ℕ) (first : Token) (left : List ℕ) : Type 0 where
  pub shorter : length left < length text
  pub on : (more : List Token) → HasTokens left more → HasTokens text (first ∷ more)
  pub back : (tokens : List Token) → HasTokens text tokens → (more : List Token) × (tokens ≡ first ∷ more) × HasTokens left more

-- the first word or mark of the text isn't this one
abbrev pub BeginsNot : List ℕ → Token → Type 0
BeginsNot text first = (more : List Token) → ¬ HasTokens text (first ∷ more)

-- The front of the text is this thing of the grammar and no other one, and the rest is left behind it.
pub record Reads {X : Type 0} (Is : List Token → X → List Token → Type 0) (text : List ℕ) (x : X) (left : List ℕ) : Type 0 where
  pub shorter : length left < length text
  pub on : (more : List Token) → HasTokens left more → (tokens : List Token) × HasTokens text tokens × Is tokens x more
  pub only : (tokens : List Token) (y : X) (more : List Token) → HasTokens text tokens → Is tokens y more → (y ≡ x) × HasTokens left more

-- no front of the text is a thing of the grammar
abbrev pub Lacks : {X : Type 0} → (List Token → X → List Token → Type 0) → List ℕ → Type 0
Lacks {X} Is text = (tokens : List Token) (y : X) (more : List Token) → HasTokens text tokens → ¬ Is tokens y more

-- why nothing was read
abbrev pub LacksBy : {X : Type 0} → (List Token → X → List Token → Type 0) → List ℕ → TermFault → Type 0
LacksBy Is text U8 = Lacks Is text
LacksBy Is text (U9 name) = ⊥
LacksBy Is text Memory = Unit {0}

-- the grammar behind this word or mark
abbrev pub Behind : {X : Type 0} → Token → (List Token → X → List Token → Type 0) → List Token → X → List Token → Type 0
Behind first Is tokens x more = Is (first ∷ tokens) x more

-- the grammar before this word or mark
abbrev pub Before : {X : Type 0} → Token → (List Token → X → List Token → Type 0) → List Token → X → List Token → Type 0
Before last Is tokens x more = Is tokens x (last ∷ more)

-- why a text is no term: it is no expression of the language
abbrev pub IsTermFault : Language → List ℕ → TermFault → Type 0
IsTermFault language text U8 = HasNoTerm language text
IsTermFault language text (U9 name) = ⊥
IsTermFault language text Memory = Unit {0}
