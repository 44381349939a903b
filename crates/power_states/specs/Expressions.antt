-- Which texts are expressions of power states, and which terms they are.
use Rattle.std.specs.Prelude.{◌≡◌, ℕ, suc, Bool, true, false, List, [], ◌∷◌, codes}
use Rattle.pw_defs.specs.declared.terms.Term.{Term}
use Rattle.pw_defs.specs.declared.terms.Term.TheVariants.{Is, Volt, On, Not, All, Any}
use Rattle.pw_defs.specs.declared.values.Value.TheVariants.{Off as OffValue, On as OnValue}
use Rattle.power_states.specs.ExpressionWords.{Token, word, opens, shuts, bang, both, either, same, differs, brace, unbrace, comma, quote, HasTokens}
use Rattle.upf_commands.specs.Voltages.{IsVoltage}

-- supply expressions speak of a set's functions, logic expressions of states of objects
pub data Language : Type 0 where
  supply : Language
  logic : Language

-- the words up to a closing brace, with or without commas before them, and what is left behind the brace
pub data AreVoltageWords : List Token → List (List ℕ) → List Token → Type 0 where
  closes : (left : List Token) → AreVoltageWords (unbrace ∷ left) [] left
  plain : (text : List ℕ) (rest left : List Token) (words : List (List ℕ)) → AreVoltageWords rest words left
      → AreVoltageWords (word text ∷ rest) (text ∷ words) left
  listed : (text : List ℕ) (rest left : List Token) (words : List (List ℕ)) → AreVoltageWords rest words left
      → AreVoltageWords (comma ∷ word text ∷ rest) (text ∷ words) left

-- What a function is compared with: `OFF`; `FULL_ON`, which is on at any voltage; or `{FULL_ON V}` with one, two or three
-- voltages, also with a back quote in front. The term says that the function has it.
pub data IsSupplyValue (power : Bool) : List Token → Term → List Token → Type 0 where
  off : (left : List Token) → IsSupplyValue power (word (codes "OFF") ∷ left) (Volt power OffValue) left
  on : (left : List Token) → IsSupplyValue power (word (codes "FULL_ON") ∷ left) (On power) left
  at : (rest left : List Token) (words : List (List ℕ)) (v : ℕ) → AreVoltageWords rest words left → IsVoltage words v
      → IsSupplyValue power (brace ∷ word (codes "FULL_ON") ∷ rest) (Volt power (OnValue v)) left
  quoted : (rest left : List Token) (words : List (List ℕ)) (v : ℕ) → AreVoltageWords rest words left → IsVoltage words v
      → IsSupplyValue power (quote ∷ brace ∷ word (codes "FULL_ON") ∷ rest) (Volt power (OnValue v)) left

-- the function that a word names: whether it is the power
pub data IsFunction : List ℕ → Bool → Type 0 where
  of_power : IsFunction (codes "power") true
  of_ground : IsFunction (codes "ground") false

-- A comparison. With `!=` it is the opposite of that with `==`.
pub data IsComparison : Language → List Token → Term → List Token → Type 0 where
  in_state : (object state : List ℕ) (left : List Token) → IsComparison logic (word object ∷ same ∷ word state ∷ left) (Is object state) left
  not_in_state : (object state : List ℕ) (left : List Token) → IsComparison logic (word object ∷ differs ∷ word state ∷ left) (Not (Is object state)) left
  has : (function : List ℕ) (power : Bool) (rest left : List Token) (term : Term) → IsFunction function power → IsSupplyValue power rest term left
      → IsComparison supply (word function ∷ same ∷ rest) term left
  has_not : (function : List ℕ) (power : Bool) (rest left : List Token) (term : Term) → IsFunction function power → IsSupplyValue power rest term left
      → IsComparison supply (word function ∷ differs ∷ rest) (Not term) left

-- whether the mark stands first
abbrev pub is_both : List Token → Bool
is_both (both ∷ rest) = true
is_both _ = false

abbrev pub is_either : List Token → Bool
is_either (either ∷ rest) = true
is_either _ = false

-- parts joined by `&&`: all of them, and a single one stands for itself
abbrev pub all_of : List Term → Term
all_of (term ∷ []) = term
all_of terms = All terms

-- parts joined by `||`: any of them, and a single one stands for itself
abbrev pub any_of : List Term → Term
any_of (term ∷ []) = term
any_of terms = Any terms

-- The grammar, with what is left of the text. `depth` says how many `(` and `!` may still open.
mutual
  -- one comparison, one behind a `!`, or an expression in parentheses
  pub data IsOne (language : Language) : ℕ → List Token → Term → List Token → Type 0 where
    compared : (depth : ℕ) (text left : List Token) (term : Term) → IsComparison language text term left → IsOne language depth text term left
    negated : (depth : ℕ) (text left : List Token) (term : Term) → IsOne language depth text term left
        → IsOne language (suc depth) (bang ∷ text) (Not term) left
    grouped : (depth : ℕ) (text left : List Token) (parts : List Term) → AreEither language depth text parts (shuts ∷ left)
        → IsOne language (suc depth) (opens ∷ text) (any_of parts) left

  -- the parts joined by `&&`
  pub data AreBoth (language : Language) : ℕ → List Token → List Term → List Token → Type 0 where
    last_both : (depth : ℕ) (text left : List Token) (term : Term) → IsOne language depth text term left → is_both left ≡ false
        → AreBoth language depth text (term ∷ []) left
    more_both : (depth : ℕ) (text rest left : List Token) (term : Term) (parts : List Term) → IsOne language depth text term (both ∷ rest)
        → AreBoth language depth rest parts left → AreBoth language depth text (term ∷ parts) left

  -- the parts joined by `||`
  pub data AreEither (language : Language) : ℕ → List Token → List Term → List Token → Type 0 where
    last_either : (depth : ℕ) (text left : List Token) (terms : List Term) → AreBoth language depth text terms left → is_either left ≡ false
        → AreEither language depth text (all_of terms ∷ []) left
    more_either : (depth : ℕ) (text rest left : List Token) (terms parts : List Term) → AreBoth language depth text terms (either ∷ rest)
        → AreEither language depth rest parts left → AreEither language depth text (all_of terms ∷ parts) left

-- the text is an expression of the language, with at most a hundred `(` and `!` open at any place, and is this term
pub record ReadsAsTerm (language : Language) (text : List ℕ) (term : Term) : Type 0 where
  pub tokens : List Token
  pub cut : HasTokens text tokens
  pub parts : List Term
  pub parts_are : AreEither language 100 tokens parts []
  pub joined : term ≡ any_of parts

-- the text is this supply expression
abbrev pub ReadsAsSupplyTerm : List ℕ → Term → Type 0
ReadsAsSupplyTerm text term = ReadsAsTerm supply text term

-- the text is this logic expression
abbrev pub ReadsAsLogicTerm : List ℕ → Term → Type 0
ReadsAsLogicTerm text term = ReadsAsTerm logic text term

-- the text is no expression of the language
abbrev pub HasNoTerm : Language → List ℕ → Type 0
HasNoTerm language text = (term : Term) → ¬ ReadsAsTerm language text term
