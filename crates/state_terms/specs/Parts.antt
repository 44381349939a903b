-- What the parts of an expression are, for the calls that read them.
use Rattle.std.specs.Prelude.{◌≡◌, ℕ, Bool, true, false, List, [], ◌∷◌, ◌++◌, codes}
use Rattle.pw_defs.specs.declared.terms.Term.{Term}
use Rattle.pw_defs.specs.declared.terms.Term.TheVariants.{Is, Volt, On, Not}
use Rattle.pw_defs.specs.declared.values.Value.TheVariants.{Off as OffValue}
use Rattle.upf_commands.specs.Voltages.{IsVoltage}
use Rattle.power_states.specs.ExpressionWords.{Token, word, both, either, same, differs, brace, comma, quote}
use Rattle.power_states.specs.Expressions.{Language, supply, logic, AreVoltageWords, IsSupplyValue, IsFunction, IsOne, AreBoth, AreEither, all_of, any_of}
use Rattle.state_terms.specs.declared.terms.Join.{Join}
use Rattle.state_terms.specs.declared.terms.Join.TheVariants.{Both, Either}
use Rattle.state_terms.specs.declared.terms.Speech.{Speech}
use Rattle.state_terms.specs.declared.terms.Speech.TheVariants.{Supply, Logic}

-- the language as a grammar has it
abbrev pub language_of : Speech → Language
language_of Supply = supply
language_of Logic = logic

-- a word, with or without a comma before it
pub data IsListed : List Token → List ℕ → List Token → Type 0 where
  plain : (text : List ℕ) (left : List Token) → IsListed (word text ∷ left) text left
  behind_comma : (text : List ℕ) (left : List Token) → IsListed (comma ∷ word text ∷ left) text left

-- Words up to a closing brace that stand, with those in front of them, for a voltage.
pub record AreVolts (front : List (List ℕ)) (tokens : List Token) (v : ℕ) (left : List Token) : Type 0 where
  pub words : List (List ℕ)
  pub behind : AreVoltageWords tokens words left
  pub means : IsVoltage (front ++ words) v

-- a voltage in braces, as `{FULL_ON 0.8}`
pub data IsLiteral : List Token → ℕ → List Token → Type 0 where
  full_on : (rest left : List Token) (v : ℕ) → AreVolts [] rest v left → IsLiteral (brace ∷ word (codes "FULL_ON") ∷ rest) v left

-- a literal, with or without a back quote in front
pub data IsQuoted : List Token → ℕ → List Token → Type 0 where
  bare : (tokens left : List Token) (v : ℕ) → IsLiteral tokens v left → IsQuoted tokens v left
  behind_quote : (tokens left : List Token) (v : ℕ) → IsLiteral tokens v left → IsQuoted (quote ∷ tokens) v left

-- what one word says of a function: off, or on at any voltage
pub data IsLevel (power : Bool) : List ℕ → Term → Type 0 where
  off : IsLevel power (codes "OFF") (Volt power OffValue)
  on : IsLevel power (codes "FULL_ON") (On power)

-- `==`, or `!=`
abbrev pub sign_of : Bool → Token
sign_of true = same
sign_of false = differs

-- the term, or its opposite
abbrev pub signed : Bool → Term → Term
signed true term = term
signed false term = Not term

-- what this word is compared with, and the term that says so
pub data IsSide : Language → List ℕ → List Token → Term → List Token → Type 0 where
  a_state : (object state : List ℕ) (left : List Token) → IsSide logic object (word state ∷ left) (Is object state) left
  a_value : (function : List ℕ) (power : Bool) (rest left : List Token) (term : Term) → IsFunction function power → IsSupplyValue power rest term left
      → IsSide supply function rest term left

-- the mark between parts
abbrev pub mark_of : Join → Token
mark_of Both = both
mark_of Either = either

-- the parts as one term
abbrev pub joined : Join → List Term → Term
joined Both terms = all_of terms
joined Either terms = any_of terms

-- parts that are joined
abbrev pub AreJoined : Language → Join → ℕ → List Token → List Term → List Token → Type 0
AreJoined language Both depth tokens terms left = AreBoth language depth tokens terms left
AreJoined language Either depth tokens terms left = AreEither language depth tokens terms left

-- parts that are joined, as one term
pub record IsJoined (language : Language) (join : Join) (depth : ℕ) (tokens : List Token) (term : Term) (left : List Token) : Type 0 where
  pub parts : List Term
  pub are : AreJoined language join depth tokens parts left
  pub whole : term ≡ joined join parts

-- one of the parts that are joined
abbrev pub IsPart : Language → Join → ℕ → List Token → Term → List Token → Type 0
IsPart language Both depth tokens term left = IsOne language depth tokens term left
IsPart language Either depth tokens term left = IsJoined language Both depth tokens term left
