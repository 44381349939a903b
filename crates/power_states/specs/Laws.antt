-- A text is one term at most, and a term stands for one condition or names one state that isn't there.
use Rattle.std.specs.Prelude.{◌≡◌, ℕ, List}
use Rattle.pw_defs.specs.declared.conditions.Cond.{Cond}
use Rattle.pw_defs.specs.declared.terms.Term.{Term}
use Rattle.pw_defs.specs.declared.terms.TermNames.{TermNames}
use Rattle.power_states.specs.Expressions.{Language, ReadsAsTerm}
use Rattle.power_states.specs.TermMeaning.{Means, Meaning}

-- the law of expressions
abbrev pub ExpressionsReadInOneWay : Type 0
ExpressionsReadInOneWay = (language : Language) (text : List ℕ) (t u : Term) → ReadsAsTerm language text t → ReadsAsTerm language text u → t ≡ u

-- the law of their meaning
abbrev pub TermsMeanOneThing : Type 0
TermsMeanOneThing = (names : TermNames) (term : Term) (m n : Meaning Cond) → Means names term m → Means names term n → m ≡ n
