-- There is one answer.
use Rattle.std.specs.Prelude.{◌≡◌, ℕ, List}
use Rattle.upf_sign.specs.declared.answers.Answer.{Answer}
use Rattle.upf_sign.specs.Answers.{IsAnswer}

-- two answers to the texts of a library, a netlist and a script are the same
abbrev pub HasOneAnswer : Type 0
HasOneAnswer = (library netlist script top : List ℕ) (a b : Answer) → IsAnswer library netlist script top a → IsAnswer library netlist script top b → a ≡ b
