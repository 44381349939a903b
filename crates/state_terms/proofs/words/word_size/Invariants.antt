use Rattle.std.proofs.Common.{◌≡◌, true, take}
use Rattle.std.specs.List.{list_all}
use Rattle.power_states.specs.ExpressionWords.{is_word_byte}
use Rattle.state_terms.proofs.words.word_size.Given as goal

-- a word may have the bytes so far
abbrev pub invariant-loop-at : goal.invariant-loop-at
invariant-loop-at l = list_all is_word_byte (take l.at l.text) ≡ true
