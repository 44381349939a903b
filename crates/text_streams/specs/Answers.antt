-- What a parser answers over the tokens that are left: what the grammar reads, and the tokens behind it, or those at the
-- fault. Want of memory may come in place of any answer.
--
-- A parser takes `&mut` a stream whose model is the list of the tokens left, and ensures `Answers view g s.old result s.new`,
-- where `view` says what the grammar sees in its result. With `unfolding(text_defs::specs::Grammar::read)` most parsers by
-- `?` prove by themselves. A loop ensures `Gives view (with_front (view front) (read (many ..) s.old)) result s.new`, and
-- keeps `Keeps` of `proofs/AnswerLaws`, whose `kept_on`, `kept_fault` and `kept_end` answer its goals.
use Rattle.std.specs.Prelude.{◌≡◌, List, ◌++◌, Result, Ok, Err}
use Rattle.text_defs.specs.Grammar.{Grammar, Reading, read}
use Rattle.text_streams.specs.declared.stops.Stop.{Stop}
use Rattle.text_streams.specs.declared.stops.Stop.TheVariants as stops

-- the answer is the reading, and these tokens are left
abbrev pub Gives : {K X A : Type 0} → (X → A) → Reading K A → Result X Stop → List K → Type 0
Gives view reading (Ok x) new = reading ≡ Ok (view x, new)
Gives view reading (Err stops.Fault) new = reading ≡ Err new
Gives view reading (Err stops.Memory) new = Unit {0}

-- the answer is what the grammar reads of the old tokens
abbrev pub Answers : {K X A : Type 0} → (X → A) → Grammar K A → List K → Result X Stop → List K → Type 0
Answers view g old result new = Gives view (read g old) result new

-- what was read before stands in front
abbrev pub with_front : {K A : Type 0} → List A → Reading K (List A) → Reading K (List A)
with_front front (Ok p) = Ok (front ++ p.0, p.1)
with_front front (Err left) = Err left
