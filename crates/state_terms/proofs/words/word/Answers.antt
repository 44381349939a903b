use Rattle.std.proofs.Common.{◌<◌, length, ap, ◌∙◌, arith}
use Rattle.std.specs.List.{list_all}
use Rattle.power_states.specs.ExpressionWords.{word, is_word_byte, begins_with}
use Rattle.state_terms.proofs.FirstTokens.{word_first, begins_behind, no_word_first, no_word_behind}
use Rattle.state_terms.proofs.words.word.Goals as goal

pub returns-then-size-eq0 : goal.returns-then-size-eq0
returns-then-size-eq0 c =
    no_word_behind c.behind_white-text.result.now c.args.text.now c.behind_white-text.ensures.same
    (
    no_word_first c.behind_white-text.result.now c.behind_white-text.ensures.ink
    (rw c.if-size-eq0.true at c.word_size-size.ensures.behind)
    )

pub returns : goal.returns
returns c =
    let some : 0 < length c.split_at.result.0.now = omega (arith, c.split_at.ensures.front_len) in
    begins_behind c.behind_white-text.result.now c.args.text.now c.split_at.result.1.now (word c.split_at.result.0.now) c.behind_white-text.ensures.same
    c.behind_white-text.ensures.shorter
    (
    word_first c.behind_white-text.result.now c.split_at.result.0.now c.split_at.result.1.now c.split_at.ensures.by_index.0 c.behind_white-text.ensures.ink
    (ap (list_all is_word_byte) c.split_at.ensures.front ∙ c.word_size-size.ensures.word)
    (ap (begins_with is_word_byte) c.split_at.ensures.back ∙ c.word_size-size.ensures.behind) some
    )
