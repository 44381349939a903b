use Rattle.std.proofs.Common.{◌≡◌, ◌+◌, ◌-◌, suc, sym, ap, ◌∙◌, true, Ok, arith}
use Rattle.std.proofs.lemmas.Result.{err_from_is_err_and}
use Rattle.text_defs.specs.Grammar.{read}
use Rattle.text_defs.specs.Phrases.{many}
use Rattle.text_defs.specs.Tokens.{of_class, one_of}
use Rattle.lib_cells.specs.Groups.{is_plain_word, most}
use Rattle.lib_cells.specs.Kept.{are_some}
use Rattle.lib_cells.specs.Streams.{word_view}
use Rattle.lib_cells.proofs.KeptLaws.{are_some_behind, failed, row_end, row_fault, row_on, shown, some_more, some_none, stopped_by}
use Rattle.lib_cells.proofs.phrases.plain_words.Goals as goal

pub returns-in_err-one-clause-answers : goal.returns-in_err-one-clause-answers
returns-in_err-one-clause-answers c =
    let p = err_from_is_err_and c.from_residual.result c.from_residual.ensures.1 in
    let n : 4294967295 - c.loop-count.count ≡ suc (4294967295 - c.loop-count.count - 1) = omega (arith, c.if-count.false, c.loop-count.auto.count-fits) in
    rw (p.1, p.2)
    (stopped_by word_view (λ any. any) are_some (one_of is_plain_word) (many most (of_class is_plain_word) (one_of is_plain_word)) c.loop-count.tokens c.args.tokens.now c.one.new.self
    c.in_err-one.field-0.0 c.in_err-one.ensures.answers
    (λ e. failed are_some (read (many most (of_class is_plain_word) (one_of is_plain_word)) c.args.tokens.now) c.one.new.self (sym c.loop-count.invariant.kept ∙ row_fault (of_class is_plain_word) (one_of is_plain_word) (are_some_behind c.loop-count.any)
    (4294967295 - c.loop-count.count) (4294967295 - c.loop-count.count - 1) c.loop-count.tokens c.one.new.self n (sym c.is_next.ensures ∙ c.loop-count-test.true) e)))

pub loop-count-preserved : goal.loop-count-preserved
loop-count-preserved c =
    let n : 4294967295 - c.loop-count.count ≡ suc (4294967295 - (c.loop-count.count + 1)) = omega (arith, c.if-count.false, c.loop-count.auto.count-fits) in
    record {
      kept =
          row_on (of_class is_plain_word) (one_of is_plain_word) (are_some_behind c.loop-count.any) (are_some_behind true) (4294967295 - c.loop-count.count) (4294967295 - (c.loop-count.count + 1))
          c.loop-count.tokens c.one.new.self _ n (sym c.is_next.ensures ∙ c.loop-count-test.true) c.in_ok-one.ensures.answers (λ _. some_more c.loop-count.any)
          ∙ c.loop-count.invariant.kept;
      longer = omega (arith, c.in_ok-one.ensures.shorter, c.loop-count.invariant.longer);
    }

pub returns-clause-answers : goal.returns-clause-answers
returns-clause-answers c =
    shown are_some (read (many most (of_class is_plain_word) (one_of is_plain_word)) c.args.tokens.now) c.loop-count.any c.loop-count.tokens
    (sym c.loop-count.invariant.kept
    ∙ row_end (of_class is_plain_word) (one_of is_plain_word) (are_some_behind c.loop-count.any) (4294967295 - c.loop-count.count) c.loop-count.tokens (sym c.is_next.ensures ∙ c.loop-count-test.false)
    ∙ ap (λ b. Ok (b, c.loop-count.tokens)) (sym (some_none c.loop-count.any)))
