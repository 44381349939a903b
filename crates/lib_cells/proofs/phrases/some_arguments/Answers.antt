use Rattle.std.proofs.Common.{◌∷◌, ◌++◌, ◌∙◌, [], List, ap, map}
use Rattle.std.proofs.lemmas.Result.{err_from_is_err_and}
use Rattle.text_defs.specs.Tokens.{one_of}
use Rattle.text_streams.proofs.AnswerLaws.{stopped_first}
use Rattle.lib_cells.specs.Groups.{is_word, some_arguments}
use Rattle.lib_cells.specs.Streams.{text_of, word_view}
use Rattle.lib_cells.specs.declared.lexer.Word.{Word}
use Rattle.lib_cells.proofs.TokenLaws.{some_read, some_stop}
use Rattle.lib_cells.proofs.phrases.some_arguments.Goals as goal

pub returns-in_err-first-clause-answers : goal.returns-in_err-first-clause-answers
returns-in_err-first-clause-answers c =
    let p = err_from_is_err_and c.from_residual.result c.from_residual.ensures.1 in
    rw (p.1, p.2)
    (stopped_first word_view (map text_of) (one_of is_word) some_arguments c.args.tokens.now c.one.new.self c.in_err-first.field-0.0 c.in_err-first.ensures.answers
    (some_stop c.args.tokens.now c.one.new.self))

pub returns-clause-answers : goal.returns-clause-answers
returns-clause-answers c =
    some_read c.args.tokens.now c.one.new.self c.in_ok-first.first c.push.new.self c.more_arguments.result c.more_arguments.new.tokens c.in_ok-first.ensures.answers
    (c.in_ok-push.ensures.ok ∙ ap (λ (l : List Word). l ++ c.in_ok-first.first ∷ []) c.new-all.ensures) c.more_arguments.ensures.answers
