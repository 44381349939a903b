use Rattle.std.proofs.Common.{ap, map, ◌∙◌, ◌++◌, ◌∷◌, []}
use Rattle.std.proofs.lemmas.Result.{err_from_is_err_and}
use Rattle.net_text.specs.NetlistGrammar.{connection}
use Rattle.net_text.specs.ItemViews.{itself}
use Rattle.text_streams.proofs.AnswerLaws.{stopped_first}
use Rattle.net_text.proofs.ListLaws.{list_stops, list_read}
use Rattle.net_text.proofs.items.connection_list.Goals as goal

pub returns-in_err-first-clause-answers : goal.returns-in_err-first-clause-answers
returns-in_err-first-clause-answers c =
    let p = err_from_is_err_and c.from_residual.result c.from_residual.ensures.1 in
    rw (p.1, p.2)
    (stopped_first itself (map itself) (connection) _ c.args.tokens.now c.connection.new.tokens c.in_err-first.field-0.0 c.in_err-first.ensures.answers
    (list_stops (connection) c.args.tokens.now c.connection.new.tokens))

pub returns-clause-answers : goal.returns-clause-answers
returns-clause-answers c =
    list_read itself (connection) c.args.tokens.now c.connection.new.tokens c.in_ok-first.first c.push.new.self c.more_connections.result c.more_connections.new.tokens
    c.in_ok-first.ensures.answers (c.in_ok-push.ensures.ok ∙ ap (λ l. l ++ c.in_ok-first.first ∷ []) c.new-all.ensures) c.more_connections.ensures.answers
