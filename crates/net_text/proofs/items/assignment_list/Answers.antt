use Rattle.std.proofs.Common.{ap, map, ◌∙◌, ◌++◌, ◌∷◌, []}
use Rattle.std.proofs.lemmas.Result.{err_from_is_err_and}
use Rattle.net_text.specs.NetlistGrammar.{assignment}
use Rattle.net_text.specs.ItemViews.{itself}
use Rattle.text_streams.proofs.AnswerLaws.{stopped_first}
use Rattle.net_text.proofs.ListLaws.{list_stops, list_read}
use Rattle.net_text.proofs.items.assignment_list.Goals as goal

pub returns-in_err-first-clause-answers : goal.returns-in_err-first-clause-answers
returns-in_err-first-clause-answers c =
    let p = err_from_is_err_and c.from_residual.result c.from_residual.ensures.1 in
    rw (p.1, p.2)
    (stopped_first itself (map itself) (assignment) _ c.args.tokens.now c.assignment.new.tokens c.in_err-first.field-0.0 c.in_err-first.ensures.answers
    (list_stops (assignment) c.args.tokens.now c.assignment.new.tokens))

pub returns-clause-answers : goal.returns-clause-answers
returns-clause-answers c =
    list_read itself (assignment) c.args.tokens.now c.assignment.new.tokens c.in_ok-first.first c.push.new.self c.more_assignments.result c.more_assignments.new.tokens
    c.in_ok-first.ensures.answers (c.in_ok-push.ensures.ok ∙ ap (λ l. l ++ c.in_ok-first.first ∷ []) c.new-all.ensures) c.more_assignments.ensures.answers
