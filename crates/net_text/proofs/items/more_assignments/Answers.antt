use Rattle.std.proofs.Common.{sym, map, ◌∙◌, length, ◌<◌, arith}
use Rattle.std.proofs.lemmas.Result.{err_from_is_err_and}
use Rattle.text_defs.specs.Tokens.{of_class}
use Rattle.net_text.specs.NetlistClasses.{is_comma}
use Rattle.net_text.specs.NetlistGrammar.{assignment}
use Rattle.net_text.specs.CommaLists.{comma_then}
use Rattle.net_text.specs.ItemViews.{itself}
use Rattle.text_streams.proofs.AnswerLaws.{stopped, kept_on}
use Rattle.net_text.proofs.ListLaws.{further_fault, further_end}
use Rattle.net_text.proofs.items.more_assignments.Goals as goal

pub returns-in_err-assign-clause-answers : goal.returns-in_err-assign-clause-answers
returns-in_err-assign-clause-answers c =
    let p = err_from_is_err_and c.from_residual.result c.from_residual.ensures.1 in
    let lt : length c.loop-alloc.all < 4294967296 = omega (arith, c.len.ensures, c.len.type_inv) in
    rw (p.1, p.2)
    (stopped itself (map itself) (comma_then (assignment)) c.loop-alloc.tokens c.comma_assignment.new.tokens _ c.in_err-assign.field-0.0 c.in_err-assign.ensures.answers
    (further_fault itself (assignment) _ c.loop-alloc.all _ c.loop-alloc.tokens c.loop-alloc.invariant.kept c.requires c.comma_assignment.new.tokens lt
    (sym c.is_next.ensures ∙ c.loop-alloc-test.true)))

pub loop-alloc-preserved : goal.loop-alloc-preserved
loop-alloc-preserved c =
    let lt : length c.loop-alloc.all < 4294967296 = omega (arith, c.len.ensures, c.len.type_inv) in
    record {
      kept =
          kept_on itself (of_class is_comma) (comma_then (assignment)) 4294967296 _ c.loop-alloc.all _ c.loop-alloc.tokens c.loop-alloc.invariant.kept
          c.comma_assignment.new.tokens c.in_ok-assign.assign c.push.new.self lt (sym c.is_next.ensures ∙ c.loop-alloc-test.true) c.in_ok-assign.ensures.answers
          c.in_ok-push.ensures.ok;
      longer = omega (arith, c.in_ok-assign.ensures.shorter, c.loop-alloc.invariant.longer);
    }

pub returns-clause-answers : goal.returns-clause-answers
returns-clause-answers c =
    further_end itself (assignment) _ c.loop-alloc.all _ c.loop-alloc.tokens c.loop-alloc.invariant.kept c.requires (sym c.is_next.ensures ∙ c.loop-alloc-test.false)
