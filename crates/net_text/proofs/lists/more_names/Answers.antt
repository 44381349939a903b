use Rattle.std.proofs.Common.{sym, map, ◌∙◌, length, ◌<◌, arith}
use Rattle.std.proofs.lemmas.Result.{err_from_is_err_and}
use Rattle.text_defs.specs.Tokens.{of_class}
use Rattle.net_text.specs.NetlistClasses.{is_comma}
use Rattle.net_text.specs.NetlistGrammar.{name}
use Rattle.net_text.specs.CommaLists.{named_view, comma_then}
use Rattle.text_streams.proofs.AnswerLaws.{stopped, kept_on}
use Rattle.net_text.proofs.ListLaws.{further_fault, further_end}
use Rattle.net_text.proofs.lists.more_names.Goals as goal

pub returns-in_err-name-clause-answers : goal.returns-in_err-name-clause-answers
returns-in_err-name-clause-answers c =
    let p = err_from_is_err_and c.from_residual.result c.from_residual.ensures.1 in
    let lt : length c.loop-all.all < 4294967296 = omega (arith, c.len.ensures, c.len.type_inv) in
    rw (p.1, p.2)
    (stopped named_view (map named_view) (comma_then (name)) c.loop-all.tokens c.comma_name.new.tokens _ c.in_err-name.field-0.0 c.in_err-name.ensures.answers
    (further_fault named_view (name) _ c.loop-all.all _ c.loop-all.tokens c.loop-all.invariant.kept c.requires c.comma_name.new.tokens lt
    (sym c.is_next.ensures ∙ c.loop-all-test.true)))

pub loop-all-preserved : goal.loop-all-preserved
loop-all-preserved c =
    let lt : length c.loop-all.all < 4294967296 = omega (arith, c.len.ensures, c.len.type_inv) in
    record {
      kept =
          kept_on named_view (of_class is_comma) (comma_then (name)) 4294967296 _ c.loop-all.all _ c.loop-all.tokens c.loop-all.invariant.kept
          c.comma_name.new.tokens c.in_ok-name.name c.push.new.self lt (sym c.is_next.ensures ∙ c.loop-all-test.true) c.in_ok-name.ensures.answers
          c.in_ok-push.ensures.ok;
      longer = omega (arith, c.in_ok-name.ensures.shorter, c.loop-all.invariant.longer);
    }

pub returns-clause-answers : goal.returns-clause-answers
returns-clause-answers c =
    further_end named_view (name) _ c.loop-all.all _ c.loop-all.tokens c.loop-all.invariant.kept c.requires (sym c.is_next.ensures ∙ c.loop-all-test.false)
