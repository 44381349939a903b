use Rattle.std.proofs.Common.{sym, map, ◌∙◌, [], length, ◌<◌, arith}
use Rattle.std.proofs.lemmas.Result.{err_from_is_err_and}
use Rattle.text_defs.specs.Phrases.{many}
use Rattle.text_defs.specs.Tokens.{of_class}
use Rattle.net_text.specs.NetlistClasses.{is_comma}
use Rattle.net_text.specs.NetlistGrammar.{most, further_port}
use Rattle.net_text.specs.HeaderViews.{port_view}
use Rattle.text_streams.proofs.AnswerLaws.{kept_on}
use Rattle.net_text.proofs.ListLaws.{row_stopped, row_begins, row_fault, row_end}
use Rattle.net_text.proofs.headers.further_ports.Goals as goal

pub loop-all-init : goal.loop-all-init
loop-all-init c = record {
  kept = row_begins port_view (of_class is_comma) further_port c.new-all.result c.args.tokens.now c.args.tokens.now c.new-all.ensures;
  longer = omega arith;
}

pub returns-in_err-port-clause-answers : goal.returns-in_err-port-clause-answers
returns-in_err-port-clause-answers c =
    let p = err_from_is_err_and c.from_residual.result c.from_residual.ensures.1 in
    let lt : length c.loop-all.all < 4294967295 = omega (arith, c.len.ensures, c.len.type_inv, c.if-len.false) in
    rw (p.1, p.2)
    (row_stopped port_view (map port_view) further_port (many most (of_class is_comma) further_port) c.args.tokens.now c.loop-all.tokens c.further_port.new.tokens
    c.in_err-port.field-0.0 c.in_err-port.ensures.answers
    (row_fault port_view (of_class is_comma) further_port c.loop-all.all c.args.tokens.now c.loop-all.tokens c.loop-all.invariant.kept c.further_port.new.tokens lt
    (sym c.is_next.ensures ∙ c.loop-all-test.true)))

pub loop-all-preserved : goal.loop-all-preserved
loop-all-preserved c =
    let lt : length c.loop-all.all < 4294967295 = omega (arith, c.len.ensures, c.len.type_inv, c.if-len.false) in
    record {
      kept =
          kept_on port_view (of_class is_comma) further_port 4294967295 [] c.loop-all.all c.args.tokens.now c.loop-all.tokens c.loop-all.invariant.kept
          c.further_port.new.tokens c.in_ok-port.port c.push.new.self lt (sym c.is_next.ensures ∙ c.loop-all-test.true) c.in_ok-port.ensures.answers
          c.in_ok-push.ensures.ok;
      longer = omega (arith, c.in_ok-port.ensures.shorter, c.loop-all.invariant.longer);
    }

pub returns-clause-answers : goal.returns-clause-answers
returns-clause-answers c =
    row_end port_view (of_class is_comma) further_port c.loop-all.all c.args.tokens.now c.loop-all.tokens c.loop-all.invariant.kept
    (sym c.is_next.ensures ∙ c.loop-all-test.false)
