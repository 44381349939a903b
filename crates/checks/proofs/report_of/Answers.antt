use Rattle.std.proofs.Common.{map, min, sum_by, ap, ◌∙◌}
use Rattle.checks.specs.LineChains.{chains}
use Rattle.checks.specs.Ends.{ends_of}
use Rattle.checks.specs.Judging.{findings_of}
use Rattle.checks.proofs.Reports.{report_is, sorted_whole}
use Rattle.checks.proofs.report_of.Goals as goal

pub returns-clause-report : goal.returns-clause-report
returns-clause-report c =
    report_is c.args.design.now c.args.intent.now c.args.states.now c.in_ok-walks.walks c.in_ok-chains.chains c.in_ok-found.found.items _ c.requires.legal c.in_ok-walks.ensures
    (c.in_ok-chains.ensures ∙ ap (chains c.args.design.now) c.as_slice.ensures.items)
    (c.in_ok-found.ensures ∙ ap (λ l. findings_of c.args.design.now c.args.intent.now c.args.states.now (map ends_of l)) c.as_slice-2.ensures.items)
    c.in_ok-top_name.ensures c.len.ensures (c.passed.ensures ∙ ap (λ l. min (sum_by (λ u. u.passed) l) 4294967295) c.as_slice-3.ensures.items) c.new.ensures c.in_ok-visible_of.ensures c.in_ok-in_order.ensures

pub returns-clause-whole : goal.returns-clause-whole
returns-clause-whole c =
    sorted_whole c.args.design.now c.args.intent.now c.args.states.now (map ends_of c.as_slice-2.result.now) c.in_ok-found.found.items c.in_ok-in_order.field-0 c.in_ok-visible_of.field-0
    c.requires.legal c.in_ok-found.ensures c.in_ok-in_order.ensures.same c.in_ok-visible_of.ensures
