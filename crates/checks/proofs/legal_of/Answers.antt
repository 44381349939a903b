use Rattle.std.proofs.Common.{◌∙◌}
use Rattle.checks.proofs.Reports.{legal_is}
use Rattle.checks.proofs.legal_of.Goals as goal

pub returns-clause-legal : goal.returns-clause-legal
returns-clause-legal c =
    legal_is c.args.intent.now c.as_slice.result.now c.as_slice-2.result.now c.legal.result (c.as_slice.ensures.value ∙ c.in_ok-lists.ensures) (c.as_slice-2.ensures.value ∙ c.in_ok-conds.ensures)
    c.requires.lists c.requires.rising c.legal.ensures.states c.legal.ensures.bound c.legal.ensures.legal c.legal.ensures.order
