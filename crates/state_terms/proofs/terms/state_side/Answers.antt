use Rattle.state_terms.proofs.Comparisons.{state_read, state_lacks}
use Rattle.state_terms.proofs.terms.state_side.Goals as goal

pub returns-in_default-clause-lacks : goal.returns-in_default-clause-lacks
returns-in_default-clause-lacks c = state_lacks c.args.object.now c.args.text.now c.in_default.ensures

pub returns-clause-reads : goal.returns-clause-reads
returns-clause-reads c =
    state_read c.args.object.now c.args.text.now c.in-Some.state.now c.in-Some.rest.now c.in_ok-left.left c.in_ok-state.state c.in_ok-left.ensures c.in_ok-state.ensures
    c.in-Some.ensures
