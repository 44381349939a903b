use Rattle.state_terms.proofs.FirstTokens.{at_end_told}
use Rattle.state_terms.proofs.words.is_at_end.Goals as goal

pub returns : goal.returns
returns c = at_end_told c.behind_white.result.now c.args.text.now c.is_empty.result c.behind_white.ensures.same c.behind_white.ensures.ink c.is_empty.ensures
