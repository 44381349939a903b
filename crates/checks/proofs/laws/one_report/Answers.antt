use Rattle.checks.proofs.OneReport as lemmas
use Rattle.checks.proofs.laws.one_report.Goals as goal

pub returns : goal.returns
returns c = lemmas.one_report c.one_walk.ensures
