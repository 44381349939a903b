use Rattle.upf_sign.proofs.OneAnswer as lemmas
use Rattle.upf_sign.proofs.laws.one_answer.Goals as goal

pub returns : goal.returns
returns c = lemmas.one_answer c.one_report.ensures
