use Rattle.state_terms.proofs.VoltageWords.{listed_here, listed_behind}
use Rattle.state_terms.proofs.voltages.listed_word.Goals as goal

pub returns-in-Some : goal.returns-in-Some
returns-in-Some c = listed_behind c.args.text.now c.in-Some.rest.now c.word.result c.in-Some.ensures c.word.ensures

pub returns-in-None : goal.returns-in-None
returns-in-None c = listed_here c.args.text.now c.word-in-None.result c.in-None.ensures c.word-in-None.ensures
