use Rattle.upf_reader.proofs.WordLemmas.{ends_so, ends_not}
use Rattle.upf_reader.proofs.words.ends_with.Goals as goal

pub returns-in-Some : goal.returns-in-Some
returns-in-Some c =
    ends_so c.args.word.now c.args.ending.now c.is_empty.result c.strip_suffix.result c.in-Some.front c.in-Some.is c.strip_suffix.ensures.cases
    c.is_empty.ensures

pub returns-in-None : goal.returns-in-None
returns-in-None c = ends_not c.args.word.now c.args.ending.now c.strip_suffix.result c.in-None.is c.strip_suffix.ensures.cases
