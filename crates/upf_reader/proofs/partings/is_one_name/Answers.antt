use Rattle.std.proofs.Common.{subst}
use Rattle.upf_reader.specs.Readings.{HasParting}
use Rattle.upf_reader.proofs.WordLemmas.{one_name_so, no_name_so}
use Rattle.upf_reader.proofs.partings.is_one_name.Goals as goal

pub returns-in-Words : goal.returns-in-Words
returns-in-Words c =
    one_name_so c.args.word.now c.in-Words.words c.len.result (subst (HasParting c.args.word.now) c.in-Words.is c.in_ok-words.ensures) c.len.ensures

pub returns-in_default : goal.returns-in_default
returns-in_default c = no_name_so c.args.word.now c.in_ok-words.field-0 c.in_ok-words.ensures c.in_default.not-Words
