use Rattle.std.proofs.Common.{subst, sym}
use Rattle.upf_commands.specs.Commands.{HasKey}
use Rattle.upf_reader.specs.Readings.{HasParting}
use Rattle.upf_reader.proofs.KeyLemmas.{no_key_so, empty_so, first_so}
use Rattle.upf_reader.proofs.keys.key_of.Goals as goal

pub returns-in_default : goal.returns-in_default
returns-in_default c = no_key_so c.args.text.now c.in_ok-words.field-0 c.in_ok-words.ensures c.in_default.not-Words

pub returns-in_default-get : goal.returns-in_default-get
returns-in_default-get c =
    empty_so c.args.text.now c.in-Words.words (subst (HasParting c.args.text.now) c.in-Words.is c.in_ok-words.ensures) c.in_default-get.ensures

pub returns : goal.returns
returns c =
    subst (HasKey c.args.text.now) (sym c.in_ok-clone.ensures.cases)
    (first_so c.args.text.now c.in-Words.words c.in-Some.key.now (subst (HasParting c.args.text.now) c.in-Words.is c.in_ok-words.ensures) c.in-Some.ensures)
