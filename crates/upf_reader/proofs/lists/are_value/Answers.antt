use Rattle.std.proofs.Common.{sym, ◌∙◌}
use Rattle.upf_reader.proofs.ListLemmas.{off_so, value_so}
use Rattle.upf_reader.proofs.WordLemmas.{says_yes}
use Rattle.upf_reader.proofs.lists.are_value.Goals as goal

pub returns-then-is_off : goal.returns-then-is_off
returns-then-is_off c = says_yes c.is_off.result c.if-is_off.true (off_so c.args.words.now (sym c.is_off.ensures ∙ c.if-is_off.true))

pub returns-else-is_off : goal.returns-else-is_off
returns-else-is_off c = value_so c.args.words.now c.are_voltage.result (sym c.is_off.ensures ∙ c.if-is_off.false) c.are_voltage.ensures
