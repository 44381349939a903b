use Rattle.std.proofs.Common.{◌∙◌, sym}
use Rattle.upf_commands.specs.Voltages.{on}
use Rattle.upf_statements.proofs.ValueLemmas.{not_off}
use Rattle.upf_statements.proofs.lists.supply_value.Goals as goal

pub voltage-requires : goal.voltage-requires
voltage-requires c = not_off c.args.words.now c.requires.0 c.requires.1 (sym c.is_off.ensures ∙ c.if-is_off.false)

pub returns-else-is_off : goal.returns-else-is_off
returns-else-is_off c = on c.args.words.now c.voltage.result c.voltage.ensures
