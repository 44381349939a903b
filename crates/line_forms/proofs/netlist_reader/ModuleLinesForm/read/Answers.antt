use Rattle.line_forms.proofs.Laws.{shorter}
use Rattle.line_forms.proofs.NetlistLaws.{module_finds, module_size}
use Rattle.line_forms.proofs.netlist_reader.ModuleLinesForm.read.Goals as goal

pub returns-clause-shorter : goal.returns-clause-shorter
returns-clause-shorter c = shorter module_finds module_size c.args.text.now c.module.result c.module.ensures
