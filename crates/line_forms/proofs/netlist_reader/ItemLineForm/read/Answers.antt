use Rattle.line_forms.proofs.Laws.{shorter}
use Rattle.line_forms.proofs.NetlistLaws.{item_finds, item_size}
use Rattle.line_forms.proofs.netlist_reader.ItemLineForm.read.Goals as goal

pub returns-clause-shorter : goal.returns-clause-shorter
returns-clause-shorter c = shorter item_finds item_size c.args.text.now c.item.result c.item.ensures
