use Rattle.line_forms.specs.NetlistReading.{netlist_at}
use Rattle.line_forms.proofs.Laws.{whole_row}
use Rattle.line_forms.proofs.NetlistLaws.{module_finds}
use Rattle.line_forms.proofs.netlist_reader.netlist.Goals as goal

pub returns : goal.returns
unfolding netlist_at
returns c = whole_row module_finds c.args.text.now c.in_ok-modules.modules _ c.in_ok-modules.ensures
