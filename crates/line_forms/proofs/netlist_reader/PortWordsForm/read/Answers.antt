use Rattle.std.proofs.Common.{arith}
use Rattle.line_forms.proofs.Laws.{shorter}
use Rattle.line_forms.proofs.NetlistLaws.{comma_port_finds}
use Rattle.line_forms.proofs.netlist_reader.PortWordsForm.read.Goals as goal

pub returns-clause-shorter : goal.returns-clause-shorter
returns-clause-shorter c = shorter comma_port_finds (λ x is. omega arith) c.args.text.now c.port.result (rw c.in_ok-expect_word.ensures c.port.ensures)
