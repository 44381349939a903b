use Rattle.std.proofs.Common.{arith}
use Rattle.line_forms.proofs.Laws.{shorter}
use Rattle.line_forms.proofs.NetlistLaws.{comma_conn_finds}
use Rattle.line_forms.proofs.netlist_reader.ConnWordsForm.read.Goals as goal

pub returns-clause-shorter : goal.returns-clause-shorter
returns-clause-shorter c = shorter comma_conn_finds (λ x is. omega arith) c.args.text.now c.conn.result (rw c.in_ok-expect_word.ensures c.conn.ensures)
