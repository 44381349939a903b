use Rattle.line_forms.proofs.Laws.{shorter}
use Rattle.line_forms.proofs.ScriptLaws.{state_finds, state_size}
use Rattle.line_forms.proofs.script_reader.StateWordsForm.read.Goals as goal

pub returns-clause-shorter : goal.returns-clause-shorter
returns-clause-shorter c = shorter state_finds state_size c.args.text.now c.state.result c.state.ensures
