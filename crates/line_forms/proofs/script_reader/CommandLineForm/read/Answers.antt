use Rattle.line_forms.proofs.Laws.{shorter}
use Rattle.line_forms.proofs.ScriptLaws.{command_finds, command_size}
use Rattle.line_forms.proofs.script_reader.CommandLineForm.read.Goals as goal

pub returns-clause-shorter : goal.returns-clause-shorter
returns-clause-shorter c = shorter command_finds command_size c.args.text.now c.command.result c.command.ensures
