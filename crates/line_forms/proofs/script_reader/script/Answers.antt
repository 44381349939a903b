use Rattle.line_forms.specs.ScriptReading.{script_at}
use Rattle.line_forms.proofs.Laws.{whole_row}
use Rattle.line_forms.proofs.ScriptLaws.{command_finds}
use Rattle.line_forms.proofs.script_reader.script.Goals as goal

pub returns : goal.returns
unfolding script_at
returns c = whole_row command_finds c.args.text.now c.in_ok-commands.commands _ c.in_ok-commands.ensures
