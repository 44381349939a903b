use Rattle.std.proofs.Common.{ap, refl, ◌∙◌}
use Rattle.line_forms.specs.Reading.{whole}
use Rattle.line_forms.specs.ScriptReading.{script_at}
use Rattle.line_forms.proofs.Laws.{read_is, taken, whole_again}
use Rattle.line_forms.proofs.ScriptLaws.{script_finds, script_again}
use Rattle.line_forms.proofs.script_reader.read_script.Goals as goal

pub returns-clause-found : goal.returns-clause-found
returns-clause-found c = read_is script_finds c.args.text.now c.script.result c.script.ensures

pub returns-clause-only : goal.returns-clause-only
returns-clause-only c =
    λ x is spelled. taken c.script.result (whole script_at c.args.text.now) x c.script.ensures (ap (whole script_at) spelled ∙ whole_again script_again (tt, refl) x is)
