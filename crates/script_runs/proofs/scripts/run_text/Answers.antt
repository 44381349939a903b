-- Lines that stop are those of the script.
use Rattle.script_defs.specs.ReadStatements.{readers}
use Rattle.script_runs.proofs.ScriptLemmas.{script_stops}
use Rattle.script_runs.proofs.scripts.run_text.Goals as goal

pub returns-clause-stop : goal.returns-clause-stop
returns-clause-stop g c =
    script_stops readers _ (g.L.LineSteps.design c.args.steps.now) c.args.name.now c.args.text.now _ _ _ c.in_ok-frame.ensures c.requires c.in_ok-lines.ensures.lines _ _ _
    c.run_lines.ensures.stop
