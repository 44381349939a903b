-- A line that is run, or why it isn't.
use Rattle.script_defs.specs.ReadStatements.{readers}
use Rattle.script_runs.proofs.LeadingLemmas.{line_goes_on, line_stops, opened_can}
use Rattle.script_runs.proofs.running.run_line.Goals as goal

pub returns-in-Ok-clause-room : goal.returns-in-Ok-clause-room
returns-in-Ok-clause-room g c = opened_can _ _ _ _ _ _ _ c.in-Ok.ensures.ran

pub returns-in-Ok-clause-goes_on : goal.returns-in-Ok-clause-goes_on
returns-in-Ok-clause-goes_on g c = λ held. line_goes_on readers held _ _ _ _ _ _ _ c.in-Ok.ensures.ran

pub returns-in-Err-clause-stop : goal.returns-in-Err-clause-stop
returns-in-Err-clause-stop g c = line_stops readers _ _ _ _ c.in-Err.fault _ c.from.ensures c.in-Err.ensures.stop
