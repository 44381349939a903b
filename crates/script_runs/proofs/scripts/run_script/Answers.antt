-- A script has one answer.
use Rattle.script_defs.specs.ReadStatements.{readers}
use Rattle.script_defs.proofs.ExactReaders.{readers_are_exact}
use Rattle.script_runs.proofs.ScriptLemmas.{runs_there, stops_there}
use Rattle.script_runs.proofs.scripts.run_script.Goals as goal

pub returns-clause-runs_there : goal.returns-clause-runs_there
returns-clause-runs_there g c = runs_there readers readers_are_exact _ _ _ _ _ _ _ _ c.run_text.ensures.runs c.run_text.ensures.stop

pub returns-clause-stops_there : goal.returns-clause-stops_there
returns-clause-stops_there g c = stops_there readers readers_are_exact _ _ _ _ _ _ _ _ c.run_text.ensures.runs c.run_text.ensures.stop
