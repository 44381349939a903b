-- A fault of the words is the first.
use Rattle.script_defs.specs.ReadStatements.{readers}
use Rattle.script_runs.proofs.Stopping.{reading_stops}
use Rattle.script_runs.proofs.fetching.read_lines.Goals as goal

pub returns-in-Err-clause-stop : goal.returns-in-Err-clause-stop
returns-in-Err-clause-stop c =
    reading_stops readers c.args.name.now c.args.text.now c.in-Err.fault c.text_refusal.result c.stop_of.result c.in-Err.ensures.err c.text_refusal.ensures c.stop_of.ensures
