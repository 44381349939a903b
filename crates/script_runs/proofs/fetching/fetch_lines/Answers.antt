-- A file whose words have a fault.
use Rattle.script_defs.specs.ReadStatements.{readers}
use Rattle.script_runs.proofs.Stopping.{on_err, fetched_stops}
use Rattle.script_runs.proofs.fetching.fetch_lines.Goals as goal

pub returns-clause-stop : goal.returns-clause-stop
returns-clause-stop g c =
    on_err _ (λ fault stops. fetched_stops readers _ c.args.name.now c.in_ok-text.text.items c.as_slice.result.now _ _ fault c.in_ok-text.ensures.text
    c.as_slice.ensures.value stops) c.read_lines.ensures.stop
