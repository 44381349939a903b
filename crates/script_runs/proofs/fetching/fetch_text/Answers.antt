-- A file that is too long.
use Rattle.script_defs.specs.ReadStatements.{readers}
use Rattle.script_runs.proofs.Stopping.{long_stops}
use Rattle.script_runs.proofs.fetching.fetch_text.Goals as goal

pub returns-in-Err-TooLong-clause-stop : goal.returns-in-Err-TooLong-clause-stop
returns-in-Err-TooLong-clause-stop g c =
    long_stops readers _ c.args.name.now c.fetch.new.into.items _ _ c.in-Err-TooLong.field-0 c.file_refusal-in-Err-TooLong.result
    c.stop_of-in-Err-TooLong.result c.in-Err-TooLong.field-0-is c.in-Err-TooLong.ensures.told c.in-Err-TooLong.ensures.cause c.file_refusal-in-Err-TooLong.ensures
    c.stop_of-in-Err-TooLong.ensures
