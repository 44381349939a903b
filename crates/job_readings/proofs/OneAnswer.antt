-- A job has one answer, where what is read makes sound designs and sound intents.
use Rattle.std.proofs.Common.{[], sym, subst}
use Rattle.pw_outer.specs.Fetches.{Files}
use Rattle.design_defs.specs.DesignFaults.{sources}
use Rattle.design_defs.specs.Inputs.{AreReadSources}
use Rattle.job_defs.specs.FileFaults.{modules_of}
use Rattle.job_defs.specs.Jobs.{Job}
use Rattle.job_defs.specs.Laws.{IsSoundLoad}
use Rattle.job_defs.specs.Loading.{Loaded}
use Rattle.job_defs.proofs.OneAnswer.{one_answer}
use Rattle.job_readings.specs.Laws.{DeserveOneAnswer, ReadingIsSound}
use Rattle.job_readings.specs.Readings.{readers, IsLoadOf}
use Rattle.job_readings.proofs.ExactReadings.{readers_are_exact}
use Rattle.job_readings.proofs.ReadSources.{sources_are_read}

-- What a job loads is sound.
pub loads_are_sound : ReadingIsSound → (files : Files) (job : Job) (load : Loaded) → IsLoadOf files job load → IsSoundLoad load
loads_are_sound sound files job load given =
    let from_libraries = given.2 in
    let from_netlists = from_libraries.2 in
    let elaborated = from_netlists.2 in
    let scripted = elaborated.2 in
    let fit : AreReadSources (sources (modules_of from_netlists.0) from_libraries.0 [] job.top) =
    sources_are_read files job from_libraries.0 from_netlists.0 from_libraries.1 from_netlists.1 in
    let design = sound.designs (modules_of from_netlists.0) from_libraries.0 job.top elaborated.0 fit elaborated.1 in
    let fact : IsSoundLoad (record { design = elaborated.0; intent = scripted.0 }) = record {
      design = design;
      intent = sound.intents files elaborated.0 job.script scripted.0 design scripted.1;
      check = scripted.1.intent.want_is;
    } in
    subst IsSoundLoad (sym scripted.2) fact

-- words deserve one answer over the files of a shelf
pub one_answer_is_deserved : DeserveOneAnswer
one_answer_is_deserved sound words files a b p q = one_answer readers readers_are_exact (loads_are_sound sound) words files a b p q
