use Rattle.std.proofs.Common.{map, string_bytes}
use Rattle.upf_sign.proofs.Finished as finished
use Rattle.upf_sign.proofs.Stopped as stopped
use Rattle.upf_sign.proofs.runs.run.Goals as goal

pub returns-in-Ok-clause-memory : goal.returns-in-Ok-clause-memory
returns-in-Ok-clause-memory g c = finished.is_memory _ _ _ _ _ _ _ _ _ _ _ _ _ c.deliver.ensures

pub returns-in-Ok-clause-usage_there : goal.returns-in-Ok-clause-usage_there
returns-in-Ok-clause-usage_there g c = λ none. absurd (none c.in-Ok.ensures.job.job c.in-Ok.ensures.job.is_job)

pub returns-in-Ok-clause-refused_there : goal.returns-in-Ok-clause-refused_there
returns-in-Ok-clause-refused_there g c =
    finished.is_faultless _ _ _ _ _ _ _ _ _ _ _ _ _ c.deliver.ensures (map string_bytes c.args.words.now) (g.S.Shelf.holds c.args.shelf.now) c.in-Ok.ensures.report c.one_answer.ensures
    (g.S.Shelf.counts c.args.shelf.now) (g.S.Shelf.counts c.plan.new.shelf)

pub returns-in-Ok-clause-answered_there : goal.returns-in-Ok-clause-answered_there
returns-in-Ok-clause-answered_there g c =
    finished.is_answered _ _ _ _ _ _ _ _ _ _ _ _ _ c.deliver.ensures (map string_bytes c.args.words.now) (g.S.Shelf.holds c.args.shelf.now) c.in-Ok.ensures.report c.one_answer.ensures
    (g.S.Shelf.counts c.args.shelf.now) (g.S.Shelf.counts c.plan.new.shelf)

pub returns-in-Err-clause-memory : goal.returns-in-Err-clause-memory
returns-in-Err-clause-memory g c = stopped.is_memory c.in-Err.stop _ _ _ _ _ c.tell.ensures

pub returns-in-Err-clause-usage_there : goal.returns-in-Err-clause-usage_there
returns-in-Err-clause-usage_there g c =
    stopped.is_no_job c.in-Err.stop _ _ _ _ _ c.tell.ensures (map string_bytes c.args.words.now) (g.S.Shelf.holds c.args.shelf.now) (g.S.Shelf.counts c.args.shelf.now)
    (g.S.Shelf.counts c.plan.new.shelf) c.in-Err.ensures.stop

pub returns-in-Err-clause-refused_there : goal.returns-in-Err-clause-refused_there
returns-in-Err-clause-refused_there g c =
    stopped.is_faulty c.in-Err.stop _ _ _ _ _ c.tell.ensures (map string_bytes c.args.words.now) (g.S.Shelf.holds c.args.shelf.now) (g.S.Shelf.counts c.args.shelf.now)
    (g.S.Shelf.counts c.plan.new.shelf) c.in-Err.ensures.stop c.one_answer.ensures (g.K.Sink.faults c.args.out.now) (g.K.Sink.faults c.args.out.now)

pub returns-in-Err-clause-answered_there : goal.returns-in-Err-clause-answered_there
returns-in-Err-clause-answered_there g c =
    stopped.is_answered c.in-Err.stop _ _ _ _ _ c.tell.ensures (map string_bytes c.args.words.now) (g.S.Shelf.holds c.args.shelf.now) (g.S.Shelf.counts c.args.shelf.now)
    (g.S.Shelf.counts c.plan.new.shelf) c.in-Err.ensures.stop c.one_answer.ensures (g.K.Sink.faults c.args.out.now) (g.K.Sink.faults c.args.out.now)
