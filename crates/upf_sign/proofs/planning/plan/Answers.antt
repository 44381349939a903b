use Rattle.std.proofs.Common.{map, string_bytes}
use Rattle.upf_sign.specs.Jobs.{job_in}
use Rattle.upf_sign.proofs.Planned.{planned_report, planned_stop}
use Rattle.upf_sign.proofs.planning.plan.Goals as goal

pub returns-in-Ok-clause-report : goal.returns-in-Ok-clause-report
returns-in-Ok-clause-report g c =
    planned_report (map string_bytes c.args.words.now) (g.S.Shelf.holds c.args.shelf.now) (job_in c.in-Some.job) c.in-Ok.texts c.answer.result c.in-Some.ensures c.in-Ok.ensures.texts c.answer.ensures

pub returns-in-Ok-clause-stop : goal.returns-in-Ok-clause-stop
returns-in-Ok-clause-stop g c =
    planned_stop (map string_bytes c.args.words.now) (g.S.Shelf.holds c.args.shelf.now) (g.S.Shelf.counts c.args.shelf.now) (g.S.Shelf.counts c.fetch_texts.new.shelf) (job_in c.in-Some.job)
    c.in-Ok.texts c.answer.result c.in-Some.ensures c.in-Ok.ensures.texts c.answer.ensures
