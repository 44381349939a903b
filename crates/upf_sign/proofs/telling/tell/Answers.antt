use Rattle.std.proofs.Common.{sym, subst, inr}
use Rattle.upf_sign.specs.Telling.{Tells}
use Rattle.upf_sign.proofs.telling.tell.Goals as goal

pub returns-in-Err : goal.returns-in-Err
returns-in-Err g c =
    subst (λ s. Tells s c.say-in-Err.result (g.E.Sink.taken c.args.err.now) (g.E.Sink.taken c.say-in-Err.new.err) (g.E.Sink.faults c.args.err.now) (g.E.Sink.faults c.say-in-Err.new.err))
    (sym c.in-Refused.is) (inr c.say-in-Err.ensures)

pub returns-in-Bound : goal.returns-in-Bound
returns-in-Bound g c =
    subst (λ s. Tells s c.say-in-Bound.result (g.E.Sink.taken c.args.err.now) (g.E.Sink.taken c.say-in-Bound.new.err) (g.E.Sink.faults c.args.err.now) (g.E.Sink.faults c.say-in-Bound.new.err))
    (sym c.in-Bound.is) c.say-in-Bound.ensures

pub returns-in-Memory : goal.returns-in-Memory
returns-in-Memory g c =
    subst (λ s. Tells s c.say-in-Memory.result (g.E.Sink.taken c.args.err.now) (g.E.Sink.taken c.say-in-Memory.new.err) (g.E.Sink.faults c.args.err.now) (g.E.Sink.faults c.say-in-Memory.new.err))
    (sym c.in-Memory.is) c.say-in-Memory.ensures
