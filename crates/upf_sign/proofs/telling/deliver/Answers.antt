use Rattle.std.proofs.Common.{subst}
use Rattle.pw_outer.specs.Puts.{GrewByFront}
use Rattle.upf_sign.specs.Telling.{out_of_memory}
use Rattle.upf_sign.proofs.telling.deliver.Goals as goal

pub returns-in-Err-Memory : goal.returns-in-Err-Memory
returns-in-Err-Memory g c =
    out_of_memory (subst (GrewByFront (g.K.Sink.taken c.args.out.now) (g.K.Sink.taken c.put.new.self)) c.as_slice.ensures.bytes c.in-Err-Memory.ensures.took) c.say-in-Err-Memory.ensures
