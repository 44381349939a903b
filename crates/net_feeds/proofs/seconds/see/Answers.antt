use Rattle.net_feeds.proofs.SecondLemmas.{seen_more, seen_unfed}
use Rattle.net_feeds.proofs.seconds.see.Goals as goal

pub returns-in_ok-see_bit-in-Some : goal.returns-in_ok-see_bit-in-Some
returns-in_ok-see_bit-in-Some c links are =
    seen_more c.args.taken.now links c.args.link c.in-Some.bit c.in-Some.is c.args.seen.now _ c.in_ok-see_bit-in-Some.ensures are

pub returns-in-None : goal.returns-in-None
returns-in-None c links are = seen_unfed c.args.taken.now links c.args.link c.in-None.is c.args.seen.now are
