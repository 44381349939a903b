use Rattle.std.proofs.Common.{inr, subst, sym}
use Rattle.net_feeds.specs.TopInputs.{AreTopMarks}
use Rattle.net_feeds.proofs.FeedLemmas.{all_fed_so, none_twice}
use Rattle.net_feeds.proofs.feeds.feeds_of.Goals as goal

pub returns-in-Some-clause-cause : goal.returns-in-Some-clause-cause
returns-in-Some-clause-cause c s there read apart local spots all many none =
    inr (c.in_ok-at-in-Some.ensures s there read apart local spots all
    (subst (AreTopMarks s spots) (sym c.as_slice-in-Some.ensures.value) (c.in_ok-given.ensures s there read spots all many)) none)

pub returns-clause-feeds : goal.returns-clause-feeds
returns-clause-feeds c s there read apart local spots all many =
    let given = c.as_slice.result.now in
    let tops = subst (AreTopMarks s spots) (sym c.as_slice.ensures.value) (c.in_ok-given.ensures s there read spots all many) in
    let fed = c.in_ok-inst.ensures c.in-None.is given c.in_ok-marks.ensures in
    all_fed_so s c.args.placed.now there spots all apart c.args.links.now local given tops c.len.result fed.apart c.len.ensures c.feed_first.new.marks fed.marks_are

pub returns-clause-none : goal.returns-clause-none
returns-clause-none c s there read apart local spots all many =
    let given = c.as_slice.result.now in
    let tops = subst (AreTopMarks s spots) (sym c.as_slice.ensures.value) (c.in_ok-given.ensures s there read spots all many) in
    let fed = c.in_ok-inst.ensures c.in-None.is given c.in_ok-marks.ensures in
    none_twice s c.args.placed.now there spots all apart c.args.links.now local given tops c.len.result fed.apart c.len.ensures
