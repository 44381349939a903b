use Rattle.std.proofs.Common.{List, Bool, ◌∙◌, subst}
use Rattle.net_feeds.specs.declared.links.LinkAt.{LinkAt}
use Rattle.net_feeds.specs.LeastNames.{IsLeastName}
use Rattle.net_feeds.specs.Seconds.{AreSeconds}
use Rattle.net_feeds.proofs.FirstFault.{first_fault}
use Rattle.net_feeds.proofs.feeds.fault_in.Goals as goal

pub returns : goal.returns
returns c s there read apart local spots all tops none =
    let found = c.in_ok-found.found in
    let seconds =
    subst (λ (ls : List LinkAt). AreSeconds c.in_ok-marks.marks.taken.items ls found) (c.as_slice-2.ensures.value ∙ c.in_ok-links_at.ensures)
    (subst (λ (marks : List Bool). AreSeconds marks c.as_slice-2.result.now found) c.as_slice.ensures.value c.in_ok-found.ensures) in
    let name = subst (λ bits. IsLeastName s spots bits c.in_ok-name.name) c.as_slice-3.ensures.value (c.in_ok-name.ensures s there spots all) in
    first_fault s c.args.placed.now there spots all apart c.args.links.now local c.args.given.now tops c.args.inst c.in_ok-marks.marks c.in_ok-marks.ensures.apart
    c.in_ok-marks.ensures.marks_are found seconds c.in_ok-name.name name none c.in_ok-module.module c.in_ok-module.ensures
