use Rattle.std.proofs.Common.{ap, take}
use Rattle.std.specs.List.{flat_map}
use Rattle.std.proofs.lemmas.List.{take_all}
use Rattle.net_loops.specs.Lines.{lines_of_link}
use Rattle.net_loops.proofs.FirstLemmas.{finds_more, finds_none, finds_same}
use Rattle.net_loops.proofs.lines.look_at_links.Goals as goal

pub loop-link-init : goal.loop-link-init
loop-link-init c = finds_none c.args.marks.now c.args.first

pub loop-link-preserved : goal.loop-link-preserved
loop-link-preserved c =
    finds_more c.args.marks.now lines_of_link c.args.links.now c.loop-link.link-index _ c.args.first c.loop-link.found c.look_if-found.result c.loop-link-test.true
    c.loop-link.invariant c.look_if-found.ensures

pub returns : goal.returns
returns c =
    finds_same c.args.marks.now (flat_map lines_of_link (take c.loop-link.link-index c.args.links.now)) (flat_map lines_of_link c.args.links.now) c.args.first c.loop-link.found
    (ap (flat_map lines_of_link) (take_all c.loop-link.link-index c.args.links.now c.loop-link-test.false)) c.loop-link.invariant
