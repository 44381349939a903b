use Rattle.std.proofs.Common.{◌≡◌, ◌∙◌, List, [], None, slice_get, subst}
use Rattle.std.specs.List.{flat_map}
use Rattle.net_feeds.specs.LinkNumbers.{links_at}
use Rattle.net_feeds.specs.declared.links.LinkAt.{LinkAt}
use Rattle.net_loops.specs.Lines.{FindsFirst, lines_of_link, lines_of_row}
use Rattle.net_loops.proofs.FirstLemmas.{finds_then}
use Rattle.net_loops.proofs.lines.first_at.Goals as goal

pub returns : goal.returns
returns c =
    let p = c.args.placed.now in
    let marks = c.args.marks.now in
    let links : List LinkAt = links_at c.args.links.now p.instances.now c.args.inst in
    let inside = lines_of_row p c.args.inner.now c.args.inst (slice_get p.instances.now.rows c.args.inst) in
    let given : c.as_slice.result.now ≡ links = c.as_slice.ensures.value ∙ c.in_ok-links_at.ensures in
    let linked = subst (λ (ls : List LinkAt). FindsFirst marks (flat_map lines_of_link ls) None c.look_at_links-linked.result) given c.look_at_links-linked.ensures in
    finds_then marks (flat_map lines_of_link links) inside None c.look_at_links-linked.result c.in_ok-found.found linked c.in_ok-found.ensures [] (λ line bit rank there. absurd there)
