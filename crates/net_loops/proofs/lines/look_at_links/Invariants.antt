use Rattle.std.proofs.Common.{take}
use Rattle.std.specs.List.{flat_map}
use Rattle.net_loops.specs.Lines.{FindsFirst, lines_of_link}
use Rattle.net_loops.proofs.lines.look_at_links.Given as goal

abbrev pub invariant-loop-link : goal.invariant-loop-link
invariant-loop-link l = FindsFirst l.marks (flat_map lines_of_link (take l.link-index l.links)) l.initial.found l.found
