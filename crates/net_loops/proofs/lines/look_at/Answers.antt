use Rattle.std.proofs.Common.{sym, ◌∙◌}
use Rattle.net_loops.proofs.FirstLemmas.{finds_marked, finds_unmarked}
use Rattle.net_loops.proofs.lines.look_at.Goals as goal

pub returns-in-Some : goal.returns-in-Some
returns-in-Some c =
    finds_marked c.args.marks.now c.args.line c.args.bit c.in-Some.rank (sym c.mark_at.ensures ∙ c.in-Some.is) c.args.first c.first_of.result c.first_of.ensures

pub returns-in-None : goal.returns-in-None
returns-in-None c = finds_unmarked c.args.marks.now c.args.line c.args.bit c.args.first (sym c.mark_at.ensures ∙ c.in-None.is)
