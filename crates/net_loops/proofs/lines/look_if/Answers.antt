use Rattle.std.proofs.Common.{◌≡◌, ◌∙◌, List, [], ◌∷◌, Some, ap, sym}
use Rattle.net_loops.specs.Lines.{LineBit, line_if}
use Rattle.net_loops.proofs.FirstLemmas.{finds_same}
use Rattle.net_loops.proofs.lines.look_if.Goals as goal

pub returns-in-Some-source : goal.returns-in-Some-source
returns-in-Some-source c =
    let one : List LineBit = (c.args.line, c.in-Some.bit) ∷ [] in
    let same : one ≡ line_if c.args.line c.args.fed c.args.source =
    sym (ap (λ fed. line_if c.args.line fed c.args.source) c.in-Some.is ∙ ap (line_if c.args.line (Some c.in-Some.bit)) c.in-Some-source.is) in
    finds_same c.args.marks.now one (line_if c.args.line c.args.fed c.args.source) c.args.first c.look_at.result same c.look_at.ensures
