use Rattle.std.proofs.Common.{subst, ap}
use Rattle.std.proofs.lemmas.Bool.{MatchBool-at_false}
use Rattle.diagram_defs.specs.Diagrams.{Diagram, HasKid}
use Rattle.state_diagrams.specs.Nodes.{HasNoKid}
use Rattle.state_diagrams.proofs.Cases.{case_found, case_empty}
use Rattle.state_diagrams.proofs.pool.Pool.case_there.Goals as goal

pub returns-then-not-has_kid : goal.returns-then-not-has_kid
returns-then-not-has_kid c =
    let none = subst HasNoKid c.as_slice.ensures (MatchBool-at_false (HasKid c.as_slice.result.now) (HasNoKid c.as_slice.result.now) c.if-not-has_kid.true c.has_kid.ensures) in
    case_empty c.args.self.now c.args.level c.args.kids.items none

pub returns : goal.returns
returns c =
    case_found c.args.self.now c.nodes-count.ensures.pool c.args.level c.args.kids.items c.requires.level_in c.requires.below (ap (λ (d : Diagram). d.nodes) c.self.view_is) c.find.result c.find.ensures
