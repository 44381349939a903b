use Rattle.std.proofs.Common.{subst}
use Rattle.std.proofs.lemmas.Bool.{MatchBool-at_true, MatchBool-at_false}
use Rattle.diagram_defs.specs.Diagrams.{HasKid}
use Rattle.state_diagrams.specs.Nodes.{HasNoKid}
use Rattle.diagram_defs.proofs.PartLemmas.{GrowsBy_none}
use Rattle.state_diagrams.proofs.Cases.{case_makes, case_empty}
use Rattle.state_diagrams.proofs.pool.Pool.case_of.Goals as goal
use Rattle.state_diagrams.proofs.pool.Pool.case_of.Goals.{After-place}

some : (c : After-place) → HasKid c.args.kids.items
some c =
    subst HasKid c.as_slice.ensures (MatchBool-at_true (HasKid c.as_slice.result.now) (HasNoKid c.as_slice.result.now) c.if-not-has_kid.false c.has_kid.ensures)

pub returns : goal.returns
returns c =
    case_makes c.args.self.now c.nodes-count.ensures.pool c.args.level c.args.kids.items c.requires.level_in c.requires.below c.place.new.self c.place.ensures.grows c.requires.arity (some c) c.place.result c.place.ensures.ok c.place.ensures.err c.place.ensures.cause

pub returns-then-not-has_kid : goal.returns-then-not-has_kid
returns-then-not-has_kid c =
    let none = subst HasNoKid c.as_slice.ensures (MatchBool-at_false (HasKid c.as_slice.result.now) (HasNoKid c.as_slice.result.now) c.if-not-has_kid.true c.has_kid.ensures) in
    (GrowsBy_none _ c.args.self.now c.nodes-count.ensures.pool, case_empty c.args.self.now c.args.level c.args.kids.items none)
