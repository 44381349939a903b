use Rattle.diagram_defs.proofs.PartLemmas.{GrowsBy_none, GrowsBy_wider, IsPartOf_grown}
use Rattle.diagram_defs.proofs.Yielding.{Yields_passed, Makes_last}
use Rattle.state_diagrams.proofs.Levels.{literal_parts, literal_widened}
use Rattle.state_diagrams.proofs.pool.Pool.literal.Goals as goal

pub returns-in_err-n : goal.returns-in_err-n
returns-in_err-n c =
    let old = c.args.self.now in
    let pool = c.choice.ensures.0.grows.was in
    Yields_passed _ c.from_residual.result c.in_err-n.field-0.0 c.from_residual.ensures.1 (GrowsBy_none _ old pool) (literal_parts old pool c.args.level c.args.mask c.requires) c.in_err-n.ensures

pub returns : goal.returns
returns c =
    let old = c.args.self.now in
    let g = c.choice.ensures.0.grows in
    let same = literal_widened old c.choice.new.self c.args.level c.args.mask c.in_ok-n.n g c.in_ok-n.ensures.1 in
    let grown = GrowsBy_wider _ _ old c.choice.new.self (literal_parts old g.was c.args.level c.args.mask c.requires) c.choice.ensures.0 in
    Makes_last 0 _ _ c.widen.result grown (IsPartOf_grown old c.choice.new.self 0 _ _ g same) same c.widen.ensures
