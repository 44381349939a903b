use Rattle.std.proofs.Common.{ℕ, List, subst}
use Rattle.diagram_defs.specs.Answers.{MakesSet}
use Rattle.diagram_defs.specs.Sets.{case_set}
use Rattle.diagram_defs.proofs.PartLemmas.{GrowsBy_none}
use Rattle.diagram_defs.proofs.Yielding.{Yields_memory}
use Rattle.state_diagrams.proofs.pool.Pool.case.Goals as goal

pub returns-in_err-kids : goal.returns-in_err-kids
returns-in_err-kids c = Yields_memory _ c.from_residual.result c.from_residual.ensures.1 (GrowsBy_none _ c.args.self.now c.allocator.ensures)

pub returns : goal.returns
returns c =
    subst (λ (kids : List ℕ). MakesSet c.args.level (case_set c.args.self.now.nodes kids) c.args.self.now c.case_of.new.self c.case_of.result) c.in_ok-kids.ensures.ok c.case_of.ensures
