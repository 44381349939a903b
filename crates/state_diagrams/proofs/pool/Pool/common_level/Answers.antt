use Rattle.std.proofs.Common.{ℕ, max, ap, ◌∙◌, subst, arith}
use Rattle.diagram_defs.specs.Diagrams.{IsSet}
use Rattle.diagram_defs.proofs.Meaning.{level_within}
use Rattle.state_diagrams.proofs.JoinLemmas.{first_found, second_found, level_is}
use Rattle.state_diagrams.proofs.pool.Pool.common_level.Goals as goal
use Rattle.state_diagrams.proofs.pool.Pool.common_level.Goals.{After-level}

greatest : (c : After-level) → IsSet c.args.self.now c.level.result (max (max c.args.a c.args.b) 1)
greatest c =
    subst (IsSet c.args.self.now c.level.result) (c.max-2.ensures ∙ ap (λ (n : ℕ). max n 1) c.max.ensures) c.level.ensures

pub returns-clause-first : goal.returns-clause-first
returns-clause-first c =
    first_found c.args.self.now c.nodes-count.ensures.pool c.args.a c.args.b c.level.result (greatest c) c.requires.level c.requires.first c.requires.second

pub returns-clause-second : goal.returns-clause-second
returns-clause-second c =
    second_found c.args.self.now c.nodes-count.ensures.pool c.args.a c.args.b c.level.result (greatest c) c.requires.level c.requires.first c.requires.second

pub returns-clause-level_in : goal.returns-clause-level_in
returns-clause-level_in c =
    level_within c.args.self.now c.nodes-count.ensures.pool c.level.result c.max-2.result c.level.ensures (λ z. omega arith)

pub returns-clause-one : goal.returns-clause-one
returns-clause-one c =
    level_is c.args.self.now c.nodes-count.ensures.pool c.args.a c.args.b c.level.result (greatest c)
