use Rattle.std.proofs.Common.{sym, ◌∙◌, subst, inl, inr}
use Rattle.diagram_defs.specs.Diagrams.{IsNumberFor}
use Rattle.state_diagrams.specs.declared.joins.Join.{Join}
use Rattle.state_diagrams.specs.Joins.{joined_set, IsPlainAnd, IsPlainOr}
use Rattle.diagram_defs.proofs.Meaning.{level_of_one}
use Rattle.state_diagrams.proofs.JoinLemmas.{plain_and_some, plain_or_some, plain_open, neither_one, neither_zero}
use Rattle.state_diagrams.proofs.pool.Pool.plain_join.Goals as goal

pub returns-in-Both-clause-number : goal.returns-in-Both-clause-number
returns-in-Both-clause-number c =
    plain_and_some c.args.self.now c.nodes-count.ensures.pool c.args.level c.args.a c.args.b c.requires.first c.requires.second c.args.join c.in-Both.is c.plain_and.result c.plain_and.ensures

pub returns-in-Both-clause-open : goal.returns-in-Both-clause-open
returns-in-Both-clause-open c =
    plain_open c.args.self.now c.nodes-count.ensures.pool c.args.level c.args.a c.args.b c.requires.first c.requires.second (IsPlainAnd c.args.a c.args.b) c.requires.level_in c.plain_and.result c.plain_and.ensures

pub returns-in-Either-clause-number : goal.returns-in-Either-clause-number
returns-in-Either-clause-number c =
    plain_or_some c.args.self.now c.nodes-count.ensures.pool c.args.level c.args.a c.args.b c.requires.first c.requires.second c.args.join c.in-Either.is c.plain_or.result c.plain_or.ensures

pub returns-in-Either-clause-open : goal.returns-in-Either-clause-open
returns-in-Either-clause-open c =
    plain_open c.args.self.now c.nodes-count.ensures.pool c.args.level c.args.a c.args.b c.requires.first c.requires.second (IsPlainOr c.args.a c.args.b) c.requires.level_in c.plain_or.result c.plain_or.ensures

pub returns-then-b-eq0-clause-number : goal.returns-then-b-eq0-clause-number
returns-then-b-eq0-clause-number c =
    let d = c.args.self.now in
    let at = c.if-level.true ∙ level_of_one d c.level.result c.level.ensures in
    subst (λ (j : Join). IsNumberFor d c.args.level (joined_set d j c.args.level c.args.a c.args.b) 1) (sym c.in-Neither.is) (neither_one d c.nodes-count.ensures.pool c.args.level c.args.a c.args.b c.requires.first c.requires.second at c.if-a-eq0.true c.if-b-eq0.true)

pub returns-else-a-eq0-clause-number : goal.returns-else-a-eq0-clause-number
returns-else-a-eq0-clause-number c =
    let d = c.args.self.now in
    let at = c.if-level.true ∙ level_of_one d c.level.result c.level.ensures in
    let zero = neither_zero d c.nodes-count.ensures.pool c.args.level c.args.a c.args.b c.requires.first c.requires.second at in
    subst (λ (j : Join). IsNumberFor d c.args.level (joined_set d j c.args.level c.args.a c.args.b) 0) (sym c.in-Neither.is) (elim c.else-a-eq0.either [
      | inl b_some ↦ zero (inr b_some.1)
      | inr a_some ↦ zero (inl a_some)
    ])
