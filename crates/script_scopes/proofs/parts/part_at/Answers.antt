use Rattle.std.proofs.Common.{MatchOption, subst}
use Rattle.pw_defs.specs.declared.design.Design.{Design}
use Rattle.design_defs.specs.Resolves.{Resolves, ResolvesToNothing}
use Rattle.script_scopes.proofs.PartLemmas.{IsMeant, found_at_all, meant_at_all}
use Rattle.script_scopes.proofs.parts.part_at.Goals as goal
use Rattle.script_scopes.proofs.parts.part_at.Goals.{After-resolve}

resolved : (c : After-resolve) → MatchOption c.resolve.result (ResolvesToNothing c.args.hierarchy.now 0 c.args.name.now) (λ x. Resolves c.args.hierarchy.now 0 c.args.name.now x)
resolved c =
    let P : Design → Type 0 = λ d. MatchOption c.resolve.result (ResolvesToNothing d 0 c.args.name.now) (λ x. Resolves d 0 c.args.name.now x) in
    subst P c.design.ensures c.resolve.ensures

meant : (c : After-resolve) → IsMeant c.args.hierarchy.now c.sound.ensures c.args.name.now c.resolve.result
meant c = meant_at_all c.args.hierarchy.now c.sound.ensures c.args.name.now c.resolve.result (resolved c)

pub returns-clause-part : goal.returns-clause-part
returns-clause-part c =
    found_at_all c.args.hierarchy.now c.sound.ensures c.args.name.now c.resolve.result (resolved (goal.at.returns-clause-part c).After-resolve)

pub returns-clause-within : goal.returns-clause-within
returns-clause-within c = (meant (goal.at.returns-clause-within c).After-resolve).within

pub returns-clause-path : goal.returns-clause-path
returns-clause-path c = (meant (goal.at.returns-clause-path c).After-resolve).path_is
