use Rattle.std.proofs.Common.{MatchOption, sym, subst, ◌∙◌}
use Rattle.pw_defs.specs.declared.design.Design.{Design}
use Rattle.design_defs.specs.Resolves.{Resolves, ResolvesToNothing}
use Rattle.script_defs.specs.Scopes.{path_from}
use Rattle.script_scopes.specs.Standing.{own_path}
use Rattle.script_scopes.proofs.PartLemmas.{IsMeant, dot_part, dot_path, word_meant, word_part}
use Rattle.script_scopes.proofs.parts.part_from.Goals as goal
use Rattle.script_scopes.proofs.parts.part_from.Goals.{After-resolve}

pub returns-then-is_dot-clause-part : goal.returns-then-is_dot-clause-part
returns-then-is_dot-clause-part c =
    dot_part c.args.hierarchy.now c.sound.ensures c.args.scope c.requires c.args.word.now (sym c.is_dot.ensures ∙ c.if-is_dot.true)

pub returns-then-is_dot-clause-path : goal.returns-then-is_dot-clause-path
returns-then-is_dot-clause-path c =
    dot_path c.args.hierarchy.now c.sound.ensures c.args.scope c.requires c.args.word.now (sym c.is_dot.ensures ∙ c.if-is_dot.true)

resolved : (c : After-resolve) → MatchOption c.resolve.result (ResolvesToNothing c.args.hierarchy.now c.args.scope c.args.word.now) (λ x. Resolves c.args.hierarchy.now c.args.scope c.args.word.now x)
resolved c =
    let P : Design → Type 0 = λ d. MatchOption c.resolve.result (ResolvesToNothing d c.args.scope c.args.word.now) (λ x. Resolves d c.args.scope c.args.word.now x) in
    subst P c.design.ensures c.resolve.ensures

meant : (c : After-resolve) → IsMeant c.args.hierarchy.now c.sound.ensures (path_from (own_path c.args.hierarchy.now c.args.scope) c.args.word.now) c.resolve.result
meant c =
    word_meant c.args.hierarchy.now c.sound.ensures c.args.scope c.requires c.args.word.now (sym c.is_dot.ensures ∙ c.if-is_dot.false) c.resolve.result (resolved c)

pub returns-clause-part : goal.returns-clause-part
returns-clause-part c =
    word_part c.args.hierarchy.now c.sound.ensures c.args.scope c.requires c.args.word.now (sym c.is_dot.ensures ∙ c.if-is_dot.false) c.resolve.result (resolved (goal.at.returns-clause-part c).After-resolve)

pub returns-clause-within : goal.returns-clause-within
returns-clause-within c = (meant (goal.at.returns-clause-within c).After-resolve).within

pub returns-clause-path : goal.returns-clause-path
returns-clause-path c = (meant (goal.at.returns-clause-path c).After-resolve).path_is
