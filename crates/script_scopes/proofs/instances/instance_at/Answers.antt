use Rattle.std.proofs.Common.{ℕ, Option, Some, MatchOption, sym, subst}
use Rattle.pw_defs.specs.declared.design.Design.{Design}
use Rattle.design_defs.specs.Resolves.{Resolves, ResolvesToNothing}
use Rattle.script_scopes.proofs.PathLemmas.{IsFound, no_text, some_text, top_at, walked}
use Rattle.script_scopes.proofs.instances.instance_at.Goals as goal
use Rattle.script_scopes.proofs.instances.instance_at.Goals.{After-named_inst, Then-is_empty}

top : (c : Then-is_empty) → IsFound c.args.hierarchy.now c.sound.ensures c.args.path.now (Some 0)
top c = top_at c.args.hierarchy.now c.sound.ensures c.args.path.now (no_text c.args.path.now c.is_empty.result c.is_empty.ensures c.if-is_empty.true)

pub returns-then-is_empty-clause-found : goal.returns-then-is_empty-clause-found
returns-then-is_empty-clause-found c = (top (goal.at.returns-then-is_empty-clause-found c).Then-is_empty).found

pub returns-then-is_empty-clause-number : goal.returns-then-is_empty-clause-number
returns-then-is_empty-clause-number c = (top (goal.at.returns-then-is_empty-clause-number c).Then-is_empty).number

below : (c : After-named_inst) → IsFound c.args.hierarchy.now c.sound.ensures c.args.path.now c.named_inst.result
below c =
    let d = c.args.hierarchy.now in
    let path = c.args.path.now in
    let P : Design → Type 0 = λ e. MatchOption c.resolve.result (ResolvesToNothing e 0 path) (λ x. Resolves e 0 path x) in
    let Q = λ (r : Option ℕ). IsFound d c.sound.ensures path r in
    subst Q (sym c.named_inst.ensures)
    (walked d c.sound.ensures path (some_text path c.is_empty.result c.is_empty.ensures c.if-is_empty.false) c.resolve.result (subst P c.design.ensures c.resolve.ensures))

pub returns-clause-found : goal.returns-clause-found
returns-clause-found c = (below (goal.at.returns-clause-found c).After-named_inst).found

pub returns-clause-within : goal.returns-clause-within
returns-clause-within c = (below (goal.at.returns-clause-within c).After-named_inst).within

pub returns-clause-path : goal.returns-clause-path
returns-clause-path c = (below (goal.at.returns-clause-path c).After-named_inst).path_is

pub returns-clause-number : goal.returns-clause-number
returns-clause-number c = (below (goal.at.returns-clause-number c).After-named_inst).number
