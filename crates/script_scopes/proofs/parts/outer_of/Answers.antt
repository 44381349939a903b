use Rattle.std.proofs.Common.{◌≡◌, Some, subst}
use Rattle.pw_defs.specs.declared.design.Design.{Design}
use Rattle.design_defs.specs.Joined.{parent_of}
use Rattle.script_scopes.proofs.AboveLemmas.{outer_cases}
use Rattle.script_scopes.proofs.parts.outer_of.Goals as goal

pub returns : goal.returns
returns c =
    let P : Design → Type 0 = λ d. parent_of d c.args.inst ≡ Some c.parent.result in
    outer_cases c.args.hierarchy.now c.sound.ensures c.args.inst c.requires c.parent.result (subst P c.design.ensures c.parent.ensures)
