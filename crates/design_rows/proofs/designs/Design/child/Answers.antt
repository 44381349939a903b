use Rattle.std.proofs.Common.{MatchOption, subst}
use Rattle.pw_defs.specs.declared.design.Design.{Design}
use Rattle.design_rows.specs.Children.{HasNoneInside, IsNamedInside}
use Rattle.design_rows.proofs.ChildLemmas.{found_named}
use Rattle.design_rows.proofs.designs.Design.child.Goals as goal

pub returns : goal.returns
returns c =
    let outer = c.args.outer in
    let name = c.args.name.now in
    let P : Design → Type 0 = λ d. MatchOption c.child.result (HasNoneInside d outer name) (λ n. IsNamedInside d outer name n) in
    subst P c.self.view_is (found_named c.self.inside.rows c.self.invariant.sound.rows outer name c.child.result c.child.ensures)
