use Rattle.std.proofs.Common.{subst}
use Rattle.pw_defs.specs.declared.design.Design.{Design}
use Rattle.design_rows.specs.Children.{HasNamesInside}
use Rattle.design_rows.proofs.ChildLemmas.{all_named}
use Rattle.design_rows.proofs.designs.Design.names.Goals as goal

pub returns : goal.returns
returns c =
    let P : Design → Type 0 = λ d. HasNamesInside d in
    subst P c.self.view_is (all_named c.self.inside.rows c.self.invariant.sound.rows c.self.invariant.sound.names)
