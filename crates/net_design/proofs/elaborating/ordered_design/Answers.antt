use Rattle.std.proofs.Common.{◌≡◌, sym, ap, ◌∙◌, subst}
use Rattle.design_defs.specs.Sound.{IsSoundDesign}
use Rattle.design_rows.specs.Children.{HasNames}
use Rattle.design_rows.specs.Growth.{AreOrdered}
use Rattle.design_rows.specs.View.{design_of}
use Rattle.net_design.proofs.SameDesign.{same_design}
use Rattle.net_design.proofs.elaborating.ordered_design.Goals as goal

pub new-requires : goal.new-requires
new-requires c =
    let old = c.args.rows in
    let new = c.order_children.new.self in
    let kept = c.in_ok-apart.ensures.kept in
    let designs : design_of old ≡ design_of new = sym (same_design old new.children) ∙ ap design_of (sym kept) in
    record {
      rows = c.in_ok-apart.ensures.rows c.requires.rows;
      children = subst (AreOrdered old new) c.if-not-apart.false c.in_ok-apart.ensures.ordered;
      names = subst HasNames (sym kept) c.requires.names;
      design = subst IsSoundDesign designs c.requires.sound;
    }

pub returns : goal.returns
returns c =
    let new = c.order_children.new.self in
    c.in_ok-design.ensures ∙ ap design_of c.in_ok-apart.ensures.kept ∙ same_design c.args.rows new.children
