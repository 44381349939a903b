use Rattle.std.proofs.Common.{◌+◌, ◌&&◌, length, refl, sym, subst}
use Rattle.diagram_defs.specs.Diagrams.{IsSet, member}
use Rattle.diagram_defs.proofs.Meaning.{IsKid-kid}
use Rattle.state_meets.proofs.commons.behind.Goals as goal

pub returns : goal.returns
returns c =
    let d = c.args.first.now in
    let at = c.args.at in
    record {
      level_is = refl;
      number = subst (IsSet d (at.level + 1)) (sym c.child.ensures) (IsKid-kid d.arities d.nodes c.allocator-alloc.ensures.nodes (length d.nodes) at.level at.first c.requires.number c.args.v);
      same = λ rest i. member d.nodes (c.child.ensures i) rest && c.second_behind.ensures rest i;
    }
