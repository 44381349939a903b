use Rattle.std.proofs.Common.{◌∙◌}
use Rattle.script_scopes.proofs.UnitLemmas.{some_from}
use Rattle.script_scopes.proofs.units.is_inside.Goals as goal

pub returns : goal.returns
returns c =
    c.is_some.ensures
    ∙ some_from c.args.hierarchy.now c.sound.ensures c.args.marks.now c.args.unit c.requires.unit c.args.inst c.requires.within c.macro_inside.result c.macro_inside.ensures
