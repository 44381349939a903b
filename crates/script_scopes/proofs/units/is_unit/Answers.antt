use Rattle.std.proofs.Common.{◌∙◌, arith}
use Rattle.script_scopes.proofs.UnitLemmas.{unit_later}
use Rattle.script_scopes.proofs.units.is_unit.Goals as goal

pub returns : goal.returns
returns c = c.is_soft_macro.ensures ∙ unit_later c.args.hierarchy.now c.sound.ensures c.args.marks.now c.args.n (omega arith) c.requires
