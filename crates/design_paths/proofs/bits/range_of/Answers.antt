use Rattle.std.proofs.Common.{Some, ap, sym, ◌∙◌}
use Rattle.design_paths.proofs.HereLemmas.{cell_range}
use Rattle.design_paths.proofs.bits.range_of.Goals as goal

pub returns-in-Cell : goal.returns-in-Cell
returns-in-Cell c = sym (cell_range c.args.design.now c.args.inst c.in-Cell.field-0 c.args.port (c.body.ensures ∙ ap Some c.in-Cell.is))
