use Rattle.lib_cells.proofs.MentionLaws.{none_said}
use Rattle.lib_cells.proofs.tables.PinTable.new.Goals as goal

pub returns-clause-said : goal.returns-clause-said
returns-clause-said c = none_said _ c.new.ensures c.new-2.ensures.items
