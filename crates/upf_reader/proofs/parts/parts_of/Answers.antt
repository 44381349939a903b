use Rattle.upf_reader.specs.Rows.{command_view}
use Rattle.upf_reader.proofs.PartLemmas.{parts_whole}
use Rattle.upf_reader.proofs.parts.parts_of.Goals as goal

pub returns : goal.returns
returns c =
    parts_whole (command_view c.args.row.now) c.args.words.now c.loop-left.parts.items c.loop-left.left.now c.in_default.len_below c.loop-left.invariant
