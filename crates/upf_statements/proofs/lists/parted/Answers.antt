use Rattle.tcl_words.proofs.ListLaws.{parts_or_fault}
use Rattle.upf_statements.proofs.lists.parted.Goals as goal

pub unreachable-requires : goal.unreachable-requires
unreachable-requires c =
    parts_or_fault c.args.text.now c.requires.0 c.in-Err.fault c.requires.1 (c.in-Err.ensures.err c.in_default.not-Memory)
