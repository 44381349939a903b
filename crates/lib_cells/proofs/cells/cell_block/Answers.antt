use Rattle.lib_cells.specs.Groups.{cell_entry}
use Rattle.lib_cells.proofs.ReadLaws.{block_reads}
use Rattle.lib_cells.proofs.cells.cell_block.Goals as goal

pub returns-clause-answers : goal.returns-clause-answers
returns-clause-answers c =
    let m = c.in_ok-all.ensures.answers in (
      m.0,
      block_reads (cell_entry c.args.depth) c.args.tokens.now c.one.new.self c.cell_entries.new.tokens c.block_end.new.tokens _ m.0
          c.in_ok-one.ensures.answers m.1 c.in_ok-block_end.ensures.answers,
      m.2,
    )
