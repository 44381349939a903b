use Rattle.lib_cells.specs.Groups.{library_entry, present}
use Rattle.lib_cells.proofs.ReadLaws.{block_reads, library_reads}
use Rattle.lib_cells.proofs.libraries.library_group.Goals as goal

pub returns-clause-answers : goal.returns-clause-answers
returns-clause-answers c =
    let a = c.in_ok-only_argument.ensures.answers in
    let m = c.in_ok-cells.ensures.answers in (
      present m.0,
      library_reads c.args.tokens.now c.library_word.new.self c.only_argument.new.tokens c.block_end.new.tokens _ a.0 m.0 c.in_ok-library_word.ensures.answers a.1
          (block_reads (library_entry 97) c.only_argument.new.tokens c.one.new.self c.library_entries.new.tokens c.block_end.new.tokens _ m.0
          c.in_ok-one.ensures.answers m.1 c.in_ok-block_end.ensures.answers),
      m.2,
    )
