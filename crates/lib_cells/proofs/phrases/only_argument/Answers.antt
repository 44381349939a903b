use Rattle.std.proofs.Common.{[], unwrap_or}
use Rattle.lib_cells.proofs.ReadLaws.{arguments_read}
use Rattle.lib_cells.proofs.phrases.only_argument.Goals as goal

pub returns-clause-answers : goal.returns-clause-answers
returns-clause-answers c =
    let m = c.in_ok-only.ensures.answers in (
      unwrap_or m.0 [],
      arguments_read c.args.tokens.now c.one.new.self c.only_inside.new.tokens c.one-2.new.self _ _ m.0 c.in_ok-one.ensures.answers m.1 c.in_ok-one-2.ensures.answers,
      m.2,
    )
