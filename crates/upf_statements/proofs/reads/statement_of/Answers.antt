use Rattle.upf_statements.proofs.TakenLemmas.{line_taken}
use Rattle.upf_statements.proofs.reads.statement_of.Goals as goal

pub taken_apart-requires : goal.taken_apart-requires
taken_apart-requires c = line_taken c.args.command.now c.requires
