use Rattle.upf_reader.specs.Rows.{list_view}
use Rattle.upf_statements.proofs.SaidLemmas.{list_words}
use Rattle.upf_statements.proofs.lists.list_said.Goals as goal

pub words_said-requires : goal.words_said-requires
words_said-requires c = list_words (list_view c.args.form) c.args.text.now c.in_ok-words.words c.requires c.in_ok-words.ensures
