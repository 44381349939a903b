use Rattle.std.proofs.Common.{IsTrue, ◌↔◌, sym, subst}
use Rattle.upf_commands.specs.Forms.{IsWordOf}
use Rattle.upf_reader.proofs.WordLemmas.{one_of_so}
use Rattle.upf_reader.specs.Rows.{word_view, texts_view}
use Rattle.upf_reader.specs.declared.table.WordShape.{WordShape}
use Rattle.upf_reader.proofs.words.has_word_form.Goals as goal

pub returns-in-OneOf : goal.returns-in-OneOf
returns-in-OneOf c =
    subst (λ (f : WordShape). IsTrue c.is_one_of.result ↔ IsWordOf (word_view f) c.args.word.now) (sym c.in-OneOf.is)
    (one_of_so c.args.word.now (texts_view c.in-OneOf.texts.now) c.is_one_of.result c.is_one_of.ensures)
