use Rattle.std.proofs.Common.{sym, ◌∙◌}
use Rattle.std.proofs.lemmas.Bool.{true≢false}
use Rattle.upf_reader.proofs.WordLemmas.{handle_so}
use Rattle.upf_reader.proofs.words.is_handle.Goals as goal

pub returns-else-ends_with : goal.returns-else-ends_with
returns-else-ends_with c =
    handle_so c.args.word.now c.ends_with-else-ends_with.result (λ e. true≢false (sym (c.ends_with.ensures.1 e) ∙ c.if-ends_with.false))
    c.ends_with-else-ends_with.ensures
