use Rattle.std.proofs.Common.{map, ap, sym, ◌∙◌, option_map}
use Rattle.std.proofs.lemmas.Bool.{true≢false}
use Rattle.upf_commands.specs.CommandFaults.{surplus, own_form}
use Rattle.upf_commands.specs.Commands.{good_own}
use Rattle.upf_reader.specs.Parts.{part_view}
use Rattle.upf_reader.specs.Rows.{command_view, word_view}
use Rattle.upf_reader.proofs.JudgeLemmas.{may_so, may_not, may_none}
use Rattle.upf_reader.proofs.checks.own_fits.Goals as goal

pub returns-then-not-has_own-clause-good : goal.returns-then-not-has_own-clause-good
returns-then-not-has_own-clause-good c = λ t.
    let row = command_view c.args.row.now in
    let before = map part_view c.args.before.now in
    good_own c.args.word.now (word_view c.in-Some.form)
    (may_so row before (word_view c.in-Some.form) c.has_own.result (ap (option_map word_view) c.in-Some.is) c.has_own.ensures c.if-not-has_own.true)
    (ap (option_map word_view) c.in-Some.is) (c.has_word_form.ensures.0 t)

pub returns-then-not-has_own-clause-bad : goal.returns-then-not-has_own-clause-bad
returns-then-not-has_own-clause-bad c = λ t.
    own_form c.args.word.now (word_view c.in-Some.form) (ap (option_map word_view) c.in-Some.is) (λ h. true≢false (sym (c.has_word_form.ensures.1 h) ∙ t))

pub returns-else-not-has_own-clause-bad : goal.returns-else-not-has_own-clause-bad
returns-else-not-has_own-clause-bad c = λ t.
    surplus c.args.word.now (may_not (command_view c.args.row.now) (map part_view c.args.before.now) c.has_own.result c.has_own.ensures c.if-not-has_own.false)

pub returns-in-None-clause-bad : goal.returns-in-None-clause-bad
returns-in-None-clause-bad c = λ t.
    surplus c.args.word.now (may_none (command_view c.args.row.now) (map part_view c.args.before.now) (ap (option_map word_view) c.in-None.is))
