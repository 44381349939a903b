use Rattle.std.proofs.Common.{Option, MatchOption, map, sym, ◌∙◌}
use Rattle.std.proofs.lemmas.Bool.{true≢false}
use Rattle.std.proofs.lemmas.Result.{IfOk-weaker}
use Rattle.upf_commands.specs.CommandFaults.{IsBad}
use Rattle.upf_commands.specs.CommandWords.{given}
use Rattle.upf_commands.specs.Forms.{IsMisformed}
use Rattle.upf_reader.specs.Faults.{IsFormed}
use Rattle.upf_reader.specs.Judging.{IsItemFormed}
use Rattle.upf_reader.specs.Parts.{part_view}
use Rattle.upf_reader.specs.Rows.{command_view, option_view}
use Rattle.upf_reader.specs.declared.values.OpenLists.{OpenLists}
use Rattle.upf_reader.proofs.JudgeLemmas.{told, not_may, repeated}
use Rattle.upf_reader.proofs.checks.given_formed.Goals as goal

pub returns-then-not-may_give : goal.returns-then-not-may_give
returns-then-not-may_give c =
    not_may (command_view c.args.row.now) (map part_view c.args.before.now) (option_view c.args.option.now) c.args.value.now
    (sym c.may_give.ensures ∙ c.if-not-may_give.true)

pub returns-then-branch : goal.returns-then-branch
returns-then-branch c =
    repeated (command_view c.args.row.now) (map part_view c.args.before.now) (option_view c.args.option.now) c.args.value.now
    (c.in_ok-repeats_key.ensures.0 c.if-branch.true)

pub returns : goal.returns
returns c =
    let row = command_view c.args.row.now in
    let before = map part_view c.args.before.now in
    let o = option_view c.args.option.now in
    let text = c.args.value.now in
    IfOk-weaker c.value_formed.result (λ (r : Option OpenLists). MatchOption r (IsMisformed o.form text) (IsFormed o.form text))
    (λ (r : Option OpenLists). MatchOption r (IsBad row before (given o text)) (IsItemFormed row before (given o text)))
    (told row before o text (sym c.may_give.ensures ∙ c.if-not-may_give.false) (λ k. true≢false (sym (c.in_ok-repeats_key.ensures.1 k) ∙ c.if-branch.false)))
    c.value_formed.ensures
