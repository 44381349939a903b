-- Each line adds what it makes, or shows that the script does not fit.
use Rattle.std.proofs.Common.{◌<◌, ◌∙◌, sym, subst, length, arith}
use Rattle.std.proofs.lemmas.List.{take_all}
use Rattle.form_intent.proofs.LineLemmas.{IsMadeBy-more, all_differ-more, list_all-known, names_fit-unknown, names_fit-again, names_fit-all}
use Rattle.form_intent.specs.Made.{IsMadeBy}
use Rattle.form_intent.proofs.made.Made.by_lines.Goals as goal

pub returns-then-not-knows : goal.returns-then-not-knows
returns-then-not-knows c =
    names_fit-unknown c.args.commands.now c.loop-command.command-index c.command-item.result (omega arith) c.command-item.is c.args.instances.now c.loop-command.made c.loop-command.invariant.names (sym c.knows.ensures ∙ c.if-not-knows.true)

pub returns-then-not-branch : goal.returns-then-not-branch
returns-then-not-branch c =
    names_fit-again c.args.commands.now c.loop-command.command-index c.command-item.result (omega arith) c.command-item.is c.args.instances.now c.loop-command.made c.loop-command.invariant.names (sym c.in_ok-add.ensures.new ∙ c.if-not-branch.true)

pub loop-command-preserved : goal.loop-command-preserved
loop-command-preserved c =
    let within : c.loop-command.command-index < length c.args.commands.now = omega arith in
    record {
      names = IsMadeBy-more c.args.commands.now c.loop-command.command-index c.command-item.result within c.command-item.is c.loop-command.made c.add.new.self c.loop-command.invariant.names (rw c.if-not-branch.false at c.in_ok-add.ensures.gains);
      known = list_all-known c.args.commands.now c.loop-command.command-index c.command-item.result within c.command-item.is c.args.instances.now c.loop-command.made c.loop-command.invariant.names (sym c.knows.ensures ∙ c.if-not-knows.false) c.loop-command.invariant.known;
      differ = all_differ-more c.args.commands.now c.loop-command.command-index c.command-item.result within c.command-item.is c.loop-command.made c.loop-command.invariant.names (sym c.in_ok-add.ensures.new ∙ c.if-not-branch.false) c.loop-command.invariant.differ;
    }

pub returns : goal.returns
returns c =
    let i = c.loop-command.command-index in
    (names_fit-all c.args.instances.now c.args.commands.now i c.loop-command-test.false c.loop-command.invariant.known c.loop-command.invariant.differ, subst (λ lines. IsMadeBy lines c.loop-command.made) (take_all i c.args.commands.now c.loop-command-test.false) c.loop-command.invariant.names)
