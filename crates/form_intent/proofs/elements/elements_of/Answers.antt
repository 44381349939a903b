-- Each line adds its element, or shows that the elements do not fit.
use Rattle.std.proofs.Common.{◌∙◌, ◌==◌, sym, ap, arith}
use Rattle.list_defs.specs.Members.{all_differ}
use Rattle.form_intent.specs.Elements.{line_element}
use Rattle.form_intent.proofs.LineLemmas.{gained}
use Rattle.form_intent.proofs.ElementLemmas.{all_differ-next, elements_fit-again, elements_fit-all, elements_fit-no_top, found_all}
use Rattle.form_intent.proofs.elements.elements_of.Goals as goal

pub returns-then-not-branch : goal.returns-then-not-branch
returns-then-not-branch c =
    elements_fit-again c.args.instances.now c.args.commands.now c.loop-command.command-index c.command-item.result c.loop-command.elements.keys (omega arith) c.command-item.is c.loop-command.invariant.found (sym c.in_ok-put_element.ensures.new ∙ c.if-not-branch.true)

pub loop-command-preserved : goal.loop-command-preserved
loop-command-preserved c =
    let element = line_element c.args.instances.now in
    let gains = rw c.if-not-branch.false at c.in_ok-put_element.ensures.gains in
    record {
      found = gained c.args.commands.now c.loop-command.command-index c.command-item.result (omega arith) c.command-item.is element c.loop-command.elements.keys c.put_element.new.elements.keys gains c.loop-command.invariant.found;
      differ = ap (all_differ ◌==◌) gains ∙ all_differ-next c.loop-command.elements.keys (element c.command-item.result) (sym c.in_ok-put_element.ensures.new ∙ c.if-not-branch.false) c.loop-command.invariant.differ;
    }

pub returns-then-not-contains : goal.returns-then-not-contains
returns-then-not-contains c =
    elements_fit-no_top c.args.instances.now c.args.commands.now c.loop-command.command-index c.loop-command.elements.keys c.loop-command-test.false c.loop-command.invariant.found (sym c.contains.ensures ∙ c.if-not-contains.true)

pub returns : goal.returns
returns c =
    let instances = c.args.instances.now in
    let lines = c.args.commands.now in
    let i = c.loop-command.command-index in
    let found = c.loop-command.elements.keys in
    (elements_fit-all instances lines i found c.loop-command-test.false c.loop-command.invariant.found c.loop-command.invariant.differ (sym c.contains.ensures ∙ c.if-not-contains.false), found_all instances lines i found c.loop-command-test.false c.loop-command.invariant.found)
