use Rattle.std.proofs.Common.{rules, sym, ◌∙◌, ap, option_map}
use Rattle.tcl_words.specs.Readings.{manner_of, stop_of}
use Rattle.tcl_words.specs.Words.{value_of}
use Rattle.tcl_words.proofs.ReplacingSteps.{bracket_fault, dollar_goes, shorter_behind, unset_fault, variable_goes}
use Rattle.tcl_words.proofs.replaced_texts.put_replaced.Goals as goal

pub returns-then-not-takes-clause-err : goal.returns-then-not-takes-clause-err
returns-then-not-takes-clause-err c = λ other vars holds.
    bracket_fault c.args.reader.now.whole (manner_of c.args.kind) vars (stop_of c.args.kind c.args.quoted) c.args.reader.now.left c.in_ok-nameless.field-0
    c.requires.on c.requires.replaced (search rules) c.in_ok-nameless.ensures

pub returns-in_default-clause-ok : goal.returns-in_default-clause-ok
returns-in_default-clause-ok c = λ vars holds.
    dollar_goes c.args.reader.now.whole (manner_of c.args.kind) vars (stop_of c.args.kind c.args.quoted) c.args.reader.now.left c.takes.new.self.left
    c.variable_name.new.reader.left c.args.text.now.items c.put.new.text.items (search rules) c.requires.on c.requires.replaced (search rules) (search rules) (search rules)

pub returns-in_default-text-clause-err : goal.returns-in_default-text-clause-err
returns-in_default-text-clause-err c = λ other vars holds.
    unset_fault c.args.reader.now.whole (manner_of c.args.kind) vars (stop_of c.args.kind c.args.quoted) c.args.reader.now.left c.takes.new.self.left
    c.variable_name.new.reader.left c.in-Some.name.items c.in_ok-place_of.field-0 (search rules) c.requires.on c.requires.replaced (search rules)
    (sym (ap (λ n. value_of n vars) c.as_slice.ensures.value) ∙ sym (c.text.ensures vars holds) ∙ ap (option_map (λ t. t.now)) c.in_default-text.is)
    c.in_ok-place_of.ensures

pub returns-clause-shorter : goal.returns-clause-shorter
returns-clause-shorter c =
    shorter_behind c.args.reader.now.left c.takes.new.self.left c.in-Some.name.items c.variable_name.new.reader.left (search rules) (search rules)

pub returns-clause-ok : goal.returns-clause-ok
returns-clause-ok c = λ vars holds.
    variable_goes c.args.reader.now.whole (manner_of c.args.kind) vars (stop_of c.args.kind c.args.quoted) c.args.reader.now.left c.takes.new.self.left
    c.variable_name.new.reader.left c.in-Some.name.items c.in-Some-text.value.now c.args.text.now.items c.put-2.new.text.items (search rules) c.requires.on
    c.requires.replaced (search rules)
    (sym (ap (λ n. value_of n vars) c.as_slice.ensures.value) ∙ sym (c.text.ensures vars holds) ∙ ap (option_map (λ t. t.now)) c.in-Some-text.is)
    (search rules)
