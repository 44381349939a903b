use Rattle.std.proofs.Common.{rules, ◌≡◌, ◌∙◌, List, ℕ, ap, sym}
use Rattle.tcl_words.specs.Readings.{manner_of}
use Rattle.tcl_words.specs.TclFaults.{nameless}
use Rattle.tcl_words.specs.Words.{IsWord, Variables, closed}
use Rattle.tcl_words.proofs.Onward.{failed_onward, read_onward}
use Rattle.tcl_words.proofs.WordSteps.{braced_ok, unbraced_fault}
use Rattle.tcl_words.proofs.single_words.braced_word.Goals as goal

pub returns-in_default-clause-err : goal.returns-in_default-clause-err
returns-in_default-clause-err c = λ other vars.
    unbraced_fault c.args.reader.now.whole (manner_of c.args.kind) vars c.args.here.now.left c.args.reader.now.left c.in_ok-nameless.field-0 c.requires.brace
    (search rules) (c.in_ok-nameless.ensures ∙ ap (λ w. nameless w c.args.here.now.left) c.requires.whole)

pub returns-clause-ok : goal.returns-clause-ok
returns-clause-ok c =
    let left = c.braced_text.new.reader.left in
    read_onward (λ read. closed c.braced_text.new.reader.whole (manner_of c.args.kind) c.in-Some.word.items left ≡ read)
    (λ read. (vars : Variables) → IsWord c.args.reader.now.whole (manner_of c.args.kind) vars c.args.here.now.left read) left
    (λ read e vars.
    braced_ok c.args.reader.now.whole (manner_of c.args.kind) vars c.args.here.now.left c.args.reader.now.left left c.in-Some.word.items read c.requires.brace
    (search rules) (sym (ap (λ w. closed w (manner_of c.args.kind) c.in-Some.word.items left) c.braced_text.ensures.whole) ∙ e))
    c.closed_word.result c.closed_word.ensures.ok

pub returns-clause-err : goal.returns-clause-err
returns-clause-err c =
    let left = c.braced_text.new.reader.left in
    failed_onward {Y = List ℕ} (λ read. closed c.braced_text.new.reader.whole (manner_of c.args.kind) c.in-Some.word.items left ≡ read)
    (λ read. (vars : Variables) → IsWord c.args.reader.now.whole (manner_of c.args.kind) vars c.args.here.now.left read)
    (λ fault e vars.
    braced_ok c.args.reader.now.whole (manner_of c.args.kind) vars c.args.here.now.left c.args.reader.now.left left c.in-Some.word.items _ c.requires.brace
    (search rules) (sym (ap (λ w. closed w (manner_of c.args.kind) c.in-Some.word.items left) c.braced_text.ensures.whole) ∙ e))
    c.closed_word.result c.closed_word.ensures.err
