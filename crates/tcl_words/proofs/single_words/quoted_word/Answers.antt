use Rattle.std.proofs.Common.{rules, ◌≡◌, ◌∙◌, List, ℕ, Err, ap, sym}
use Rattle.tcl_words.specs.Pieces.{is_byte}
use Rattle.tcl_words.specs.Readings.{manner_of}
use Rattle.tcl_words.specs.Settings.{Holds}
use Rattle.tcl_words.specs.TclFaults.{nameless}
use Rattle.tcl_words.specs.Words.{IsReplaced, IsWord, Variables, closed}
use Rattle.tcl_words.proofs.Onward.{failed_onward, read_onward}
use Rattle.tcl_words.proofs.WordSteps.{quoted_fault, quoted_ok, unquoted_fault}
use Rattle.tcl_words.proofs.single_words.quoted_word.Goals as goal

pub returns-then-not-has_quote-clause-err : goal.returns-then-not-has_quote-clause-err
returns-then-not-has_quote-clause-err c = λ other vars holds.
    unquoted_fault c.args.reader.now.whole (manner_of c.args.kind) vars c.args.here.now.left c.args.reader.now.left c.in_ok-nameless.field-0 c.requires.quote
    (sym c.has_quote.ensures ∙ c.if-not-has_quote.true) (c.in_ok-nameless.ensures ∙ ap (λ w. nameless w c.args.here.now.left) c.requires.whole)

pub returns-in_err-word-clause-err : goal.returns-in_err-word-clause-err
returns-in_err-word-clause-err c =
    failed_onward {Y = List ℕ}
    (λ read. (vars : Variables) → Holds c.args.settings.now vars
    → IsReplaced c.args.reader.now.whole (manner_of c.args.kind) vars (is_byte 34) c.args.reader.now.left read)
    (λ read. (vars : Variables) → Holds c.args.settings.now vars → IsWord c.args.reader.now.whole (manner_of c.args.kind) vars c.args.here.now.left read)
    (λ fault h vars holds.
    quoted_fault c.args.reader.now.whole (manner_of c.args.kind) vars c.args.here.now.left c.args.reader.now.left fault c.requires.quote
    (sym c.has_quote.ensures ∙ c.if-not-has_quote.false) (h vars holds))
    c.from_residual-in_err-word.result (search rules)

pub returns-clause-ok : goal.returns-clause-ok
returns-clause-ok c =
    let left = c.takes.new.self.left in
    read_onward (λ read. closed c.takes.new.self.whole (manner_of c.args.kind) c.in_ok-word.word.items left ≡ read)
    (λ read. (vars : Variables) → Holds c.args.settings.now vars → IsWord c.args.reader.now.whole (manner_of c.args.kind) vars c.args.here.now.left read) left
    (λ read e vars holds.
    quoted_ok c.args.reader.now.whole (manner_of c.args.kind) vars c.args.here.now.left c.args.reader.now.left c.replaced_text.new.reader.left left
    c.in_ok-word.word.items read c.requires.quote (sym c.has_quote.ensures ∙ c.if-not-has_quote.false) (c.in_ok-word.ensures.ok vars holds) c.takes.result
    c.takes.ensures.taken (λ none. (c.takes.ensures.stays none).0)
    (sym (ap (λ w. closed w (manner_of c.args.kind) c.in_ok-word.word.items left) (c.takes.ensures.whole ∙ c.replaced_text.ensures.whole)) ∙ e))
    c.closed_word.result c.closed_word.ensures.ok

pub returns-clause-err : goal.returns-clause-err
returns-clause-err c =
    let left = c.takes.new.self.left in
    failed_onward {Y = List ℕ} (λ read. closed c.takes.new.self.whole (manner_of c.args.kind) c.in_ok-word.word.items left ≡ read)
    (λ read. (vars : Variables) → Holds c.args.settings.now vars → IsWord c.args.reader.now.whole (manner_of c.args.kind) vars c.args.here.now.left read)
    (λ fault e vars holds.
    quoted_ok c.args.reader.now.whole (manner_of c.args.kind) vars c.args.here.now.left c.args.reader.now.left c.replaced_text.new.reader.left left
    c.in_ok-word.word.items (Err fault) c.requires.quote (sym c.has_quote.ensures ∙ c.if-not-has_quote.false) (c.in_ok-word.ensures.ok vars holds) c.takes.result
    c.takes.ensures.taken (λ none. (c.takes.ensures.stays none).0)
    (sym (ap (λ w. closed w (manner_of c.args.kind) c.in_ok-word.word.items left) (c.takes.ensures.whole ∙ c.replaced_text.ensures.whole)) ∙ e))
    c.closed_word.result c.closed_word.ensures.err
