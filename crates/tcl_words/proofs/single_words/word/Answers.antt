use Rattle.std.proofs.Common.{rules, List, ℕ, Err}
use Rattle.tcl_words.specs.Readings.{manner_of}
use Rattle.tcl_words.specs.Settings.{Holds}
use Rattle.tcl_words.specs.Words.{IsReplaced, IsWord, Variables, is_stop}
use Rattle.tcl_words.proofs.Onward.{failed_onward, read_onward}
use Rattle.tcl_words.proofs.WordSteps.{bare_ok}
use Rattle.tcl_words.proofs.single_words.word.Goals as goal

pub returns-clause-ok : goal.returns-clause-ok
returns-clause-ok c =
    read_onward
    (λ read. (vars : Variables) → Holds c.args.settings.now vars
    → IsReplaced c.takes-2.new.self.whole (manner_of c.args.kind) vars (is_stop (manner_of c.args.kind)) c.takes-2.new.self.left read)
    (λ read. (vars : Variables) → Holds c.args.settings.now vars → IsWord c.args.reader.now.whole (manner_of c.args.kind) vars c.args.reader.now.left read)
    c.replaced_text.new.reader.left
    (λ read h vars holds.
    bare_ok c.args.reader.now.whole (manner_of c.args.kind) vars c.args.reader.now.left c.takes-2.new.self.whole c.takes-2.new.self.left read c.requires
    (search rules) (search rules) (search rules) (search rules) (h vars holds))
    c.replaced_text.result c.replaced_text.ensures.ok

pub returns-clause-err : goal.returns-clause-err
returns-clause-err c =
    failed_onward {Y = List ℕ}
    (λ read. (vars : Variables) → Holds c.args.settings.now vars
    → IsReplaced c.takes-2.new.self.whole (manner_of c.args.kind) vars (is_stop (manner_of c.args.kind)) c.takes-2.new.self.left read)
    (λ read. (vars : Variables) → Holds c.args.settings.now vars → IsWord c.args.reader.now.whole (manner_of c.args.kind) vars c.args.reader.now.left read)
    (λ fault h vars holds.
    bare_ok c.args.reader.now.whole (manner_of c.args.kind) vars c.args.reader.now.left c.takes-2.new.self.whole c.takes-2.new.self.left (Err fault) c.requires
    (search rules) (search rules) (search rules) (search rules) (h vars holds))
    c.replaced_text.result c.replaced_text.ensures.err
