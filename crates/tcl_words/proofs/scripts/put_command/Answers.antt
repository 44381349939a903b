use Rattle.std.proofs.Common.{rules, [], Err, List, sym, ◌∙◌}
use Rattle.tcl_words.specs.LineReadings.{AreLinesSoFar}
use Rattle.tcl_words.specs.Pieces.{Piece}
use Rattle.tcl_words.specs.ScriptWords.{AreLines}
use Rattle.tcl_words.specs.Settings.{Holds}
use Rattle.tcl_words.specs.Words.{AreWords, Variables, command}
use Rattle.tcl_words.proofs.LineSteps.{command_fault, command_less, line_goes, set_goes}
use Rattle.tcl_words.proofs.Onward.{fault_onward}
use Rattle.tcl_words.proofs.scripts.put_command.Goals as goal

pub returns-in_err-words-clause-err : goal.returns-in_err-words-clause-err
returns-in_err-words-clause-err c =
    fault_onward
    (λ fault. (vars : Variables) → Holds c.args.settings.now vars → AreWords c.args.reader.now.whole command vars c.args.reader.now.left (Err fault))
    (λ fault. (all : List Piece) → AreLinesSoFar c.args.reader.now.whole all c.args.settings.now c.args.lines.now c.args.reader.now.left
    → AreLines c.args.reader.now.whole [] all (Err fault))
    (λ fault h all so. command_fault c.args.reader.now.whole all c.args.reader.now.left c.args.settings.now c.args.lines.now fault c.requires h so)
    c.from_residual.result (search rules)

pub returns-then-is_setting-clause-shorter : goal.returns-then-is_setting-clause-shorter
returns-then-is_setting-clause-shorter c =
    command_less c.args.reader.now.whole c.args.settings.now c.args.reader.now.left c.words.new.reader.left c.in_ok-words.words c.requires
    c.in_ok-words.ensures.ok

pub returns-then-is_setting-clause-ok : goal.returns-then-is_setting-clause-ok
returns-then-is_setting-clause-ok c = λ all so.
    set_goes c.args.reader.now.whole all c.args.reader.now.left c.words.new.reader.left c.args.settings.now c.put_setting.new.settings c.args.lines.now
    c.in_ok-words.words c.requires (sym c.is_setting.ensures ∙ c.if-is_setting.true) c.in_ok-words.ensures.ok c.in_ok-put_setting.ensures so

pub returns-clause-shorter : goal.returns-clause-shorter
returns-clause-shorter c =
    command_less c.args.reader.now.whole c.args.settings.now c.args.reader.now.left c.words.new.reader.left c.in_ok-words.words c.requires
    c.in_ok-words.ensures.ok

pub returns-clause-ok : goal.returns-clause-ok
returns-clause-ok c = λ all so.
    line_goes c.args.reader.now.whole all c.args.reader.now.left c.words.new.reader.left c.args.settings.now c.args.lines.now c.put_line.new.lines
    c.line-number.result c.in_ok-words.words c.requires (sym c.is_setting.ensures ∙ c.if-is_setting.false) c.in_ok-words.ensures.ok
    c.line-number.ensures c.in_ok-put_line.ensures so
