use Rattle.std.proofs.Common.{rules, sym, ◌∙◌, subst}
use Rattle.tcl_words.specs.LineReadings.{AreLinesSoFar}
use Rattle.tcl_words.specs.Places.{PieceText, piece_view}
use Rattle.tcl_words.proofs.LineSteps.{between_goes, comment_goes, comment_less}
use Rattle.tcl_words.proofs.scripts.put_next.Goals as goal

pub returns-then-is_stop-clause-goes_on : goal.returns-then-is_stop-clause-goes_on
returns-then-is_stop-clause-goes_on c = λ all so.
    between_goes c.args.reader.now.whole all c.args.reader.now.left c.next.new.self.left (piece_view c.in-Some.piece) c.args.settings.now c.args.lines.now
    (search rules) (sym c.is_stop.ensures ∙ c.if-is_stop.true) so

pub returns-then-takes-clause-shorter : goal.returns-then-takes-clause-shorter
returns-then-takes-clause-shorter c = λ e.
    comment_less c.args.reader.now.left c.takes.new.self.left c.skip_comment.new.reader.left (c.takes.ensures.taken c.if-takes.true)
    c.skip_comment.ensures.behind

pub returns-then-takes-clause-goes_on : goal.returns-then-takes-clause-goes_on
returns-then-takes-clause-goes_on c = λ all so.
    comment_goes c.args.reader.now.whole all c.args.reader.now.left c.takes.new.self.left c.skip_comment.new.reader.left c.args.settings.now
    c.args.lines.now (c.takes.ensures.taken c.if-takes.true) c.skip_comment.ensures.behind so

pub returns-clause-goes_on : goal.returns-clause-goes_on
returns-clause-goes_on c = λ all.
    subst
    (λ (t : PieceText). AreLinesSoFar t.whole all c.args.settings.now c.args.lines.now t.left
    → AreLinesSoFar t.whole all c.put_command.new.settings c.put_command.new.lines c.put_command.new.reader.left)
    (c.takes.ensures.stays c.if-takes.false).1 (c.in_ok-put_command.ensures.ok all)
