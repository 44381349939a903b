use Rattle.std.proofs.Common.{rules, sym, ◌∙◌}
use Rattle.tcl_words.specs.Places.{piece_view}
use Rattle.tcl_words.proofs.LineSteps.{comment_ends, comment_over}
use Rattle.tcl_words.proofs.scripts.skip_comment.Goals as goal

pub returns-in_default-clause-behind : goal.returns-in_default-clause-behind
returns-in_default-clause-behind c =
    comment_over c.loop-piece.behind_backslash c.args.reader.now.left c.loop-piece.reader.left (search rules) c.loop-piece.invariant.1

pub returns-then-ends_comment-clause-behind : goal.returns-then-ends_comment-clause-behind
returns-then-ends_comment-clause-behind c =
    comment_ends c.loop-piece.behind_backslash c.args.reader.now.left c.loop-piece.reader.left c.next.new.self.left (piece_view c.in-Some.piece) (search rules)
    (sym c.ends_comment.ensures ∙ c.if-ends_comment.true) c.loop-piece.invariant.1
