use Rattle.std.proofs.Common.{Some, sym, ap, ◌∙◌}
use Rattle.std.proofs.lemmas.List.{append-nil}
use Rattle.tcl_words.specs.Places.{piece_view}
use Rattle.tcl_words.proofs.Braces.{never_closed, closed_so, shut_at, after, braced_text}
use Rattle.tcl_words.proofs.brace_words.braced_text.Goals as goal

-- src/brace_words.rt:46:13
pub returns-in_default-clause-text : goal.returns-in_default-clause-text
returns-in_default-clause-text c =
    never_closed c.args.reader.now.left
    (sym c.loop-piece.invariant.2 ∙ ap (λ rest. after c.loop-piece.word.items (braced_text c.loop-piece.depth rest)) c.in_default.ensures.piece.0)

-- src/brace_words.rt:49:13
pub returns-in_default-depth_behind-clause-text : goal.returns-in_default-depth_behind-clause-text
returns-in_default-depth_behind-clause-text c =
    closed_so c.args.reader.now.left c.loop-piece.word.items c.next.new.self.left
    (sym c.loop-piece.invariant.2
    ∙ ap (λ rest. after c.loop-piece.word.items (braced_text c.loop-piece.depth rest)) c.in-Some.ensures.piece
    ∙ ap (after c.loop-piece.word.items) (shut_at c.loop-piece.depth (piece_view c.in-Some.piece) c.next.new.self.left (sym c.depth_behind.ensures ∙ c.in_default-depth_behind.is))
    ∙ ap (λ word. Some (word, c.next.new.self.left)) (append-nil c.loop-piece.word.items))
