use Rattle.std.proofs.Common.{rules, sym, ◌∙◌}
use Rattle.tcl_words.specs.Places.{piece_view}
use Rattle.tcl_words.specs.Readings.{manner_of}
use Rattle.tcl_words.proofs.WordSteps.{gap_goes}
use Rattle.tcl_words.proofs.word_lists.takes_gap.Goals as goal

pub returns-clause-taken : goal.returns-clause-taken
returns-clause-taken c = λ e vars read h.
    gap_goes c.args.reader.now.whole (manner_of c.args.kind) vars (piece_view c.in-Some.piece) c.args.reader.now.left c.next.new.self.left read (search rules)
    (sym c.is_gap.ensures ∙ c.if-not-is_gap.false) h
