use Rattle.std.proofs.Common.{rules, [], Err, List, sym, ap, ◌∙◌, subst}
use Rattle.tcl_words.specs.Cuts.{pieces_of}
use Rattle.tcl_words.specs.LineReadings.{AreLinesSoFar}
use Rattle.tcl_words.specs.Pieces.{Piece}
use Rattle.tcl_words.specs.Places.{PieceText}
use Rattle.tcl_words.specs.ScriptWords.{AreLines, HasTclFault}
use Rattle.tcl_words.proofs.LineSteps.{lines_over, none_so_far, script_fault, script_whole}
use Rattle.tcl_words.proofs.Onward.{fault_onward}
use Rattle.tcl_words.proofs.scripts.read_script.Goals as goal

pub loop-lines-init : goal.loop-lines-init
loop-lines-init c = (
  subst (AreLinesSoFar (pieces_of c.args.text.now) (pieces_of c.args.text.now) c.new-settings.result c.new-lines.result)
      (sym (ap (λ (t : PieceText). t.left) c.new-reader.ensures))
      (none_so_far (pieces_of c.args.text.now) c.new-settings.result c.new-lines.result c.new-settings.ensures c.new-lines.ensures),
  ap (λ (t : PieceText). t.whole) c.new-reader.ensures,
)

pub returns-in_err-put_next-clause-err : goal.returns-in_err-put_next-clause-err
returns-in_err-put_next-clause-err c =
    fault_onward
    (λ fault. (all : List Piece) → AreLinesSoFar c.loop-lines.reader.whole all c.loop-lines.settings c.loop-lines.lines c.loop-lines.reader.left
    → AreLines c.loop-lines.reader.whole [] all (Err fault))
    (HasTclFault c.args.text.now)
    (λ fault h.
    script_fault c.args.text.now fault
    (subst
    (λ w. AreLinesSoFar w (pieces_of c.args.text.now) c.loop-lines.settings c.loop-lines.lines c.loop-lines.reader.left
    → AreLines w [] (pieces_of c.args.text.now) (Err fault))
    c.loop-lines.invariant.1 (h (pieces_of c.args.text.now)) c.loop-lines.invariant.0))
    c.from_residual.result (search rules)

pub loop-lines-preserved : goal.loop-lines-preserved
loop-lines-preserved c = (
  subst
      (λ w. AreLinesSoFar w (pieces_of c.args.text.now) c.loop-lines.settings c.loop-lines.lines c.loop-lines.reader.left
      → AreLinesSoFar w (pieces_of c.args.text.now) c.put_next.new.settings c.put_next.new.lines c.put_next.new.reader.left)
      c.loop-lines.invariant.1 (c.in_ok-put_next.ensures.goes_on (pieces_of c.args.text.now)) c.loop-lines.invariant.0,
  c.put_next.ensures.whole ∙ c.loop-lines.invariant.1,
)

pub returns-clause-ok : goal.returns-clause-ok
returns-clause-ok c =
    script_whole c.args.text.now c.put_next.new.lines
    (lines_over (pieces_of c.args.text.now) (pieces_of c.args.text.now) c.put_next.new.reader.left c.put_next.new.settings c.put_next.new.lines
    (c.in_ok-put_next.ensures.over (search rules))
    (subst
    (λ w. AreLinesSoFar w (pieces_of c.args.text.now) c.loop-lines.settings c.loop-lines.lines c.loop-lines.reader.left
    → AreLinesSoFar w (pieces_of c.args.text.now) c.put_next.new.settings c.put_next.new.lines c.put_next.new.reader.left)
    c.loop-lines.invariant.1 (c.in_ok-put_next.ensures.goes_on (pieces_of c.args.text.now)) c.loop-lines.invariant.0))
