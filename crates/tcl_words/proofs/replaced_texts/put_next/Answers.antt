use Rattle.std.proofs.Common.{rules, refl, sym, ◌∙◌}
use Rattle.tcl_words.specs.Places.{piece_view}
use Rattle.tcl_words.specs.Readings.{manner_of, stop_of}
use Rattle.tcl_words.proofs.ReplacingSteps.{plain_goes, stops_at, stops_at_end}
use Rattle.tcl_words.proofs.replaced_texts.put_next.Goals as goal

pub returns-in_default-clause-stops : goal.returns-in_default-clause-stops
returns-in_default-clause-stops c = λ e. (
  refl,
  refl,
  λ vars. stops_at_end c.args.reader.now.whole (manner_of c.args.kind) vars (stop_of c.args.kind c.args.quoted) c.args.reader.now.left (search rules),
)

pub returns-then-is_stop_of-clause-stops : goal.returns-then-is_stop_of-clause-stops
returns-then-is_stop_of-clause-stops c = λ e. (
  refl,
  refl,
  λ vars.
      stops_at c.args.reader.now.whole (manner_of c.args.kind) vars (stop_of c.args.kind c.args.quoted) (piece_view c.in-Some.piece) c.args.reader.now.left
      c.next.new.self.left (search rules) (sym c.is_stop_of.ensures ∙ c.if-is_stop_of.true),
)

pub returns-clause-goes_on : goal.returns-clause-goes_on
returns-clause-goes_on c = λ e vars holds.
    plain_goes c.args.reader.now.whole (manner_of c.args.kind) vars (stop_of c.args.kind c.args.quoted) (piece_view c.in-Some.piece) c.args.reader.now.left
    c.next.new.self.left c.args.text.now.items c.put_meant.new.text.items (search rules) (sym c.is_stop_of.ensures ∙ c.if-is_stop_of.false)
    (sym c.replaces.ensures ∙ c.if-replaces.false) c.in_ok-put_meant.ensures
