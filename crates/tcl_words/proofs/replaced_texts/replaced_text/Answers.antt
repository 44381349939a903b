use Rattle.std.proofs.Common.{rules, refl, sym, subst, Ok, Err, [], List, ℕ}
use Rattle.tcl_words.specs.Readings.{manner_of, stop_of}
use Rattle.tcl_words.specs.Settings.{Holds}
use Rattle.tcl_words.specs.Words.{IsReplaced, Variables}
use Rattle.tcl_words.proofs.Onward.{failed_onward}
use Rattle.tcl_words.proofs.ReplacingSteps.{all_read, with_none}
use Rattle.tcl_words.proofs.replaced_texts.replaced_text.Goals as goal

pub loop-text-init : goal.loop-text-init
loop-text-init c = (
  refl,
  λ vars holds read h.
      subst (IsReplaced c.args.reader.now.whole (manner_of c.args.kind) vars (stop_of c.args.kind c.args.quoted) c.args.reader.now.left)
      (sym (with_none c.new-text.result.items read (search rules))) h,
)

pub returns-in_err-put_next-clause-err : goal.returns-in_err-put_next-clause-err
returns-in_err-put_next-clause-err c =
    failed_onward {Y = List ℕ}
    (λ read. (vars : Variables) → Holds c.args.settings.now vars
    → IsReplaced c.loop-text.reader.whole (manner_of c.args.kind) vars (stop_of c.args.kind c.args.quoted) c.loop-text.reader.left read)
    (λ read. (vars : Variables) → Holds c.args.settings.now vars
    → IsReplaced c.args.reader.now.whole (manner_of c.args.kind) vars (stop_of c.args.kind c.args.quoted) c.args.reader.now.left read)
    (λ fault h vars holds.
    c.loop-text.invariant.1 vars holds (Err fault)
    (subst (λ w. IsReplaced w (manner_of c.args.kind) vars (stop_of c.args.kind c.args.quoted) c.loop-text.reader.left (Err fault)) c.loop-text.invariant.0 (h vars holds)))
    _ (search rules)

pub returns-then-not-branch-clause-ok : goal.returns-then-not-branch-clause-ok
returns-then-not-branch-clause-ok c = λ vars holds.
    let stops = c.in_ok-put_next.ensures.stops c.if-not-branch.true in
    all_read c.args.reader.now.whole (manner_of c.args.kind) vars (stop_of c.args.kind c.args.quoted) c.args.reader.now.left c.loop-text.reader.left
    c.put_next.new.reader.left c.loop-text.text.items (c.loop-text.invariant.1 vars holds)
    (subst (λ w. IsReplaced w (manner_of c.args.kind) vars (stop_of c.args.kind c.args.quoted) c.loop-text.reader.left (Ok ([], c.loop-text.reader.left)))
    c.loop-text.invariant.0 (stops.2 vars))
    stops.1 c.put_next.new.text.items stops.0
