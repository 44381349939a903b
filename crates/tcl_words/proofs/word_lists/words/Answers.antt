use Rattle.std.proofs.Common.{rules, Ok, Err, length, ◌<◌, sym, ◌∙◌, subst, arith}
use Rattle.tcl_words.specs.Readings.{manner_of}
use Rattle.tcl_words.specs.Settings.{Holds}
use Rattle.tcl_words.specs.Words.{AreWords, IsWord, Variables}
use Rattle.tcl_words.proofs.Onward.{fault_onward}
use Rattle.tcl_words.proofs.TextTrees.{held, variables_of}
use Rattle.tcl_words.proofs.WordListSteps.{behind_gaps, fault_behind, on_word, word_goes, words_over}
use Rattle.tcl_words.proofs.WordReading.{word_shorter}
use Rattle.tcl_words.proofs.word_lists.words.Goals as goal

pub returns-then-ends-clause-ok : goal.returns-then-ends-clause-ok
returns-then-ends-clause-ok c = λ vars holds.
    words_over c.args.reader.now.whole (manner_of c.args.kind) vars c.args.reader.now.left c.skip_gaps.new.reader.left c.loop-alloc.words
    (sym c.ends.ensures ∙ c.if-ends.true)
    (behind_gaps c.args.reader.now.whole (manner_of c.args.kind) vars c.loop-alloc.reader.whole c.args.reader.now.left c.loop-alloc.reader.left
    c.skip_gaps.new.reader.left c.loop-alloc.words c.loop-alloc.invariant.0 (c.skip_gaps.ensures.same vars) (c.loop-alloc.invariant.1 vars holds))

pub returns-in_err-word-clause-err : goal.returns-in_err-word-clause-err
returns-in_err-word-clause-err c =
    fault_onward
    (λ fault. (vars : Variables) → Holds c.args.settings.now vars
    → IsWord c.skip_gaps.new.reader.whole (manner_of c.args.kind) vars c.skip_gaps.new.reader.left (Err fault))
    (λ fault. (vars : Variables) → Holds c.args.settings.now vars
    → AreWords c.args.reader.now.whole (manner_of c.args.kind) vars c.args.reader.now.left (Err fault))
    (λ fault h vars holds.
    fault_behind c.args.reader.now.whole (manner_of c.args.kind) vars c.args.reader.now.left c.skip_gaps.new.reader.left c.loop-alloc.words fault
    (on_word (manner_of c.args.kind) c.skip_gaps.new.reader.left c.skip_gaps.ensures.ink (sym c.ends.ensures ∙ c.if-ends.false))
    (subst (λ w. IsWord w (manner_of c.args.kind) vars c.skip_gaps.new.reader.left (Err fault)) (c.skip_gaps.ensures.whole ∙ c.loop-alloc.invariant.0)
    (h vars holds))
    (behind_gaps c.args.reader.now.whole (manner_of c.args.kind) vars c.loop-alloc.reader.whole c.args.reader.now.left c.loop-alloc.reader.left
    c.skip_gaps.new.reader.left c.loop-alloc.words c.loop-alloc.invariant.0 (c.skip_gaps.ensures.same vars) (c.loop-alloc.invariant.1 vars holds)))
    c.from_residual.result (search rules)

pub loop-alloc-preserved : goal.loop-alloc-preserved
loop-alloc-preserved c = (
  c.word.ensures.whole ∙ c.skip_gaps.ensures.whole ∙ c.loop-alloc.invariant.0,
  λ vars holds.
      word_goes c.args.reader.now.whole (manner_of c.args.kind) vars c.args.reader.now.left c.skip_gaps.new.reader.left c.word.new.reader.left
      c.loop-alloc.words c.put_word.new.words c.in_ok-word.word.items
      (on_word (manner_of c.args.kind) c.skip_gaps.new.reader.left c.skip_gaps.ensures.ink (sym c.ends.ensures ∙ c.if-ends.false))
      (subst (λ w. IsWord w (manner_of c.args.kind) vars c.skip_gaps.new.reader.left (Ok (c.in_ok-word.word.items, c.word.new.reader.left)))
      (c.skip_gaps.ensures.whole ∙ c.loop-alloc.invariant.0) (c.in_ok-word.ensures.ok vars holds))
      c.in_ok-put_word.ensures
      (behind_gaps c.args.reader.now.whole (manner_of c.args.kind) vars c.loop-alloc.reader.whole c.args.reader.now.left c.loop-alloc.reader.left
      c.skip_gaps.new.reader.left c.loop-alloc.words c.loop-alloc.invariant.0 (c.skip_gaps.ensures.same vars) (c.loop-alloc.invariant.1 vars holds)),
)

pub loop-alloc-smaller : goal.loop-alloc-smaller
loop-alloc-smaller c =
    let vars = variables_of c.args.settings.now in
    let less : length c.word.new.reader.left < length c.skip_gaps.new.reader.left =
    word_shorter c.skip_gaps.new.reader.whole (manner_of c.args.kind) vars c.skip_gaps.new.reader.left (Ok (c.in_ok-word.word.items, c.word.new.reader.left))
    (on_word (manner_of c.args.kind) c.skip_gaps.new.reader.left c.skip_gaps.ensures.ink (sym c.ends.ensures ∙ c.if-ends.false))
    (c.in_ok-word.ensures.ok vars (held c.args.settings.now))
    in
    omega (arith, c.skip_gaps.ensures.shorter)
