use Rattle.std.proofs.Common.{◌≡◌, ◌+◌, ◌-◌, suc, sym, ◌∙◌, refl, arith, Some, None}
use Rattle.std.proofs.lemmas.Result.{err_from_is_err_and}
use Rattle.text_defs.specs.Grammar.{read}
use Rattle.text_defs.specs.Phrases.{many}
use Rattle.text_defs.specs.Tokens.{of_class}
use Rattle.lib_cells.specs.Groups.{arguments, entry, is_word, most}
use Rattle.lib_cells.specs.Kept.{attribute_entry, behind_entry, nothing}
use Rattle.lib_cells.specs.Streams.{word_view}
use Rattle.lib_cells.proofs.KeptLaws.{entry_reads, failed, row_end, row_fault, row_on, shown, stopped_as}
use Rattle.lib_cells.proofs.ReadLaws.{attribute_reads, behind_reads, block_reads, other_reads, then_reads}
use Rattle.lib_cells.proofs.skips.+skip.Goals as goal

pub entries_skipped-returns-in_err-entry_skipped-clause-answers : goal.entries_skipped-returns-in_err-entry_skipped-clause-answers
entries_skipped-returns-in_err-entry_skipped-clause-answers t c =
    let p = err_from_is_err_and c.from_residual.result c.from_residual.ensures.1 in
    let n : 4294967295 - c.loop-depth.count ≡ suc (4294967295 - c.loop-depth.count - 1) = omega (arith, c.if-count.false, c.loop-depth.auto.count-fits) in
    rw (p.1, p.2)
    (stopped_as {X = Unit {0}} {Y = Unit {0}} nothing nothing nothing nothing (attribute_entry c.args.depth) (many most (of_class is_word) (entry c.args.depth)) c.loop-depth.tokens c.args.tokens.now
    c.entry_skipped.new.tokens c.in_err-entry_skipped.field-0.0 c.in_err-entry_skipped.ensures.answers
    (λ e. failed nothing (read (many most (of_class is_word) (entry c.args.depth)) c.args.tokens.now) c.entry_skipped.new.tokens
    (sym c.loop-depth.invariant.kept ∙ row_fault (of_class is_word) (entry c.args.depth) nothing (4294967295 - c.loop-depth.count) (4294967295 - c.loop-depth.count - 1)
    c.loop-depth.tokens c.entry_skipped.new.tokens n (sym c.is_next.ensures ∙ c.loop-depth-test.true) (entry_reads c.args.depth c.loop-depth.tokens ∙ e))))

pub entries_skipped-loop-depth-preserved : goal.entries_skipped-loop-depth-preserved
entries_skipped-loop-depth-preserved t c =
    let n : 4294967295 - c.loop-depth.count ≡ suc (4294967295 - (c.loop-depth.count + 1)) = omega (arith, c.if-count.false, c.loop-depth.auto.count-fits) in
    let x = c.in_ok-entry_skipped.ensures.answers in
    record {
      kept =
          row_on (of_class is_word) (entry c.args.depth) nothing nothing (4294967295 - c.loop-depth.count) (4294967295 - (c.loop-depth.count + 1)) c.loop-depth.tokens
          c.entry_skipped.new.tokens x.0 n (sym c.is_next.ensures ∙ c.loop-depth-test.true) (entry_reads c.args.depth c.loop-depth.tokens ∙ x.1) (λ _. refl)
          ∙ c.loop-depth.invariant.kept;
      longer = omega (arith, c.in_ok-entry_skipped.ensures.shorter, c.loop-depth.invariant.longer);
    }

pub entries_skipped-returns-clause-answers : goal.entries_skipped-returns-clause-answers
entries_skipped-returns-clause-answers t c =
    shown nothing (read (many most (of_class is_word) (entry c.args.depth)) c.args.tokens.now) tt c.loop-depth.tokens
    (sym c.loop-depth.invariant.kept
    ∙ row_end (of_class is_word) (entry c.args.depth) nothing (4294967295 - c.loop-depth.count) c.loop-depth.tokens (sym c.is_next.ensures ∙ c.loop-depth-test.false))

pub entry_skipped-returns-then-is_next-clause-answers : goal.entry_skipped-returns-then-is_next-clause-answers
entry_skipped-returns-then-is_next-clause-answers t c =
    let m = c.in_ok-value.ensures.answers in
    let w = word_view c.in_ok-one.field-0 in (
      Some (record { name = w.text; value = m.0 }),
      attribute_reads (λ x. Some x) (λ _ _. behind_entry c.args.depth) c.args.tokens.now c.one.new.self c.value.new.tokens w m.0
          c.in_ok-one.ensures.answers (sym c.is_next.ensures ∙ c.if-is_next.true) m.1,
      refl,
    )

pub entry_skipped-returns-clause-answers : goal.entry_skipped-returns-clause-answers
entry_skipped-returns-clause-answers t c =
    let m = c.in_ok-only_argument.ensures.answers in (
      None,
      other_reads (λ x. Some x) (λ _ _. behind_entry c.args.depth) c.args.tokens.now c.one.new.self (word_view c.in_ok-one.field-0) c.in_ok-one.ensures.answers
          (sym c.is_next.ensures ∙ c.if-is_next.false)
          ∙ then_reads arguments (λ _. behind_entry c.args.depth) c.one.new.self c.only_argument.new.tokens m.0 m.1 ∙ c.in_ok-behind_skipped.ensures.answers,
      refl,
    )

pub block_skipped-returns-clause-answers : goal.block_skipped-returns-clause-answers
block_skipped-returns-clause-answers t c =
    let m = c.in_ok-entries_skipped.ensures.answers in (
      m.0,
      block_reads (entry c.args.depth) c.args.tokens.now c.one.new.self c.entries_skipped.new.tokens c.block_end.new.tokens _ m.0
          c.in_ok-one.ensures.answers m.1 c.in_ok-block_end.ensures.answers,
      refl,
    )

pub behind_skipped-returns-clause-answers : goal.behind_skipped-returns-clause-answers
behind_skipped-returns-clause-answers t c =
    let m = c.in_ok-block_skipped.ensures.answers in
    behind_reads c.args.depth (c.args.depth - 1) c.args.tokens.now c.block_skipped.new.tokens m.0 (omega arith) (sym c.is_next.ensures ∙ c.if-not-is_next.false) m.1
