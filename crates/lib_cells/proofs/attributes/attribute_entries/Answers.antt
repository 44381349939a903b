use Rattle.std.proofs.Common.{◌≡◌, ◌+◌, ◌-◌, suc, sym, ap, ◌∙◌, arith, Ok}
use Rattle.std.proofs.lemmas.Result.{err_from_is_err_and}
use Rattle.text_defs.specs.Grammar.{read}
use Rattle.text_defs.specs.Phrases.{many}
use Rattle.text_defs.specs.Tokens.{of_class}
use Rattle.std.proofs.Common.{◌∷◌, []}
use Rattle.lib_cells.specs.Groups.{entry, is_word, present}
use Rattle.lib_cells.specs.Kept.{attribute_entry}
use Rattle.lib_cells.specs.Marks.{marks_of, overlaid}
use Rattle.lib_cells.proofs.MarkLaws.{marks_more, none-overlaid, overlaid-none}
use Rattle.lib_cells.proofs.KeptLaws.{entry_reads, failed, row_end, row_fault, row_on, seen_alike, shown, stopped_as}
use Rattle.lib_cells.proofs.attributes.attribute_entries.Goals as goal

pub returns-in_err-entry-clause-answers : goal.returns-in_err-entry-clause-answers
returns-in_err-entry-clause-answers c =
    let p = err_from_is_err_and c.from_residual.result c.from_residual.ensures.1 in
    let n : 4294967295 - c.loop-all.count ≡ suc (4294967295 - c.loop-all.count - 1) = omega (arith, c.if-count.false, c.loop-all.auto.count-fits) in
    rw (p.1, p.2)
    (stopped_as (λ marks. marks) (λ a. marks_of (present (a ∷ []))) (λ marks. marks) (λ xs. marks_of (present xs)) (attribute_entry c.args.depth) (many 4294967295 (of_class is_word) (entry c.args.depth)) c.loop-all.tokens c.args.tokens.now
    c.attribute_entry.new.tokens c.in_err-entry.field-0.0 c.in_err-entry.ensures.answers
    (λ e. failed (λ xs. marks_of (present xs)) (read (many 4294967295 (of_class is_word) (entry c.args.depth)) c.args.tokens.now) c.attribute_entry.new.tokens
    (sym c.loop-all.invariant.kept ∙ row_fault (of_class is_word) (entry c.args.depth) (λ xs. overlaid c.loop-all.all (marks_of (present xs))) (4294967295 - c.loop-all.count) (4294967295 - c.loop-all.count - 1)
    c.loop-all.tokens c.attribute_entry.new.tokens n (sym c.is_next.ensures ∙ c.loop-all-test.true) (entry_reads c.args.depth c.loop-all.tokens ∙ e))))

pub loop-all-preserved : goal.loop-all-preserved
loop-all-preserved c =
    let n : 4294967295 - c.loop-all.count ≡ suc (4294967295 - (c.loop-all.count + 1)) = omega (arith, c.if-count.false, c.loop-all.auto.count-fits) in
    let x = c.in_ok-entry.ensures.answers in
    record {
      kept =
          row_on (of_class is_word) (entry c.args.depth) (λ xs. overlaid c.loop-all.all (marks_of (present xs))) (λ xs. overlaid c.over-all.result (marks_of (present xs))) (4294967295 - c.loop-all.count) (4294967295 - (c.loop-all.count + 1)) c.loop-all.tokens
          c.attribute_entry.new.tokens x.0 n (sym c.is_next.ensures ∙ c.loop-all-test.true) (entry_reads c.args.depth c.loop-all.tokens ∙ x.1)
          (λ xs. marks_more c.loop-all.all c.in_ok-entry.entry c.over-all.result x.0 xs c.over-all.ensures x.2)
          ∙ c.loop-all.invariant.kept;
      longer = omega (arith, c.in_ok-entry.ensures.shorter, c.loop-all.invariant.longer);
    }

pub returns-clause-answers : goal.returns-clause-answers
returns-clause-answers c =
    shown (λ xs. marks_of (present xs)) (read (many 4294967295 (of_class is_word) (entry c.args.depth)) c.args.tokens.now) (c.loop-all.all) c.loop-all.tokens
    (sym c.loop-all.invariant.kept
    ∙ row_end (of_class is_word) (entry c.args.depth) (λ xs. overlaid c.loop-all.all (marks_of (present xs))) (4294967295 - c.loop-all.count) c.loop-all.tokens (sym c.is_next.ensures ∙ c.loop-all-test.false)
    ∙ ap (λ b. Ok (b, c.loop-all.tokens)) (overlaid-none c.loop-all.all))

pub loop-all-init : goal.loop-all-init
loop-all-init c = record {
  kept =
      seen_alike (λ xs. overlaid c.none-all.result (marks_of (present xs))) (λ xs. marks_of (present xs)) (read (many 4294967295 (of_class is_word) (entry c.args.depth)) c.args.tokens.now)
      (λ xs. ap (λ m. overlaid m (marks_of (present xs))) c.none-all.ensures ∙ none-overlaid (marks_of (present xs)));
  longer = omega arith;
}
