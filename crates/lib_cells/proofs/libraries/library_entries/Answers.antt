use Rattle.std.proofs.Common.{◌≡◌, ◌+◌, ◌-◌, ◌++◌, suc, sym, ap, ◌∙◌, map, arith, Ok}
use Rattle.std.proofs.lemmas.Result.{err_from_is_err_and}
use Rattle.text_defs.specs.Grammar.{read}
use Rattle.text_defs.specs.Phrases.{many}
use Rattle.text_defs.specs.Tokens.{of_class}
use Rattle.std.specs.Option.{option_map}
use Rattle.lib_cells.specs.Groups.{is_word, library_entry, present}
use Rattle.lib_cells.specs.CellViews.{placed_of}
use Rattle.std.proofs.lemmas.List.{append-nil}
use Rattle.lib_cells.proofs.CellLaws.{placed_more}
use Rattle.lib_cells.proofs.KeptLaws.{failed, row_end, row_fault, row_on, seen_alike, shown, stopped_as}
use Rattle.lib_cells.proofs.libraries.library_entries.Goals as goal

pub returns-in_err-cell-clause-answers : goal.returns-in_err-cell-clause-answers
returns-in_err-cell-clause-answers c =
    let p = err_from_is_err_and c.from_residual.result c.from_residual.ensures.1 in
    let n : 4294967295 - c.loop-alloc.count ≡ suc (4294967295 - c.loop-alloc.count - 1) = omega (arith, c.if-count.false, c.loop-alloc.auto.count-fits) in
    rw (p.1, p.2)
    (stopped_as (λ cell. cell) (option_map placed_of) (λ cells. cells) (λ xs. map placed_of (present xs)) (library_entry 97) (many 4294967295 (of_class is_word) (library_entry 97)) c.loop-alloc.tokens c.args.tokens.now
    c.library_entry.new.tokens c.in_err-cell.field-0.0 c.in_err-cell.ensures.answers
    (λ e. failed (λ xs. map placed_of (present xs)) (read (many 4294967295 (of_class is_word) (library_entry 97)) c.args.tokens.now) c.library_entry.new.tokens
    (sym c.loop-alloc.invariant.kept ∙ row_fault (of_class is_word) (library_entry 97) (λ xs. (c.loop-alloc.all ++ map placed_of (present xs))) (4294967295 - c.loop-alloc.count) (4294967295 - c.loop-alloc.count - 1)
    c.loop-alloc.tokens c.library_entry.new.tokens n (sym c.is_next.ensures ∙ c.loop-alloc-test.true) (e))))

pub loop-alloc-preserved : goal.loop-alloc-preserved
loop-alloc-preserved c =
    let n : 4294967295 - c.loop-alloc.count ≡ suc (4294967295 - (c.loop-alloc.count + 1)) = omega (arith, c.if-count.false, c.loop-alloc.auto.count-fits) in
    let x = c.in_ok-cell.ensures.answers in
    record {
      kept =
          row_on (of_class is_word) (library_entry 97) (λ xs. (c.loop-alloc.all ++ map placed_of (present xs))) (λ xs. (c.keep.new.all ++ map placed_of (present xs))) (4294967295 - c.loop-alloc.count) (4294967295 - (c.loop-alloc.count + 1)) c.loop-alloc.tokens
          c.library_entry.new.tokens x.0 n (sym c.is_next.ensures ∙ c.loop-alloc-test.true) (x.1)
          (λ xs. placed_more c.loop-alloc.all c.keep.new.all c.in_ok-cell.cell x.0 xs c.in_ok-keep.ensures.kept x.2)
          ∙ c.loop-alloc.invariant.kept;
      longer = omega (arith, c.in_ok-cell.ensures.shorter, c.loop-alloc.invariant.longer);
    }

pub returns-clause-answers : goal.returns-clause-answers
returns-clause-answers c =
    shown (λ xs. map placed_of (present xs)) (read (many 4294967295 (of_class is_word) (library_entry 97)) c.args.tokens.now) (c.loop-alloc.all) c.loop-alloc.tokens
    (sym c.loop-alloc.invariant.kept
    ∙ row_end (of_class is_word) (library_entry 97) (λ xs. (c.loop-alloc.all ++ map placed_of (present xs))) (4294967295 - c.loop-alloc.count) c.loop-alloc.tokens (sym c.is_next.ensures ∙ c.loop-alloc-test.false)
    ∙ ap (λ b. Ok (b, c.loop-alloc.tokens)) (append-nil c.loop-alloc.all))

pub loop-alloc-init : goal.loop-alloc-init
loop-alloc-init c = record {
  kept =
      seen_alike (λ xs. c.new-all.result ++ map placed_of (present xs)) (λ xs. map placed_of (present xs)) (read (many 4294967295 (of_class is_word) (library_entry 97)) c.args.tokens.now)
      (λ xs. ap (λ l. l ++ map placed_of (present xs)) c.new-all.ensures);
  longer = omega arith;
}
