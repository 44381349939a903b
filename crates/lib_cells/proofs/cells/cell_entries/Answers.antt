use Rattle.std.proofs.Common.{◌≡◌, ◌+◌, ◌-◌, suc, sym, ap, ◌∙◌, map, arith, Ok}
use Rattle.std.proofs.lemmas.Result.{err_from_is_err_and}
use Rattle.text_defs.specs.Grammar.{read}
use Rattle.text_defs.specs.Phrases.{many}
use Rattle.text_defs.specs.Tokens.{of_class}
use Rattle.lib_cells.specs.Groups.{cell_entry, is_word, present}
use Rattle.lib_cells.specs.CellViews.{draft_view, entry_view, part_said, pins_view}
use Rattle.lib_cells.specs.Marks.{CellSaid, cell_said, said_then}
use Rattle.lib_cells.proofs.CellLaws.{nothing_said_then, said_more_parts, said_nothing_more}
use Rattle.lib_cells.proofs.KeptLaws.{failed, row_end, row_fault, row_on, seen_alike, shown, stopped_as}
use Rattle.lib_cells.proofs.cells.cell_entries.Goals as goal

pub returns-in_err-entry-clause-answers : goal.returns-in_err-entry-clause-answers
returns-in_err-entry-clause-answers c =
    let p = err_from_is_err_and c.from_residual.result c.from_residual.ensures.1 in
    let n : 4294967295 - c.loop-alloc.count ≡ suc (4294967295 - c.loop-alloc.count - 1) = omega (arith, c.if-count.false, c.loop-alloc.auto.count-fits) in
    rw (p.1, p.2)
    (stopped_as entry_view part_said draft_view (λ xs. cell_said (present xs)) (cell_entry c.args.depth) (many 4294967295 (of_class is_word) (cell_entry c.args.depth)) c.loop-alloc.tokens c.args.tokens.now
    c.cell_entry.new.tokens c.in_err-entry.field-0.0 c.in_err-entry.ensures.answers
    (λ e. failed (λ xs. cell_said (present xs)) (read (many 4294967295 (of_class is_word) (cell_entry c.args.depth)) c.args.tokens.now) c.cell_entry.new.tokens
    (sym c.loop-alloc.invariant.kept ∙ row_fault (of_class is_word) (cell_entry c.args.depth) (λ xs. said_then (draft_view c.loop-alloc.all) (cell_said (present xs))) (4294967295 - c.loop-alloc.count) (4294967295 - c.loop-alloc.count - 1)
    c.loop-alloc.tokens c.cell_entry.new.tokens n (sym c.is_next.ensures ∙ c.loop-alloc-test.true) (e))))

pub loop-alloc-preserved : goal.loop-alloc-preserved
loop-alloc-preserved c =
    let n : 4294967295 - c.loop-alloc.count ≡ suc (4294967295 - (c.loop-alloc.count + 1)) = omega (arith, c.if-count.false, c.loop-alloc.auto.count-fits) in
    let x = c.in_ok-entry.ensures.answers in
    record {
      kept =
          row_on (of_class is_word) (cell_entry c.args.depth) (λ xs. said_then (draft_view c.loop-alloc.all) (cell_said (present xs))) (λ xs. said_then (draft_view c.in_ok-all.all) (cell_said (present xs))) (4294967295 - c.loop-alloc.count) (4294967295 - (c.loop-alloc.count + 1)) c.loop-alloc.tokens
          c.cell_entry.new.tokens x.0 n (sym c.is_next.ensures ∙ c.loop-alloc-test.true) (x.1)
          (λ xs. said_more_parts (draft_view c.loop-alloc.all) (entry_view c.in_ok-entry.entry) (draft_view c.in_ok-all.all) x.0 xs c.in_ok-all.ensures.said x.2)
          ∙ c.loop-alloc.invariant.kept;
      longer = omega (arith, c.in_ok-entry.ensures.shorter, c.loop-alloc.invariant.longer);
    }

pub returns-clause-answers : goal.returns-clause-answers
returns-clause-answers c =
    shown (λ xs. cell_said (present xs)) (read (many 4294967295 (of_class is_word) (cell_entry c.args.depth)) c.args.tokens.now) (draft_view c.loop-alloc.all) c.loop-alloc.tokens
    (sym c.loop-alloc.invariant.kept
    ∙ row_end (of_class is_word) (cell_entry c.args.depth) (λ xs. said_then (draft_view c.loop-alloc.all) (cell_said (present xs))) (4294967295 - c.loop-alloc.count) c.loop-alloc.tokens (sym c.is_next.ensures ∙ c.loop-alloc-test.false)
    ∙ ap (λ b. Ok (b, c.loop-alloc.tokens)) (said_nothing_more (draft_view c.loop-alloc.all)))

pub loop-alloc-init : goal.loop-alloc-init
loop-alloc-init c =
    let start : CellSaid = record { marks = c.none.result; groups = map pins_view c.new.result } in
    record {
      kept =
          seen_alike (λ xs. said_then start (cell_said (present xs))) (λ xs. cell_said (present xs)) (read (many 4294967295 (of_class is_word) (cell_entry c.args.depth)) c.args.tokens.now)
          (λ xs. nothing_said_then start (cell_said (present xs)) c.none.ensures (ap (map pins_view) c.new.ensures));
      longer = omega arith;
    }
