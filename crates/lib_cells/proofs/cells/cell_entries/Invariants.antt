use Rattle.std.proofs.Common.{◌≡◌, ◌≤◌, ◌-◌, length}
use Rattle.text_defs.specs.Grammar.{read}
use Rattle.text_defs.specs.Phrases.{many}
use Rattle.text_defs.specs.Tokens.{of_class}
use Rattle.lib_cells.specs.Kept.{seen}
use Rattle.lib_cells.specs.Groups.{cell_entry, is_word, present}
use Rattle.lib_cells.specs.CellViews.{draft_view}
use Rattle.lib_cells.specs.Marks.{cell_said, said_then}
use Rattle.lib_cells.proofs.cells.cell_entries.Given as goal

abbrev pub invariant-loop-alloc : goal.invariant-loop-alloc
invariant-loop-alloc l = record {
  kept : seen (λ xs. said_then (draft_view l.all) (cell_said (present xs))) (read (many (4294967295 - l.count) (of_class is_word) (cell_entry l.depth)) l.tokens) ≡ seen (λ xs. cell_said (present xs)) (read (many 4294967295 (of_class is_word) (cell_entry l.depth)) l.initial.tokens);
  longer : length l.tokens ≤ length l.initial.tokens;
}

abbrev pub decreases-loop-alloc : goal.decreases-loop-alloc
decreases-loop-alloc l = length l.tokens
