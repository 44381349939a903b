use Rattle.std.proofs.Common.{◌≡◌, ◌≤◌, ◌+◌, ◌-◌, ◌*◌, length}
use Rattle.text_defs.specs.Grammar.{read}
use Rattle.text_defs.specs.Phrases.{many}
use Rattle.text_defs.specs.Tokens.{of_class}
use Rattle.lib_cells.specs.Groups.{entry, is_word}
use Rattle.lib_cells.specs.Kept.{nothing, seen}
use Rattle.lib_cells.proofs.skips.+skip.Given as goal

abbrev pub decreases-behind_skipped : goal.decreases-behind_skipped
decreases-behind_skipped l = 4 * l.depth

abbrev pub decreases-entry_skipped : goal.decreases-entry_skipped
decreases-entry_skipped l = 4 * l.depth + 1

abbrev pub decreases-entries_skipped : goal.decreases-entries_skipped
decreases-entries_skipped l = 4 * l.depth + 2

abbrev pub decreases-block_skipped : goal.decreases-block_skipped
decreases-block_skipped l = 4 * l.depth + 3

abbrev pub invariant-entries_skipped-loop-depth : goal.invariant-entries_skipped-loop-depth
invariant-entries_skipped-loop-depth l = record {
  kept : seen nothing (read (many (4294967295 - l.count) (of_class is_word) (entry l.depth)) l.tokens) ≡ seen nothing (read (many 4294967295 (of_class is_word) (entry l.depth)) l.initial.tokens);
  longer : length l.tokens ≤ length l.initial.tokens;
}

abbrev pub decreases-entries_skipped-loop-depth : goal.decreases-entries_skipped-loop-depth
decreases-entries_skipped-loop-depth l = length l.tokens
