use Rattle.std.proofs.Common.{◌≡◌, ◌≤◌, ◌-◌, ◌++◌, length, map}
use Rattle.text_defs.specs.Grammar.{read}
use Rattle.text_defs.specs.Phrases.{many}
use Rattle.text_defs.specs.Tokens.{of_class}
use Rattle.lib_cells.specs.Kept.{seen}
use Rattle.lib_cells.specs.Groups.{is_word, library_entry, present}
use Rattle.lib_cells.specs.CellViews.{placed_of}
use Rattle.lib_cells.proofs.libraries.library_entries.Given as goal

abbrev pub invariant-loop-alloc : goal.invariant-loop-alloc
invariant-loop-alloc l = record {
  kept : seen (λ xs. (l.all ++ map placed_of (present xs))) (read (many (4294967295 - l.count) (of_class is_word) (library_entry 97)) l.tokens) ≡ seen (λ xs. map placed_of (present xs)) (read (many 4294967295 (of_class is_word) (library_entry 97)) l.initial.tokens);
  longer : length l.tokens ≤ length l.initial.tokens;
}

abbrev pub decreases-loop-alloc : goal.decreases-loop-alloc
decreases-loop-alloc l = length l.tokens
