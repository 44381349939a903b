use Rattle.std.proofs.Common.{◌≡◌, ◌≤◌, ◌-◌, length}
use Rattle.text_defs.specs.Grammar.{read}
use Rattle.text_defs.specs.Phrases.{many}
use Rattle.text_defs.specs.Tokens.{of_class}
use Rattle.lib_cells.specs.Kept.{seen}
use Rattle.lib_cells.specs.Groups.{entry, is_word, present}
use Rattle.lib_cells.specs.Marks.{marks_of, overlaid}
use Rattle.lib_cells.proofs.attributes.attribute_entries.Given as goal

abbrev pub invariant-loop-all : goal.invariant-loop-all
invariant-loop-all l = record {
  kept : seen (λ xs. overlaid l.all (marks_of (present xs))) (read (many (4294967295 - l.count) (of_class is_word) (entry l.depth)) l.tokens) ≡ seen (λ xs. marks_of (present xs)) (read (many 4294967295 (of_class is_word) (entry l.depth)) l.initial.tokens);
  longer : length l.tokens ≤ length l.initial.tokens;
}

abbrev pub decreases-loop-all : goal.decreases-loop-all
decreases-loop-all l = length l.tokens
