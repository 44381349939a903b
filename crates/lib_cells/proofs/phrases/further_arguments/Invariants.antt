use Rattle.std.proofs.Common.{◌≡◌, ◌≤◌, ◌-◌, length}
use Rattle.text_defs.specs.Grammar.{read}
use Rattle.text_defs.specs.Phrases.{many}
use Rattle.text_defs.specs.Tokens.{of_class}
use Rattle.lib_cells.specs.Groups.{further_argument, goes_on}
use Rattle.lib_cells.specs.Kept.{are_some, seen}
use Rattle.lib_cells.proofs.KeptLaws.{are_some_behind}
use Rattle.lib_cells.proofs.phrases.further_arguments.Given as goal

abbrev pub invariant-loop-count : goal.invariant-loop-count
invariant-loop-count l = record {
  kept : seen (are_some_behind l.any) (read (many (4294967295 - l.count) (of_class goes_on) further_argument) l.tokens) ≡ seen are_some (read (many 4294967295 (of_class goes_on) further_argument) l.initial.tokens);
  longer : length l.tokens ≤ length l.initial.tokens;
}

abbrev pub decreases-loop-count : goal.decreases-loop-count
decreases-loop-count l = length l.tokens
