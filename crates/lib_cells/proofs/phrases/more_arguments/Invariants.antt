use Rattle.std.proofs.Common.{◌≤◌, length}
use Rattle.text_defs.specs.Tokens.{of_class}
use Rattle.text_streams.proofs.AnswerLaws.{Keeps}
use Rattle.lib_cells.specs.Groups.{goes_on, further_argument}
use Rattle.lib_cells.specs.Streams.{text_of}
use Rattle.lib_cells.proofs.phrases.more_arguments.Given as goal

abbrev pub invariant-loop-all : goal.invariant-loop-all
invariant-loop-all l = record {
  kept : Keeps text_of (of_class goes_on) (further_argument) 4294967296 l.all l.tokens l.initial.all l.initial.tokens;
  longer : length l.tokens ≤ length l.initial.tokens;
}

abbrev pub decreases-loop-all : goal.decreases-loop-all
decreases-loop-all l = length l.tokens
