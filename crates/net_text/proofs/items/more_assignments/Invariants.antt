use Rattle.std.proofs.Common.{◌≤◌, length}
use Rattle.text_defs.specs.Tokens.{of_class}
use Rattle.net_text.specs.NetlistClasses.{is_comma}
use Rattle.net_text.specs.NetlistGrammar.{assignment}
use Rattle.net_text.specs.CommaLists.{comma_then}
use Rattle.net_text.specs.ItemViews.{itself}
use Rattle.text_streams.proofs.AnswerLaws.{Keeps}
use Rattle.net_text.proofs.items.more_assignments.Given as goal

abbrev pub invariant-loop-alloc : goal.invariant-loop-alloc
invariant-loop-alloc l = record {
  kept : Keeps itself (of_class is_comma) (comma_then (assignment)) 4294967296 l.all l.tokens l.initial.all l.initial.tokens;
  longer : length l.tokens ≤ length l.initial.tokens;
}

abbrev pub decreases-loop-alloc : goal.decreases-loop-alloc
decreases-loop-alloc l = length l.tokens
