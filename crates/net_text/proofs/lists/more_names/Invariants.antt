use Rattle.std.proofs.Common.{◌≤◌, length}
use Rattle.text_defs.specs.Tokens.{of_class}
use Rattle.net_text.specs.NetlistClasses.{is_comma}
use Rattle.net_text.specs.NetlistGrammar.{name}
use Rattle.net_text.specs.CommaLists.{named_view, comma_then}
use Rattle.text_streams.proofs.AnswerLaws.{Keeps}
use Rattle.net_text.proofs.lists.more_names.Given as goal

abbrev pub invariant-loop-all : goal.invariant-loop-all
invariant-loop-all l = record {
  kept : Keeps named_view (of_class is_comma) (comma_then (name)) 4294967296 l.all l.tokens l.initial.all l.initial.tokens;
  longer : length l.tokens ≤ length l.initial.tokens;
}

abbrev pub decreases-loop-all : goal.decreases-loop-all
decreases-loop-all l = length l.tokens
