use Rattle.std.proofs.Common.{◌≤◌, [], length}
use Rattle.text_defs.specs.Tokens.{of_class}
use Rattle.net_text.specs.NetlistClasses.{is_comma}
use Rattle.net_text.specs.NetlistGrammar.{further_port}
use Rattle.net_text.specs.HeaderViews.{port_view}
use Rattle.text_streams.proofs.AnswerLaws.{Keeps}
use Rattle.net_text.proofs.headers.further_ports.Given as goal

abbrev pub invariant-loop-all : goal.invariant-loop-all
invariant-loop-all l = record {
  kept : Keeps port_view (of_class is_comma) further_port 4294967295 l.all l.tokens [] l.initial.tokens;
  longer : length l.tokens ≤ length l.initial.tokens;
}

abbrev pub decreases-loop-all : goal.decreases-loop-all
decreases-loop-all l = length l.tokens
