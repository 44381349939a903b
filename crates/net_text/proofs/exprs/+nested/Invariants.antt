use Rattle.std.proofs.Common.{◌+◌, ◌*◌, ◌≤◌, length}
use Rattle.pw_defs.specs.declared.netlist.Expr.{Expr}
use Rattle.text_defs.specs.Tokens.{of_class}
use Rattle.net_text.specs.NetlistClasses.{is_comma}
use Rattle.net_text.specs.NetlistGrammar.{nested, unlined}
use Rattle.net_text.specs.CommaLists.{comma_then}
use Rattle.net_text.specs.ParserViews.{alone}
use Rattle.text_streams.proofs.AnswerLaws.{Keeps}
use Rattle.net_text.proofs.exprs.+nested.Given as goal

abbrev pub decreases-nested : goal.decreases-nested
decreases-nested l = 6 * l.depth

abbrev pub decreases-part : goal.decreases-part
decreases-part l = 6 * l.depth + 1

abbrev pub decreases-comma_part : goal.decreases-comma_part
decreases-comma_part l = 6 * l.depth + 2

abbrev pub decreases-more_parts : goal.decreases-more_parts
decreases-more_parts l = 6 * l.depth + 3

abbrev pub decreases-parts : goal.decreases-parts
decreases-parts l = 6 * l.depth + 4

abbrev pub decreases-concatenation : goal.decreases-concatenation
decreases-concatenation l = 6 * l.depth + 5

-- what was read and what is left to read are what there was to read
abbrev pub invariant-more_parts-loop-alloc : goal.invariant-more_parts-loop-alloc
invariant-more_parts-loop-alloc l = record {
  kept : Keeps (λ (e : Expr). e) (of_class is_comma) (comma_then (unlined (nested (alone l.constants) l.depth))) 4294967296 l.all l.tokens l.initial.all l.initial.tokens;
  longer : length l.tokens ≤ length l.initial.tokens;
}

abbrev pub decreases-more_parts-loop-alloc : goal.decreases-more_parts-loop-alloc
decreases-more_parts-loop-alloc l = length l.tokens
