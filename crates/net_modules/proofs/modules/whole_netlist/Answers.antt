use Rattle.std.proofs.Common.{sym, ◌∙◌}
use Rattle.net_text.specs.NetlistGrammar.{netlist}
use Rattle.net_modules.proofs.ToldLaws.{left_over, nothing_left}
use Rattle.net_modules.proofs.modules.whole_netlist.Goals as goal

pub returns-then-is_some : goal.returns-then-is_some
returns-then-is_some c =
    left_over netlist c.args.tokens.now c.modules.new.tokens c.in_ok-whole.ensures.0 c.peek.result c.in_ok-whole.ensures.1 c.peek.ensures (sym c.is_some.ensures ∙ c.if-is_some.true)

pub returns : goal.returns
returns c = (
  c.in_ok-whole.ensures.0,
  nothing_left netlist c.args.tokens.now c.modules.new.tokens c.in_ok-whole.ensures.0 c.peek.result c.in_ok-whole.ensures.1 c.peek.ensures (sym c.is_some.ensures ∙ c.if-is_some.false),
  c.in_ok-whole.ensures.2,
)
