use Rattle.std.proofs.Common.{◌∙◌, arith}
use Rattle.net_text.proofs.StepLaws.{line_behind}
use Rattle.net_text.proofs.steps.behind_byte.Goals as goal

pub returns-clause-at : goal.returns-clause-at
returns-clause-at c = record {
  within = omega (arith, c.requires.some);
  line =
      c.line_behind.ensures ∙ line_behind c.args.place.text.now c.args.place.at c.args.byte c.args.place.line c.requires.some c.requires.byte c.requires.at.line;
}
