use Rattle.net_text.proofs.StepLaws.{graphic_fresh, graphic_line}
use Rattle.net_text.proofs.steps.behind_graphic.Goals as goal

pub returns-clause-at : goal.returns-clause-at
returns-clause-at c = record {
  within = c.requires.size;
  line = graphic_line c.args.place.text.now c.args.place.at c.args.size c.args.place.line c.requires.size c.requires.graphic c.requires.at.line;
}

pub returns-clause-fresh : goal.returns-clause-fresh
returns-clause-fresh c = graphic_fresh c.args.place.text.now c.args.place.at c.args.size c.args.place.fresh c.requires.size c.requires.some c.requires.graphic
