use Rattle.text_designs.proofs.Fitting.{given_fit, given_full}
use Rattle.text_designs.proofs.designs.design_of_texts.Goals as goal

pub elaborate-requires-clause-read : goal.elaborate-requires-clause-read
elaborate-requires-clause-read c =
    given_fit c.args.libraries.now c.args.netlists.now c.args.models c.args.top.now c.in_ok-cells.cells c.in_ok-read.read.modules.modules c.in_ok-read.read.counts
    c.in_ok-cells.ensures.joined c.in_ok-read.ensures.read c.requires

pub elaborate-requires-clause-names : goal.elaborate-requires-clause-names
elaborate-requires-clause-names c =
    given_full c.args.libraries.now c.args.netlists.now c.args.models c.args.top.now c.in_ok-cells.cells c.in_ok-read.read.modules.modules c.in_ok-read.read.counts
    c.in_ok-cells.ensures.joined c.in_ok-read.ensures.read
