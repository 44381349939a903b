use Rattle.std.proofs.Common.{ap, ◌∙◌}
use Rattle.net_runs.specs.declared.plain.Opened.{Opened}
use Rattle.net_links.proofs.linking.add_module.Goals as goal

pub rows_of-requires-clause-open : goal.rows_of-requires-clause-open
rows_of-requires-clause-open c = c.open.ensures ∙ ap (λ (o : Opened). record o { holder = c.args.holder }) c.requires.lookup

pub rows_of-requires-clause-holder : goal.rows_of-requires-clause-holder
rows_of-requires-clause-holder c = c.requires.holder
