use Rattle.net_text.specs.DeclarationViews.{declaration_view}
use Rattle.net_modules.proofs.TableLaws.{table_push}
use Rattle.net_modules.proofs.tables.SaidTable.add.Goals as goal

pub returns-clause-table : goal.returns-clause-table
returns-clause-table c = table_push c.args.self.now _ (declaration_view c.args.declaration.now) c.in_ok-before.ensures.more
