use Rattle.std.proofs.Common.{sym, ◌∙◌}
use Rattle.net_text.specs.DeclarationViews.{declaration_view}
use Rattle.net_modules.proofs.TableLaws.{port_added, port_passed}
use Rattle.net_modules.proofs.tables.SaidTable.add_port.Goals as goal

pub returns-then-not-says_port : goal.returns-then-not-says_port
returns-then-not-says_port c = port_passed c.args.self.now (declaration_view c.args.declaration.now) (sym c.says_port.ensures ∙ c.if-not-says_port.true)

pub returns : goal.returns
returns c = port_added c.args.self.now _ (declaration_view c.args.declaration.now) (sym c.says_port.ensures ∙ c.if-not-says_port.false) c.in_ok-add.ensures.table
