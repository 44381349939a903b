use Rattle.std.proofs.Common.{ap, ◌∙◌}
use Rattle.list_defs.specs.Members.{all_differ, same_name}
use Rattle.named_rows.proofs.RowLemmas.{names_of_view, count_of_view}
use Rattle.named_rows.proofs.rows.NamedRows.len.Goals as goal

pub returns-clause-len : goal.returns-clause-len
returns-clause-len g c = c.len.ensures.len ∙ count_of_view c.self.inside.names c.self.inside.rows.items c.args.self.now c.self.invariant c.self.view_is

pub returns-clause-differ : goal.returns-clause-differ
returns-clause-differ g c =
    ap (all_differ same_name) (names_of_view c.self.inside.names c.self.inside.rows.items c.args.self.now c.self.invariant c.self.view_is) ∙ c.len.ensures.differ
