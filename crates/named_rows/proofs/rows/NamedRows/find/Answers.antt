use Rattle.std.proofs.Common.{sym, ap, ◌∙◌}
use Rattle.list_defs.specs.Members.{place_of, same_name}
use Rattle.named_rows.proofs.RowLemmas.{names_of_view}
use Rattle.named_rows.proofs.rows.NamedRows.find.Goals as goal

pub returns : goal.returns
returns g c =
    c.find.ensures
    ∙ ap (place_of (same_name c.args.name.now)) (sym (names_of_view c.self.inside.names c.self.inside.rows.items c.args.self.now c.self.invariant c.self.view_is))
