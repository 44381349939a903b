use Rattle.std.proofs.Common.{List, ℕ, ap, ◌∙◌, slice_get, arith}
use Rattle.named_rows.proofs.RowLemmas.{names_of_view, count_of_view}
use Rattle.named_rows.proofs.rows.NamedRows.name.Goals as goal

pub name-requires : goal.name-requires
name-requires g c = omega (arith, c.requires, count_of_view c.self.inside.names c.self.inside.rows.items c.args.self.now c.self.invariant c.self.view_is)

pub returns : goal.returns
returns g c =
    ap (λ (names : List (List ℕ)). slice_get names c.args.at)
    (names_of_view c.self.inside.names c.self.inside.rows.items c.args.self.now c.self.invariant c.self.view_is)
    ∙ c.name.ensures
