use Rattle.std.proofs.Common.{List, ◌<◌, length, ap, ◌∙◌, slice_get, arith}
use Rattle.std.proofs.lemmas.Option.{slice_get_read}
use Rattle.std.specs.Prelude.{refl}
use Rattle.named_rows.proofs.RowLemmas.{rows_of_view, count_of_view}
use Rattle.named_rows.proofs.rows.NamedRows.row.Goals as goal

pub index-requires : goal.index-requires
index-requires g c = omega (arith, c.requires, c.self.invariant, count_of_view c.self.inside.names c.self.inside.rows.items c.args.self.now c.self.invariant c.self.view_is)

pub returns : goal.returns
returns g c =
    let within : c.args.at < length c.self.inside.rows.items =
    omega (arith, c.requires, c.self.invariant, count_of_view c.self.inside.names c.self.inside.rows.items c.args.self.now c.self.invariant c.self.view_is) in
    ap (λ (rows : List g.row.T.Denot). slice_get rows c.args.at)
    (rows_of_view c.self.inside.names c.self.inside.rows.items c.args.self.now c.self.invariant c.self.view_is)
    ∙ slice_get_read c.self.inside.rows.items (length c.self.inside.rows.items) c.args.at c.index.result.now refl within c.index.ensures
