use Rattle.std.proofs.Common.{List, ℕ, ◌<◌, length, ap, refl, sym, ◌∙◌, slice_get, arith}
use Rattle.std.proofs.lemmas.Option.{slice_get_read}
use Rattle.named_rows.specs.Rows.{with_row}
use Rattle.named_rows.proofs.RowLemmas.{rows_of_view, count_of_view, with_row-zip}
use Rattle.named_rows.proofs.rows.NamedRows.row_mut.Goals as goal

pub index_mut-requires : goal.index_mut-requires
index_mut-requires g c = omega (arith, c.requires, c.self.invariant, count_of_view c.self.inside.names c.self.inside.rows.items c.args.self.now c.self.invariant c.self.view_is)

pub returns : goal.returns
returns g c =
    let within : c.args.at < length c.self.inside.rows.items =
    omega (arith, c.requires, c.self.invariant, count_of_view c.self.inside.names c.self.inside.rows.items c.args.self.now c.self.invariant c.self.view_is) in (
      (
        refl {a = c.index_mut.result.ghost_name},
        λ w. sym (with_row-zip c.self.inside.names c.self.inside.rows.items c.args.at w)
            ∙ ap (λ (rows : List (List ℕ × g.row.T.Denot)). with_row rows c.args.at w) c.self.view_is,
      ),
      record {
        writes_back = tt;
        row = ap (λ (rows : List g.row.T.Denot). slice_get rows c.args.at)
            (rows_of_view c.self.inside.names c.self.inside.rows.items c.args.self.now c.self.invariant c.self.view_is)
            ∙ slice_get_read c.self.inside.rows.items (length c.self.inside.rows.items) c.args.at c.index_mut.result.now refl within c.index_mut.ensures.value;
      },
    )
