use Rattle.std.proofs.Common.{◌≡◌, ℕ, List, [], ◌∷◌, ◌++◌, None, sym, ap, ◌∙◌}
use Rattle.list_defs.specs.Members.{place_of, same_name}
use Rattle.named_rows.proofs.RowLemmas.{names_of_view, count-push, zip-push}
use Rattle.named_rows.proofs.rows.NamedRows.add.Goals as goal

pub invariant_of-self-2 : goal.invariant_of-self-2
invariant_of-self-2 g c =
    let none : place_of (same_name c.args.name.now) c.self.inside.names ≡ None =
    ap (place_of (same_name c.args.name.now)) (sym (names_of_view c.self.inside.names c.self.inside.rows.items c.args.self.now c.self.invariant c.self.view_is)) ∙ c.requires in
    let gained : c.number.new.self ≡ c.self.inside.names ++ c.args.name.now ∷ [] = rw none at c.in_ok-number.ensures.names in
    rw (gained, c.push_reserved.ensures.items, c.reserve.ensures.items)
    (count-push c.self.inside.names c.self.inside.rows.items c.args.name.now c.args.row c.self.invariant)

pub returns-clause-ok : goal.returns-clause-ok
returns-clause-ok g c =
    let none : place_of (same_name c.args.name.now) c.self.inside.names ≡ None =
    ap (place_of (same_name c.args.name.now)) (sym (names_of_view c.self.inside.names c.self.inside.rows.items c.args.self.now c.self.invariant c.self.view_is)) ∙ c.requires in
    let gained : c.number.new.self ≡ c.self.inside.names ++ c.args.name.now ∷ [] = rw none at c.in_ok-number.ensures.names in
    rw (gained, c.push_reserved.ensures.items, c.reserve.ensures.items)
    (zip-push c.self.inside.names c.self.inside.rows.items c.args.name.now c.args.row c.self.invariant
    ∙ ap (λ (rows : List (List ℕ × g.row.T.Denot)). rows ++ (c.args.name.now, c.args.row) ∷ []) c.self.view_is)
