use Rattle.std.proofs.Common.{List, ℕ, [], ap, refl, sym, slice_get, ◌∙◌}
use Rattle.std.proofs.lemmas.Option.{slice_get-get_or}
use Rattle.script_world.specs.Seen.{name_at}
use Rattle.script_world.proofs.ObjectLemmas.{places_are, read_object, scope_fits}
use Rattle.script_world.proofs.objects.Objects.scope.Goals as goal

pub returns : goal.returns
returns c =
    let places = c.self.inside.places in
    let rows = c.self.inside.rows in
    read_object places rows c.args.self.now c.self.invariant c.self.view_is (λ o. o.scope) c.args.at c.row.result.now (name_at places c.row.result.now.scope)
    (λ name. refl) c.row.ensures
    ∙ sym (slice_get-get_or places c.row.result.now.scope [] (scope_fits places rows c.args.self.now c.self.invariant c.self.view_is c.args.at c.row.result.now c.row.ensures))
    ∙ ap (λ (ps : List (List ℕ)). slice_get ps c.row.result.now.scope) (sym (places_are places rows c.args.self.now c.self.invariant c.self.view_is))
