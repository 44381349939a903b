use Rattle.std.proofs.Common.{◌≡◌, List, ℕ, [], Some, option_map, ap, sym, ◌∙◌, subst}
use Rattle.std.proofs.lemmas.Option.{get_or_from_slice_get}
use Rattle.script_defs.specs.World.{Object}
use Rattle.std.specs.Prelude.{Option}
use Rattle.script_world.specs.Objects.{IsNamed, simple_name}
use Rattle.script_world.specs.Seen.{name_at}
use Rattle.script_world.proofs.ObjectLemmas.{object_there, row_fits_there, scope_fits}
use Rattle.script_world.proofs.objects.Objects.name.Goals as goal

pub name-scope-requires : goal.name-scope-requires
name-scope-requires c =
    scope_fits c.self.inside.places c.self.inside.rows c.args.self.now c.self.invariant c.self.view_is c.args.at c.row.result.now c.row.ensures

pub behind-requires : goal.behind-requires
behind-requires c =
    let scope : name_at c.self.inside.places c.row.result.now.scope ≡ c.name-scope.result.now =
    get_or_from_slice_get c.self.inside.places c.row.result.now.scope c.name-scope.result.now [] c.name-scope.ensures in
    let P : List ℕ → Type 0 = λ path. IsNamed path c.name-whole.result.now in
    subst P scope
    (row_fits_there c.self.inside.places c.self.inside.rows c.args.self.now c.self.invariant c.self.view_is c.args.at c.name-whole.result.now c.row.result.now
    c.name-whole.ensures c.row.ensures).named

pub returns : goal.returns
returns c =
    let scope : name_at c.self.inside.places c.row.result.now.scope ≡ c.name-scope.result.now =
    get_or_from_slice_get c.self.inside.places c.row.result.now.scope c.name-scope.result.now [] c.name-scope.ensures in
    ap (λ (o : Option Object). option_map (λ (x : Object). x.name) o)
    (object_there c.self.inside.places c.self.inside.rows c.args.self.now c.self.invariant c.self.view_is c.args.at c.name-whole.result.now c.row.result.now
    c.name-whole.ensures c.row.ensures)
    ∙ ap (λ (path : List ℕ). Some (simple_name path c.name-whole.result.now)) scope
    ∙ ap Some (sym c.behind.ensures)
