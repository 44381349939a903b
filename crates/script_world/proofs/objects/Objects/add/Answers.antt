use Rattle.script_world.specs.declared.bodies.ObjectRow.{ObjectRow}
use Rattle.script_world.proofs.ObjectLemmas.{name_free, objects_added, row_fits, rows_added}
use Rattle.script_world.proofs.objects.Objects.add.Goals as goal

pub add-requires : goal.add-requires
add-requires c =
    let row : ObjectRow = record { scope = c.args.scope; origin = c.args.origin; body = c.args.body } in
    name_free c.self.inside.places c.self.inside.rows c.args.self.now c.self.invariant c.self.view_is c.args.whole.now row c.requires.free

pub invariant_of-self-2 : goal.invariant_of-self-2
invariant_of-self-2 c =
    let row : ObjectRow = record { scope = c.args.scope; origin = c.args.origin; body = c.args.body } in
    let fits = row_fits c.self.inside.places c.self.inside.rows c.args.self.now c.self.invariant c.self.view_is c.args.whole.now row c.requires.scope
    c.requires.named c.requires.origin c.requires.body in
    rows_added c.self.inside.places c.self.inside.rows c.args.self.now c.self.invariant c.self.view_is c.args.whole.now row fits c.add.new.self
    c.in_ok-add.ensures.ok

pub returns-clause-objects : goal.returns-clause-objects
returns-clause-objects c =
    let row : ObjectRow = record { scope = c.args.scope; origin = c.args.origin; body = c.args.body } in
    let fits = row_fits c.self.inside.places c.self.inside.rows c.args.self.now c.self.invariant c.self.view_is c.args.whole.now row c.requires.scope
    c.requires.named c.requires.origin c.requires.body in
    objects_added c.self.inside.places c.self.inside.rows c.args.self.now c.self.invariant c.self.view_is c.args.whole.now row fits c.add.new.self
    c.in_ok-add.ensures.ok
