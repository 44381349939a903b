use Rattle.std.proofs.Common.{Some, ap, sym, ◌∙◌, subst}
use Rattle.script_world.specs.declared.bodies.Body.{Body}
use Rattle.script_world.specs.Objects.{known_in, world_of}
use Rattle.script_world.specs.Ranges.{IsBody}
use Rattle.script_world.specs.Seen.{Known, body_seen}
use Rattle.script_defs.specs.SupplySteps.{with_body}
use Rattle.script_world.proofs.ObjectLemmas.{body_after, body_fits, known_is, known_same, objects_other, read_object, rows_other}
use Rattle.script_world.proofs.objects.Objects.swap_body.Goals as goal

pub invariant_of-self : goal.invariant_of-self
invariant_of-self c =
    let P : Body → Type 0 = λ b. IsBody (known_in c.args.self.now) b in
    rows_other c.self.inside.places c.self.inside.rows c.args.self.now c.self.invariant c.self.view_is c.args.at c.row_mut.result.now c.swap.new.x
    c.row_mut.ensures.row (subst P (sym c.swap.ensures.x_after) c.requires.body)

pub returns-clause-body : goal.returns-clause-body
returns-clause-body c =
    let places = c.self.inside.places in
    let rows = c.self.inside.rows in
    let known = known_is places rows c.args.self.now c.self.invariant c.self.view_is in
    read_object places rows c.args.self.now c.self.invariant c.self.view_is (λ o. o.body) c.args.at c.row_mut.result.now _
    (λ name. ap (λ (k : Known). body_seen k c.row_mut.result.now.body) (sym known) ∙ ap (body_seen (known_in c.args.self.now)) (sym c.swap.ensures.y_after))
    c.row_mut.ensures.row

pub returns-clause-sound : goal.returns-clause-sound
returns-clause-sound c =
    let places = c.self.inside.places in
    let rows = c.self.inside.rows in
    let P : Known → Type 0 = λ k. IsBody k c.row_mut.result.now.body in
    let Q : Body → Type 0 = λ b. IsBody (known_in c.args.self.now) b in
    subst Q (sym c.swap.ensures.y_after)
    (subst P (sym (known_is places rows c.args.self.now c.self.invariant c.self.view_is))
    (body_fits places rows c.args.self.now c.self.invariant c.self.view_is c.args.at c.row_mut.result.now c.row_mut.ensures.row))

pub returns-clause-objects : goal.returns-clause-objects
returns-clause-objects c = λ name named.
    let P : Body → Type 0 = λ b. IsBody (known_in c.args.self.now) b in
    ap world_of
    (objects_other c.self.inside.places c.self.inside.rows c.args.self.now c.self.invariant c.self.view_is c.args.at c.row_mut.result.now c.swap.new.x
    c.row_mut.ensures.row name c.len-differ.ensures.differ named)
    ∙ ap (λ (b : Body). with_body (world_of c.args.self.now.objects) name (body_seen (known_in c.args.self.now) b)) c.swap.ensures.x_after

pub returns-clause-known : goal.returns-clause-known
returns-clause-known c =
    let P : Body → Type 0 = λ b. IsBody (known_in c.args.self.now) b in
    known_same c.self.inside.places c.self.inside.rows c.args.self.now c.self.invariant c.self.view_is c.args.at c.row_mut.result.now c.swap.new.x
    c.row_mut.ensures.row (subst P (sym c.swap.ensures.x_after) c.requires.body)

pub returns-clause-after : goal.returns-clause-after
returns-clause-after c =
    let P : Body → Type 0 = λ b. IsBody (known_in c.args.self.now) b in
    body_after c.self.inside.places c.self.inside.rows c.args.self.now c.self.invariant c.self.view_is c.args.at c.row_mut.result.now c.swap.new.x
    c.row_mut.ensures.row (subst P (sym c.swap.ensures.x_after) c.requires.body)
    ∙ ap (λ (b : Body). Some (body_seen (known_in c.args.self.now) b)) c.swap.ensures.x_after
