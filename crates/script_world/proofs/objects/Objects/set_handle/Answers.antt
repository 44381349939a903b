use Rattle.std.proofs.Common.{Option, ap, sym, ◌∙◌}
use Rattle.script_defs.specs.LookUps.{is_domain}
use Rattle.script_defs.specs.SupplySteps.{with_handle}
use Rattle.script_defs.specs.World.{Body as MadeBody}
use Rattle.script_world.specs.Handles.{handle_name_seen}
use Rattle.script_world.specs.Objects.{known_in}
use Rattle.script_world.specs.Seen.{handle_seen}
use Rattle.script_world.proofs.ObjectLemmas.{body_after, body_fits_known, body_was, known_same, rows_other, world_other}
use Rattle.script_world.proofs.objects.Objects.set_handle.Goals as goal

pub invariant_of-self : goal.invariant_of-self
invariant_of-self c =
    let places = c.self.inside.places in
    let rows = c.self.inside.rows in
    let v = c.args.self.now in
    let known = known_in v in
    let own = body_fits_known places rows v c.self.invariant c.self.view_is c.args.at c.row_mut.result.now c.row_mut.ensures.row in
    rows_other places rows v c.self.invariant c.self.view_is c.args.at c.row_mut.result.now c.put_handle.new.body c.row_mut.ensures.row
    (c.put_handle.ensures.sound known own c.requires.set)

pub returns-clause-objects : goal.returns-clause-objects
returns-clause-objects c = λ name named.
    let places = c.self.inside.places in
    let rows = c.self.inside.rows in
    let v = c.args.self.now in
    let known = known_in v in
    let was = body_was places rows v c.self.invariant c.self.view_is c.args.at c.row_mut.result.now c.put_handle.new.body c.row_mut.ensures.row in
    world_other places rows v c.self.invariant c.self.view_is c.args.at c.row_mut.result.now c.put_handle.new.body c.row_mut.ensures.row name
    c.len-differ.ensures.differ named (λ (b : Option MadeBody). with_handle (handle_name_seen c.args.handle) (handle_seen known.objects c.args.set) b)
    (c.put_handle.ensures.seen known (ap is_domain (sym was) ∙ c.requires.domain))

pub returns-clause-known : goal.returns-clause-known
returns-clause-known c =
    let places = c.self.inside.places in
    let rows = c.self.inside.rows in
    let v = c.args.self.now in
    let known = known_in v in
    let own = body_fits_known places rows v c.self.invariant c.self.view_is c.args.at c.row_mut.result.now c.row_mut.ensures.row in
    known_same places rows v c.self.invariant c.self.view_is c.args.at c.row_mut.result.now c.put_handle.new.body c.row_mut.ensures.row
    (c.put_handle.ensures.sound known own c.requires.set)

pub returns-clause-after : goal.returns-clause-after
returns-clause-after c =
    let places = c.self.inside.places in
    let rows = c.self.inside.rows in
    let v = c.args.self.now in
    let known = known_in v in
    let own = body_fits_known places rows v c.self.invariant c.self.view_is c.args.at c.row_mut.result.now c.row_mut.ensures.row in
    let was = body_was places rows v c.self.invariant c.self.view_is c.args.at c.row_mut.result.now c.put_handle.new.body c.row_mut.ensures.row in
    body_after places rows v c.self.invariant c.self.view_is c.args.at c.row_mut.result.now c.put_handle.new.body c.row_mut.ensures.row
    (c.put_handle.ensures.sound known own c.requires.set)
    ∙ sym (c.put_handle.ensures.seen known (ap is_domain (sym was) ∙ c.requires.domain))
    ∙ ap (with_handle (handle_name_seen c.args.handle) (handle_seen known.objects c.args.set)) (sym was)
