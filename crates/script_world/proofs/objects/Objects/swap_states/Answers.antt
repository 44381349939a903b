use Rattle.std.proofs.Common.{Option, ap, sym, ◌∙◌}
use Rattle.script_defs.specs.PowerStateSteps.{states_of, with_states}
use Rattle.script_defs.specs.World.{Body as MadeBody}
use Rattle.script_world.specs.Changes.{body_at, has_states}
use Rattle.script_world.specs.Objects.{known_in}
use Rattle.script_world.specs.Seen.{states_seen}
use Rattle.script_world.proofs.ObjectLemmas.{body_after, body_fits_known, body_was, known_same, rows_other, world_other}
use Rattle.script_world.proofs.WorldLemmas.{states_stay}
use Rattle.script_world.proofs.objects.Objects.swap_states.Goals as goal

pub invariant_of-self : goal.invariant_of-self
invariant_of-self c =
    let places = c.self.inside.places in
    let rows = c.self.inside.rows in
    let v = c.args.self.now in
    let known = known_in v in
    let own = body_fits_known places rows v c.self.invariant c.self.view_is c.args.at c.row_mut.result.now c.row_mut.ensures.row in
    rows_other places rows v c.self.invariant c.self.view_is c.args.at c.row_mut.result.now c.swap_states.new.body c.row_mut.ensures.row
    (c.swap_states.ensures.sound known own c.requires.states)

pub returns-clause-objects : goal.returns-clause-objects
returns-clause-objects c = λ name named.
    let places = c.self.inside.places in
    let rows = c.self.inside.rows in
    let v = c.args.self.now in
    let known = known_in v in
    let was = body_was places rows v c.self.invariant c.self.view_is c.args.at c.row_mut.result.now c.swap_states.new.body c.row_mut.ensures.row in
    world_other places rows v c.self.invariant c.self.view_is c.args.at c.row_mut.result.now c.swap_states.new.body c.row_mut.ensures.row name
    c.len-differ.ensures.differ named (λ (b : Option MadeBody). with_states (states_seen v.places c.args.states.now) b)
    (c.swap_states.ensures.seen known (ap has_states (sym was) ∙ c.requires.stateful))

pub returns-clause-known : goal.returns-clause-known
returns-clause-known c =
    let places = c.self.inside.places in
    let rows = c.self.inside.rows in
    let v = c.args.self.now in
    let known = known_in v in
    let own = body_fits_known places rows v c.self.invariant c.self.view_is c.args.at c.row_mut.result.now c.row_mut.ensures.row in
    known_same places rows v c.self.invariant c.self.view_is c.args.at c.row_mut.result.now c.swap_states.new.body c.row_mut.ensures.row
    (c.swap_states.ensures.sound known own c.requires.states)

pub returns-clause-states : goal.returns-clause-states
returns-clause-states c =
    let was = body_was c.self.inside.places c.self.inside.rows c.args.self.now c.self.invariant c.self.view_is c.args.at c.row_mut.result.now c.swap_states.new.body
    c.row_mut.ensures.row in
    c.swap_states.ensures.states (known_in c.args.self.now) (ap has_states (sym was) ∙ c.requires.stateful) ∙ ap states_of (sym was)

pub returns-clause-sound : goal.returns-clause-sound
returns-clause-sound c =
    c.swap_states.ensures.sound_states (known_in c.args.self.now)
    (body_fits_known c.self.inside.places c.self.inside.rows c.args.self.now c.self.invariant c.self.view_is c.args.at c.row_mut.result.now c.row_mut.ensures.row)
    c.requires.states

pub returns-clause-after : goal.returns-clause-after
returns-clause-after c =
    let places = c.self.inside.places in
    let rows = c.self.inside.rows in
    let v = c.args.self.now in
    let known = known_in v in
    let own = body_fits_known places rows v c.self.invariant c.self.view_is c.args.at c.row_mut.result.now c.row_mut.ensures.row in
    let was = body_was places rows v c.self.invariant c.self.view_is c.args.at c.row_mut.result.now c.swap_states.new.body c.row_mut.ensures.row in
    body_after places rows v c.self.invariant c.self.view_is c.args.at c.row_mut.result.now c.swap_states.new.body c.row_mut.ensures.row
    (c.swap_states.ensures.sound known own c.requires.states)
    ∙ sym (c.swap_states.ensures.seen known (ap has_states (sym was) ∙ c.requires.stateful))
    ∙ ap (with_states (states_seen v.places c.args.states.now)) (sym was)

pub returns-clause-stateful : goal.returns-clause-stateful
returns-clause-stateful c =
    ap has_states (returns-clause-after c)
    ∙ states_stay (states_seen c.args.self.now.places c.args.states.now) (body_at c.args.self.now.objects c.args.at) c.requires.stateful
