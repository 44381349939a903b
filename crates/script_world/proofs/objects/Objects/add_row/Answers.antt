use Rattle.std.proofs.Common.{List, ℕ, Option, map, ap, sym, ◌∙◌}
use Rattle.list_defs.specs.Members.{place_of, same_name}
use Rattle.script_defs.specs.LookUps.{is_table}
use Rattle.script_defs.specs.StateSteps.{rows_in}
use Rattle.script_defs.specs.SupplySteps.{with_body}
use Rattle.script_defs.specs.World.{Body as MadeBody, Row}
use Rattle.script_world.specs.Changes.{with_table_row}
use Rattle.script_world.specs.Objects.{known_in, world_of}
use Rattle.script_world.proofs.ObjectLemmas.{body_fits_known, body_was, known_same, objects_other, objects_same, row_names, rows_other}
use Rattle.script_world.proofs.StateLemmas.{on_err}
use Rattle.script_world.proofs.objects.Objects.add_row.Goals as goal

pub add_row-requires : goal.add_row-requires
add_row-requires c =
    let v = c.args.self.now in
    let body = c.row_mut.result.now.body in
    let was = body_was c.self.inside.places c.self.inside.rows v c.self.invariant c.self.view_is c.args.at c.row_mut.result.now body c.row_mut.ensures.row in
    ap (place_of (same_name c.args.name.now))
    (sym (row_names (known_in v) body) ∙ ap (λ (b : Option MadeBody). map (λ (r : Row). r.name) (rows_in b)) (sym was))
    ∙ c.requires.free

pub invariant_of-self : goal.invariant_of-self
invariant_of-self c =
    let own = body_fits_known c.self.inside.places c.self.inside.rows c.args.self.now c.self.invariant c.self.view_is c.args.at c.row_mut.result.now c.row_mut.ensures.row in
    rows_other c.self.inside.places c.self.inside.rows c.args.self.now c.self.invariant c.self.view_is c.args.at c.row_mut.result.now c.add_row.new.body
    c.row_mut.ensures.row (c.add_row.ensures.sound (known_in c.args.self.now) own)

pub returns-in_err-add_row-clause-err : goal.returns-in_err-add_row-clause-err
returns-in_err-add_row-clause-err c =
    on_err c.from_residual.result _
    (objects_same c.self.inside.places c.self.inside.rows c.args.self.now c.self.invariant c.self.view_is c.args.at c.row_mut.result.now c.add_row.new.body
    c.row_mut.ensures.row (c.in_err-add_row.ensures.err (known_in c.args.self.now)))

pub returns-in_err-add_row-clause-known : goal.returns-in_err-add_row-clause-known
returns-in_err-add_row-clause-known c =
    let own = body_fits_known c.self.inside.places c.self.inside.rows c.args.self.now c.self.invariant c.self.view_is c.args.at c.row_mut.result.now c.row_mut.ensures.row in
    known_same c.self.inside.places c.self.inside.rows c.args.self.now c.self.invariant c.self.view_is c.args.at c.row_mut.result.now c.add_row.new.body
    c.row_mut.ensures.row (c.add_row.ensures.sound (known_in c.args.self.now) own)

pub invariant_of-self-2 : goal.invariant_of-self-2
invariant_of-self-2 c =
    let own = body_fits_known c.self.inside.places c.self.inside.rows c.args.self.now c.self.invariant c.self.view_is c.args.at c.row_mut.result.now c.row_mut.ensures.row in
    rows_other c.self.inside.places c.self.inside.rows c.args.self.now c.self.invariant c.self.view_is c.args.at c.row_mut.result.now c.add_row.new.body
    c.row_mut.ensures.row (c.add_row.ensures.sound (known_in c.args.self.now) own)

pub returns-clause-ok : goal.returns-clause-ok
returns-clause-ok c = λ whole named.
    let v = c.args.self.now in
    let row : List ℕ × List _ = (c.args.name.now, c.args.cells) in
    let was = body_was c.self.inside.places c.self.inside.rows v c.self.invariant c.self.view_is c.args.at c.row_mut.result.now c.add_row.new.body c.row_mut.ensures.row in
    let makes = c.in_ok-add_row.ensures.ok (known_in v) (ap is_table (sym was) ∙ c.requires.table) in
    ap world_of
    (objects_other c.self.inside.places c.self.inside.rows v c.self.invariant c.self.view_is c.args.at c.row_mut.result.now c.add_row.new.body
    c.row_mut.ensures.row whole c.len-differ.ensures.differ named)
    ∙ ap (with_body (world_of v.objects) whole) (makes ∙ ap (with_table_row row) (sym was))

pub returns-clause-known : goal.returns-clause-known
returns-clause-known c =
    let own = body_fits_known c.self.inside.places c.self.inside.rows c.args.self.now c.self.invariant c.self.view_is c.args.at c.row_mut.result.now c.row_mut.ensures.row in
    known_same c.self.inside.places c.self.inside.rows c.args.self.now c.self.invariant c.self.view_is c.args.at c.row_mut.result.now c.add_row.new.body
    c.row_mut.ensures.row (c.add_row.ensures.sound (known_in c.args.self.now) own)
