use Rattle.std.proofs.Common.{◌≡◌, ◌++◌, ◌∷◌, [], ℕ, List, true, map, refl, ap, sym, ◌∙◌}
use Rattle.std.proofs.lemmas.List.{map-append}
use Rattle.std.proofs.lemmas.List.Elements.{All-push, All-same}
use Rattle.list_defs.specs.Members.{all_differ, same_name}
use Rattle.named_rows.specs.Rows.{names_in, with_row}
use Rattle.named_rows.proofs.PlaceLemmas.{names_in-with_row, with_row_same}
use Rattle.script_defs.specs.World.{Expression as MadeExpression}
use Rattle.script_world.specs.declared.parts.Expression.{Expression}
use Rattle.script_world.specs.declared.states.StateRow.{StateRow}
use Rattle.script_world.specs.Ranges.{IsExpression}
use Rattle.script_world.specs.Seen.{expression_seen, rows_of, state_seen}
use Rattle.script_world.specs.States.{with_expression}
use Rattle.script_world.proofs.StateLemmas.{expressions_of, on_err, states_changed, states_sound}
use Rattle.script_world.proofs.states.PowerStates.add_expression.Goals as goal

pub returns-in_err-push-clause-sound : goal.returns-in_err-push-clause-sound
returns-in_err-push-clause-sound c = λ places sound own.
    let rows : rows_of c.args.self.now ≡ c.deref_mut.result.now = rw c.in-Some.is (sym c.deref_mut.ensures.value) in
    let row : StateRow = c.row_mut.result.now in
    states_sound places c.args.self.now c.deref_mut.result.now c.args.at (record row { expressions = c.push.new.self }) rows sound
    (All-same (IsExpression places) c.push.new.self row.expressions c.in_err-push.ensures.err
    (expressions_of places c.args.self.now c.deref_mut.result.now c.args.at row rows sound c.row_mut.ensures.row))

pub returns-in_err-push-clause-names : goal.returns-in_err-push-clause-names
returns-in_err-push-clause-names c =
    let rows : rows_of c.args.self.now ≡ c.deref_mut.result.now = rw c.in-Some.is (sym c.deref_mut.ensures.value) in
    names_in-with_row c.deref_mut.result.now c.args.at (record c.row_mut.result.now { expressions = c.push.new.self })
    ∙ ap (λ (rs : List (List ℕ × StateRow)). names_in rs) (sym rows)

pub returns-in_err-push-clause-err : goal.returns-in_err-push-clause-err
returns-in_err-push-clause-err c =
    let rows : rows_of c.args.self.now ≡ c.deref_mut.result.now = rw c.in-Some.is (sym c.deref_mut.ensures.value) in
    let row : StateRow = c.row_mut.result.now in
    let F : List Expression → StateRow = λ es. record row { expressions = es } in
    let same : with_row c.deref_mut.result.now c.args.at (F c.push.new.self) ≡ rows_of c.args.self.now =
    ap (λ (es : List Expression). with_row c.deref_mut.result.now c.args.at (F es)) c.in_err-push.ensures.err
    ∙ with_row_same c.deref_mut.result.now c.args.at row c.row_mut.ensures.row ∙ sym rows in
    on_err c.from_residual.result _ (record { rows = same; complete = refl })

pub returns-in_ok-push-clause-seen : goal.returns-in_ok-push-clause-seen
returns-in_ok-push-clause-seen c = λ places name named.
    let rows : rows_of c.args.self.now ≡ c.deref_mut.result.now = rw c.in-Some.is (sym c.deref_mut.ensures.value) in
    let differ : all_differ same_name (names_in c.deref_mut.result.now) ≡ true =
    ap (λ (rs : List (List ℕ × StateRow)). all_differ same_name (names_in rs)) (c.deref_mut.ensures.value ∙ sym c.deref.ensures) ∙ c.len-differ.ensures.differ in
    let row : StateRow = c.row_mut.result.now in
    let more : map (expression_seen places) c.push.new.self ≡ map (expression_seen places) row.expressions ++ expression_seen places c.args.expression ∷ [] =
    ap (map (expression_seen places)) c.in_ok-push.ensures.ok ∙ map-append (expression_seen places) row.expressions (c.args.expression ∷ []) in
    states_changed places (with_expression (expression_seen places c.args.expression)) name c.args.self.now c.deref_mut.result.now c.args.at row
    (record row { expressions = c.push.new.self }) rows differ named c.row_mut.ensures.row
    (ap (λ (es : List MadeExpression). record (state_seen places (name, row)) { expressions = es }) more)

pub returns-in_ok-push-clause-sound : goal.returns-in_ok-push-clause-sound
returns-in_ok-push-clause-sound c = λ places sound own.
    let rows : rows_of c.args.self.now ≡ c.deref_mut.result.now = rw c.in-Some.is (sym c.deref_mut.ensures.value) in
    let row : StateRow = c.row_mut.result.now in
    states_sound places c.args.self.now c.deref_mut.result.now c.args.at (record row { expressions = c.push.new.self }) rows sound
    (All-same (IsExpression places) c.push.new.self (row.expressions ++ c.args.expression ∷ []) c.in_ok-push.ensures.ok
    (All-push (IsExpression places) row.expressions c.args.expression
    (expressions_of places c.args.self.now c.deref_mut.result.now c.args.at row rows sound c.row_mut.ensures.row) own))

pub returns-in_ok-push-clause-names : goal.returns-in_ok-push-clause-names
returns-in_ok-push-clause-names c =
    let rows : rows_of c.args.self.now ≡ c.deref_mut.result.now = rw c.in-Some.is (sym c.deref_mut.ensures.value) in
    names_in-with_row c.deref_mut.result.now c.args.at (record c.row_mut.result.now { expressions = c.push.new.self })
    ∙ ap (λ (rs : List (List ℕ × StateRow)). names_in rs) (sym rows)
