use Rattle.std.proofs.Common.{◌≡◌, ℕ, List, Option, true, ap, sym, ◌∙◌}
use Rattle.list_defs.specs.Members.{all_differ, same_name}
use Rattle.named_rows.specs.Rows.{names_in}
use Rattle.named_rows.proofs.PlaceLemmas.{names_in-with_row}
use Rattle.script_world.specs.declared.states.StateRow.{StateRow}
use Rattle.script_world.specs.Seen.{rows_of, state_seen}
use Rattle.script_world.specs.States.{marked_illegal}
use Rattle.script_world.proofs.StateLemmas.{expressions_of, states_changed, states_sound}
use Rattle.script_world.proofs.states.PowerStates.mark_illegal.Goals as goal

pub returns-in-Some-clause-seen : goal.returns-in-Some-clause-seen
returns-in-Some-clause-seen c = λ places name named.
    let rows : rows_of c.args.self.now ≡ c.deref_mut.result.now = rw c.in-Some.is (sym c.deref_mut.ensures.value) in
    let differ : all_differ same_name (names_in c.deref_mut.result.now) ≡ true =
    ap (λ (rs : List (List ℕ × StateRow)). all_differ same_name (names_in rs)) (c.deref_mut.ensures.value ∙ sym c.deref.ensures) ∙ c.len-differ.ensures.differ in
    let row : StateRow = c.row_mut-row.result.now in
    states_changed places (marked_illegal c.args.line) name c.args.self.now c.deref_mut.result.now c.args.at row (record row { illegal = c.or-row.result }) rows differ named
    c.row_mut-row.ensures.row
    (ap (λ (illegal : Option ℕ). record (state_seen places (name, row)) { illegal = illegal }) c.or-row.ensures)

pub returns-in-Some-clause-sound : goal.returns-in-Some-clause-sound
returns-in-Some-clause-sound c = λ places sound.
    let rows : rows_of c.args.self.now ≡ c.deref_mut.result.now = rw c.in-Some.is (sym c.deref_mut.ensures.value) in
    let row : StateRow = c.row_mut-row.result.now in
    states_sound places c.args.self.now c.deref_mut.result.now c.args.at (record row { illegal = c.or-row.result }) rows sound
    (expressions_of places c.args.self.now c.deref_mut.result.now c.args.at row rows sound c.row_mut-row.ensures.row)

pub returns-in-Some-clause-names : goal.returns-in-Some-clause-names
returns-in-Some-clause-names c =
    let rows : rows_of c.args.self.now ≡ c.deref_mut.result.now = rw c.in-Some.is (sym c.deref_mut.ensures.value) in
    names_in-with_row c.deref_mut.result.now c.args.at (record c.row_mut-row.result.now { illegal = c.or-row.result }) ∙ ap (λ (rs : List (List ℕ × StateRow)). names_in rs) (sym rows)
