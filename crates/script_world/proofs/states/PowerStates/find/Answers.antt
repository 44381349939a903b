use Rattle.std.proofs.Common.{◌≡◌, List, ℕ, sym, ap, ◌∙◌}
use Rattle.list_defs.specs.Members.{place_of, same_name}
use Rattle.named_rows.specs.Rows.{names_in}
use Rattle.script_world.specs.Seen.{rows_of}
use Rattle.script_world.specs.declared.states.StateRow.{StateRow}
use Rattle.script_world.proofs.StateLemmas.{state_found}
use Rattle.script_world.proofs.states.PowerStates.find.Goals as goal

pub returns-in-Some-clause-state : goal.returns-in-Some-clause-state
returns-in-Some-clause-state c = λ places.
    let rows : rows_of c.args.self.now ≡ c.deref.result.now = rw c.in-Some.is (sym c.deref.ensures) in
    state_found places c.args.name.now (rows_of c.args.self.now) c.find.result
    (c.find.ensures ∙ ap (λ (rs : List (List ℕ × StateRow)). place_of (same_name c.args.name.now) (names_in rs)) (sym rows))
