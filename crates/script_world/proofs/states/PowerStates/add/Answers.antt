use Rattle.std.proofs.Common.{[], ℕ, List, None, Some, ap, sym, ◌∙◌}
use Rattle.list_defs.specs.Members.{place_of, same_name}
use Rattle.named_rows.specs.Rows.{names_in}
use Rattle.named_rows.proofs.PlaceLemmas.{place_of-more}
use Rattle.script_defs.specs.World.{PowerState}
use Rattle.script_world.specs.declared.states.StateRow.{StateRow}
use Rattle.script_world.specs.Seen.{rows_of, state_seen}
use Rattle.script_world.proofs.StateLemmas.{named_known, named_new}
use Rattle.script_world.proofs.states.PowerStates.add.Goals as goal

pub returns-in-Some-clause-seen : goal.returns-in-Some-clause-seen
returns-in-Some-clause-seen c = λ places s line. named_known places s c.args.self.now c.args.name.now c.in-Some.at (sym c.find.ensures.place ∙ c.in-Some.is)

pub returns-in_ok-push-in-None-clause-seen : goal.returns-in_ok-push-in-None-clause-seen
returns-in_ok-push-in-None-clause-seen c = λ places s line.
    let F : ℕ → PowerState = λ n. record { name = c.args.name.now; line = n; expressions = []; legal = None; illegal = None } in
    named_new places s c.args.self.now c.push.new.self c.args.name.now c.new_row.result (sym c.find.ensures.place ∙ c.in-None.is)
    c.in_ok-push-in-None.ensures.rows c.in_ok-push-in-None.ensures.complete
    (ap (λ (row : StateRow). state_seen places (c.args.name.now, row)) c.new_row.ensures ∙ ap F (sym line))

pub returns-in_ok-push-in-None-clause-place : goal.returns-in_ok-push-in-None-clause-place
returns-in_ok-push-in-None-clause-place c =
    ap (λ (rows : List (List ℕ × StateRow)). place_of (same_name c.args.name.now) (names_in rows)) c.in_ok-push-in-None.ensures.rows
    ∙ place_of-more c.args.name.now (rows_of c.args.self.now) c.new_row.result (sym c.find.ensures.place ∙ c.in-None.is)
    ∙ ap Some (sym c.len-at.ensures.len)
