use Rattle.std.proofs.Common.{IfOk, List, ℕ, sym, ap, subst}
use Rattle.upf_commands.specs.Forms.{ListForm, power_state, supply_state}
use Rattle.upf_reader.specs.Rows.{list_view}
use Rattle.upf_statements.specs.Said.{SayInList}
use Rattle.upf_statements.specs.Views.{parts_view}
use Rattle.upf_statements.proofs.lists.words_said.Goals as goal

pub returns-in-SupplyState : goal.returns-in-SupplyState
returns-in-SupplyState c =
    subst (λ (form : ListForm). IfOk c.supply_state_said.result (λ parts. SayInList form c.args.words (parts_view parts))) (ap list_view (sym c.in-SupplyState.is))
    (subst (λ (words : List (List ℕ)). IfOk c.supply_state_said.result (λ parts. SayInList supply_state words (parts_view parts)))
    c.as_slice-in-SupplyState.ensures.items c.supply_state_said.ensures)

pub returns-in-PowerState : goal.returns-in-PowerState
returns-in-PowerState c =
    subst (λ (form : ListForm). IfOk c.power_state_said.result (λ parts. SayInList form c.args.words (parts_view parts))) (ap list_view (sym c.in-PowerState.is))
    (subst (λ (words : List (List ℕ)). IfOk c.power_state_said.result (λ parts. SayInList power_state words (parts_view parts)))
    c.as_slice-in-PowerState.ensures.items c.power_state_said.ensures)
