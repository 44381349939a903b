use Rattle.std.proofs.Common.{◌≡◌, map, take}
use Rattle.form_intent.proofs.states.names_differ.Given as goal

abbrev pub invariant-loop-state : goal.invariant-loop-state
invariant-loop-state l = map (λ name. name.now) l.names.items ≡ map (λ state. state.now.name) (take l.state-index l.states)
