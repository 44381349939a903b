use Rattle.std.proofs.Common.{◌≡◌, ◌++◌, map, take}
use Rattle.form_intent.proofs.states.put_all.Given as goal

abbrev pub invariant-loop-state : goal.invariant-loop-state
invariant-loop-state l = map (λ state. state.now) l.group.items ≡ map (λ state. state.now) l.fn.group.items ++ take l.state-index l.states
