use Rattle.std.proofs.Common.{◌≡◌, [], map, take, replicate}
use Rattle.form_intent.specs.Script.{states_of}
use Rattle.form_intent.proofs.states.states_by_supply.Given as goal

abbrev pub invariant-loop : goal.invariant-loop
invariant-loop l = map (λ states. map (λ state. state.now) states.items) l.groups.items ≡ replicate l.counter []

abbrev pub invariant-loop-command : goal.invariant-loop-command
invariant-loop-command l = map (λ states. map (λ state. state.now) states.items) l.groups.items ≡ map (states_of (take l.command-index l.commands)) l.supplies
