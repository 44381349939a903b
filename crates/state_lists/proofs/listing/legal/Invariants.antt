use Rattle.std.proofs.Common.{◌≡◌, map, filter, take}
use Rattle.pw_defs.specs.declared.values.State.{State}
use Rattle.supply_defs.specs.States.{all_states, meets}
use Rattle.state_lists.proofs.listing.legal.Given as goal

-- the legal ones of the states so far
abbrev pub invariant-loop-number : goal.invariant-loop-number
invariant-loop-number l = map (λ (state : State). state.values) l.states ≡ filter (meets l.conds) (take l.number (all_states l.lists))
