use Rattle.std.proofs.Common.{◌≡◌, map, take, true}
use Rattle.std.specs.List.{list_all}
use Rattle.form_intent.specs.Script.{stated}
use Rattle.form_intent.specs.Fits.{states_differ}
use Rattle.form_intent.proofs.states.stated_values.Given as goal

abbrev pub invariant-loop-states : goal.invariant-loop-states
invariant-loop-states l = (list_all (states_differ l.fn.commands) (take l.states-index l.supplies) ≡ true) × (map (λ of_one. of_one.items) l.values.items ≡ map (stated l.fn.commands) (take l.states-index l.supplies))
