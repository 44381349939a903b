use Rattle.std.proofs.Common.{◌≡◌, take}
use Rattle.net_modules.specs.Drafts.{with_assigns}
use Rattle.net_modules.proofs.items.add_assigns.Given as goal

abbrev pub invariant-loop-assign : goal.invariant-loop-assign
invariant-loop-assign l = l.builder ≡ with_assigns l.initial.builder (take l.assign-index l.assigns)
