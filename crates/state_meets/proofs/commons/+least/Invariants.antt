use Rattle.std.proofs.Common.{◌≡◌, ◌<◌, ◌+◌, ◌-◌, ◌*◌, ℕ, List, ◌∷◌, false, length, get_or}
use Rattle.state_meets.specs.Common.{AreDead, is_in_both}
use Rattle.state_meets.proofs.commons.+least.Given as goal

abbrev pub decreases-least : goal.decreases-least
decreases-least l = 2 * (length l.first.now.arities - l.at.level) + 1

abbrev pub decreases-least_behind : goal.decreases-least_behind
decreases-least_behind l = 2 * (length l.first.now.arities - l.at.level)

abbrev pub invariant-least_behind-loop-v : goal.invariant-least_behind-loop-v
invariant-least_behind-loop-v l = record {
  end : l.arity ≡ get_or l.first.arities l.at.level 0;
  none : (w : ℕ) → w < l.v → (rest : List ℕ) → is_in_both l.first l.second l.begins l.at (w ∷ rest) ≡ false;
  dead : AreDead l.first l.second l.begins l.dead;
}
