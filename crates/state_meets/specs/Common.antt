-- States that are in a set of one table and in a set of another.
use Rattle.std.specs.Prelude.{◌≡◌, ℕ, ◌+◌, ◌-◌, Bool, true, false, ◌&&◌, List, ◌∷◌, drop}
use Rattle.std.specs.declared.hash.FoldHasher.{FoldHasher}
use Rattle.std.specs.declared.hash.BuildHasherDefault.{BuildHasherDefault}
use Rattle.std.specs.HashSet.{HashSet, contains}
use Rattle.list_defs.specs.Orders.{IsLeast}
use Rattle.diagram_defs.specs.declared.locals.Local.{Local}
use Rattle.diagram_defs.specs.Diagrams.{Diagram, IsSet, member}
use Rattle.diagram_defs.specs.States.{state_cmp}
use Rattle.state_meets.specs.declared.commons.Meeting.{Meeting}
use Rattle.state_meets.specs.contracts.commons.MeetingPartialEq.TheImpl.{eq-value}

-- whether a state is in a set of the first table, and its end from a level on in a set of the second
abbrev pub is_common : Diagram → ℕ → Diagram → Local → List ℕ → Bool
is_common first n second local state = member first.nodes n state && member second.nodes local.number (drop local.level state)

-- whether a rest is in what is left of the first set, and its end in what is left of the second, which begins at a level
abbrev pub is_in_both : Diagram → Diagram → ℕ → Meeting → List ℕ → Bool
is_in_both first second begins at rest = member first.nodes at.first rest && member second.nodes at.second (drop (begins - at.level) rest)

-- no rest is in both
abbrev pub AreDisjoint : Diagram → Diagram → ℕ → Meeting → Type 0
AreDisjoint first second begins at = (rest : List ℕ) → is_in_both first second begins at rest ≡ false

-- what is remembered has no rest in both
pub record AreDead (first second : Diagram) (begins : ℕ) (dead : HashSet Meeting (BuildHasherDefault FoldHasher)) : Type 0 where
  pub each : (at : Meeting) → contains eq-value.it dead at ≡ true → AreDisjoint first second begins at

-- the least rest in both
abbrev pub IsLeastRest : Diagram → Diagram → ℕ → Meeting → List ℕ → Type 0
IsLeastRest first second begins at rest = IsLeast state_cmp (λ other. is_in_both first second begins at other ≡ true) rest

-- one level down: the rests in both are those that are behind the value
pub record IsMeetingBehind (first second : Diagram) (begins : ℕ) (at : Meeting) (v : ℕ) (next : Meeting) : Type 0 where
  pub level_is : next.level ≡ at.level + 1
  pub number : IsSet first (at.level + 1) next.first
  pub same : (rest : List ℕ) → is_in_both first second begins next rest ≡ is_in_both first second begins at (v ∷ rest)
