-- What an operation on a table of nodes leaves: how the table grew, and its result or why it has none.
use Rattle.std.specs.Prelude.{◌≡◌, ℕ, Bool, List, length}
use Rattle.std.specs.Result.{MatchResult}
use Rattle.std.specs.declared.result.Result.{Result}
use Rattle.plain_lists.specs.declared.faults.DiagFault.{DiagFault}
use Rattle.plain_lists.specs.declared.faults.DiagFault.TheVariants.{Bound, Memory}
use Rattle.diagram_defs.specs.Diagrams.{Diagram, IsNumberFor, AreKidsFor}
use Rattle.diagram_defs.specs.Parts.{IsPartOf, GrowsBy, LacksPart}

-- the table has as many nodes as it may, and an allowed part has none
pub record IsFullWithout (d : Diagram) (Allowed : ℕ → (List ℕ → Bool) → Type 0) (nodes : ℕ) : Type 0 where
  pub counted : nodes ≡ length d.nodes
  pub full : nodes ≡ d.bound
  pub missing : LacksPart d Allowed

-- memory may run out at any time
abbrev pub IsCause : Diagram → (ℕ → (List ℕ → Bool) → Type 0) → DiagFault → Type 0
IsCause d Allowed (Bound nodes) = IsFullWithout d Allowed nodes
IsCause d Allowed Memory = Unit {0}

-- whatever the result, each node that was added means an allowed part; a value is right, and a fault has its reason
abbrev pub Yields : {A E : Type 0} → (ℕ → (List ℕ → Bool) → Type 0) → Diagram → Diagram → (A → Type 0) → (E → Type 0) → Result A E → Type 0
Yields Allowed old new Right Why result = GrowsBy Allowed old new × MatchResult result Right Why

-- the result is the number of a set of rests of a level, and a fault comes of a full table without an allowed part
abbrev pub Makes : (ℕ → (List ℕ → Bool) → Type 0) → ℕ → (List ℕ → Bool) → Diagram → Diagram → Result ℕ DiagFault → Type 0
Makes Allowed level set old new result = Yields Allowed old new (IsNumberFor new level set) (IsCause new Allowed) result

-- the same, where parts of the set itself alone are allowed
abbrev pub MakesSet : ℕ → (List ℕ → Bool) → Diagram → Diagram → Result ℕ DiagFault → Type 0
MakesSet level set old new result = Makes (IsPartOf (length old.arities) level set) level set old new result

-- the result has, by its items, the numbers of what stands behind each value of the level in the set
abbrev pub MakesKids : {A : Type 0} → (A → List ℕ) → ℕ → (List ℕ → Bool) → Diagram → Diagram → Result A DiagFault → Type 0
MakesKids items level set old new result =
    let Allowed = IsPartOf (length old.arities) level set in
    Yields Allowed old new (λ kids. AreKidsFor new level set (items kids)) (IsCause new Allowed) result
