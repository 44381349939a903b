-- Remembered results of a walk.
use Rattle.std.specs.Prelude.{◌≡◌, ℕ, List, Some}
use Rattle.std.specs.declared.hash.FoldHasher.{FoldHasher}
use Rattle.std.specs.declared.hash.BuildHasherDefault.{BuildHasherDefault}
use Rattle.std.specs.HashMap.{HashMap, get}
use Rattle.diagram_defs.specs.declared.quantifiers.Quantifier.{Quantifier}
use Rattle.diagram_defs.specs.Diagrams.{Diagram, IsNumberFor}
use Rattle.state_meets.specs.declared.tuples.Tuple.{Tuple}
use Rattle.state_meets.specs.contracts.tuples.TuplePartialEq.TheImpl.{eq-value}
use Rattle.state_meets.specs.Walks.{AreSets, walk_set}

-- n is the number of what a walk from the numbers of a level finds
pub record IsRemembered (d : Diagram) (which : Quantifier) (begun : List (List ℕ)) (level : ℕ) (numbers : List ℕ) (n : ℕ) : Type 0 where
  pub sets : AreSets d level numbers
  pub number : IsNumberFor d level (walk_set d which begun level numbers) n

-- each remembered result is right
pub record IsMemo (d : Diagram) (which : Quantifier) (begun : List (List ℕ)) (memo : HashMap Tuple ℕ (BuildHasherDefault FoldHasher)) : Type 0 where
  pub each : (tuple : Tuple) (n : ℕ) → get eq-value.it memo tuple ≡ Some n → IsRemembered d which begun tuple.level tuple.numbers.items n
