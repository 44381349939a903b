-- Sets of states as numbers of shared nodes. Number 0 is the empty set, 1 the set of the empty rest, and the node at a
-- place has the number two above it.
use Rattle.std.specs.Prelude.{◌≡◌, ◌≢◌, ℕ, zero, suc, ◌+◌, ◌≤◌, ◌<◌, Bool, true, List, [], ◌∷◌, ◌++◌, Option, Some, None, length, filter, drop, slice_get, slice_index, nat_eq}
use Rattle.diagram_defs.specs.Rests.{is_rest, all_rests}

-- a node: its level, and the number of the set behind each value of that level
pub record Shape : Type 0 where
  pub level : ℕ
  pub kids : List ℕ

-- a table of nodes, how many values each level has, and how many nodes it may have
pub record Diagram : Type 0 where
  pub arities : List ℕ
  pub bound : ℕ
  pub nodes : List Shape

abbrev pub kids_in : Option Shape → List ℕ
kids_in None = []
kids_in (Some shape) = shape.kids

-- the children of a number; 0 and 1 have none
abbrev pub kids_of : List Shape → ℕ → List ℕ
kids_of nodes zero = []
kids_of nodes (suc zero) = []
kids_of nodes (suc (suc at)) = kids_in (slice_get nodes at)

-- the child of a number at a value, which is 0 where there is none
abbrev pub kid : List Shape → ℕ → ℕ → ℕ
kid nodes n v = slice_index (kids_of nodes n) v

-- whether a rest is in the set that a number means
abbrev pub member : List Shape → ℕ → List ℕ → Bool
member nodes n [] = nat_eq n 1
member nodes n (v ∷ rest) = member nodes (kid nodes n v) rest

-- n is 0, or 1 behind the last level, or the node of that level at one of the first `places` places
pub data IsKid (arities : List ℕ) (nodes : List Shape) (places level n : ℕ) : Type 0 where
  empty : n ≡ 0 → IsKid arities nodes places level n
  whole : n ≡ 1 → level ≡ length arities → IsKid arities nodes places level n
  node : (at : ℕ) (shape : Shape) → n ≡ at + 2 → at < places → slice_get nodes at ≡ Some shape → shape.level ≡ level → IsKid arities nodes places level n

-- each child is 0 or of the level
pub record AreKids (arities : List ℕ) (nodes : List Shape) (places level : ℕ) (kids : List ℕ) : Type 0 where
  pub each : (v : ℕ) → v < length kids → IsKid arities nodes places level (slice_index kids v)

-- a shape that has a level, one child for each value of it, and children of the next level at earlier places
pub record IsNode (arities : List ℕ) (nodes : List Shape) (places : ℕ) (shape : Shape) : Type 0 where
  pub level_in : shape.level < length arities
  pub arity : length shape.kids ≡ slice_index arities shape.level
  pub below : AreKids arities nodes places (shape.level + 1) shape.kids

-- some child isn't empty
abbrev pub HasKid : List ℕ → Type 0
HasKid kids = (v : ℕ) × (slice_index kids v ≢ 0)

-- each node stands on earlier ones
pub record AreNodes (arities : List ℕ) (nodes : List Shape) : Type 0 where
  pub each : (at : ℕ) (shape : Shape) → slice_get nodes at ≡ Some shape → IsNode arities nodes at shape

-- no node is empty, and no two are equal
pub record AreSharp (nodes : List Shape) : Type 0 where
  pub nonempty : (at : ℕ) (shape : Shape) → slice_get nodes at ≡ Some shape → HasKid shape.kids
  pub distinct : (i j : ℕ) (shape : Shape) → slice_get nodes i ≡ Some shape → slice_get nodes j ≡ Some shape → i ≡ j

-- each level has 1 to 64 values
pub record AreArities (arities : List ℕ) : Type 0 where
  pub levels : length arities ≤ 1024
  pub low : (level : ℕ) → level < length arities → 1 ≤ slice_index arities level
  pub high : (level : ℕ) → level < length arities → slice_index arities level ≤ 64

-- a table within its limits, in which each set has one number
pub record IsPool (d : Diagram) : Type 0 where
  pub arities : AreArities d.arities
  pub nodes : AreNodes d.arities d.nodes
  pub sharp : AreSharp d.nodes
  pub within : length d.nodes ≤ d.bound
  pub limit : d.bound ≤ 1048576

-- n is a number of this level: 0, or 1 behind the last level, or a node of the level
abbrev pub IsSet : Diagram → ℕ → ℕ → Type 0
IsSet d level n = IsKid d.arities d.nodes (length d.nodes) level n

-- two numbers have one level, or one of them is 0
pub record AreOfOneLevel (d : Diagram) (a b : ℕ) : Type 0 where
  pub level : ℕ
  pub first : IsSet d level a
  pub second : IsSet d level b

-- what holds at each level of which both numbers are
abbrev pub AtTheirLevel : Diagram → ℕ → ℕ → (ℕ → Type 0) → Type 0
AtTheirLevel d a b P = (level : ℕ) → IsSet d level a → IsSet d level b → P level

-- the set of rests that a number means, as a list in order
abbrev pub rests_in : Diagram → ℕ → ℕ → List (List ℕ)
rests_in d level n = filter (member d.nodes n) (all_rests (drop level d.arities))

-- n is a number of the level, and means the set of rests that pass the test
pub record IsNumberFor (d : Diagram) (level : ℕ) (test : List ℕ → Bool) (n : ℕ) : Type 0 where
  pub in_level : IsSet d level n
  pub same : (rest : List ℕ) → member d.nodes n rest ≡ test rest

-- each rest in the set is one of the level
pub record AreRests (d : Diagram) (level : ℕ) (set : List ℕ → Bool) : Type 0 where
  pub each : (rest : List ℕ) → set rest ≡ true → is_rest (drop level d.arities) rest ≡ true

-- one number for each value of the level, for what stands behind that value in the set
pub record AreKidsFor (d : Diagram) (level : ℕ) (set : List ℕ → Bool) (kids : List ℕ) : Type 0 where
  pub arity : length kids ≡ slice_index d.arities level
  pub each : (v : ℕ) → v < length kids → IsNumberFor d (level + 1) (λ rest. set (v ∷ rest)) (slice_index kids v)

-- the table keeps its levels, its bound and its nodes, so that old numbers mean what they meant; more nodes may follow
pub record Grows (old new : Diagram) : Type 0 where
  pub was : IsPool old
  pub is : IsPool new
  pub arities : new.arities ≡ old.arities
  pub bound : new.bound ≡ old.bound
  pub more : (more : List Shape) × (new.nodes ≡ old.nodes ++ more)
