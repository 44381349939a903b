-- The nodes of a table as shapes.
use Rattle.std.specs.Prelude.{◌≡◌, ℕ, ◌+◌, ◌⊎◌, List, [], ◌∷◌, ◌++◌, Some, slice_get, slice_index, map, length}
use Rattle.std.specs.declared.hash.FoldHasher.{FoldHasher}
use Rattle.std.specs.declared.hash.BuildHasherDefault.{BuildHasherDefault}
use Rattle.indexmap.specs.IndexSet.{IndexSet}
use Rattle.plain_lists.specs.declared.faults.DiagFault.{DiagFault}
use Rattle.plain_lists.specs.declared.faults.DiagFault.TheVariants.{Bound, Memory}
use Rattle.diagram_defs.specs.Diagrams.{Shape, Diagram}
use Rattle.state_diagrams.specs.declared.nodes.Node.{Node}

abbrev pub shape : Node → Shape
shape node = record { level = node.level; kids = node.kids.items }

abbrev pub shapes : IndexSet Node (BuildHasherDefault FoldHasher) → List Shape
shapes nodes = map shape nodes.keys

-- no node has the shape
abbrev pub IsAbsent : List Shape → Shape → Type 0
IsAbsent nodes new = (at : ℕ) → slice_get nodes at ≡ Some new → ⊥

-- n is the number of a node of the shape
abbrev pub IsNumberOf : List Shape → Shape → ℕ → Type 0
IsNumberOf nodes node n = (at : ℕ) × (n ≡ at + 2) × (slice_get nodes at ≡ Some node)

-- the node is there with that number; it is the last one where it wasn't there before
abbrev pub IsPut : List Shape → List Shape → Shape → ℕ → Type 0
IsPut old new node n = IsNumberOf new node n × ((new ≡ old) ⊎ (IsAbsent old node × (new ≡ old ++ node ∷ [])))

-- why a node isn't added: the table is full, or memory ran out
abbrev pub IsRefusal : Diagram → Shape → DiagFault → Type 0
IsRefusal d new (Bound count) = (count ≡ length d.nodes) × (count ≡ d.bound) × IsAbsent d.nodes new
IsRefusal d new Memory = Unit {0}

-- each child is empty
abbrev pub HasNoKid : List ℕ → Type 0
HasNoKid kids = (v : ℕ) → slice_index kids v ≡ 0
