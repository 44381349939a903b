-- Marks of symbols, which tell the names of one body from others.
use Rattle.std.specs.Prelude.{◌≡◌, ◌<◌, ◌^◌, ℕ, List, Option, Some, None, length, option_and_then, set, slice_get, take}
use Rattle.pw_defs.specs.declared.netlist.Port.{Port}
use Rattle.list_defs.specs.Members.{IsIn, place_of, same_name}
use Rattle.net_names.specs.Apart.{GoesOn, IsSmall}

-- the mark of a name, where a symbol is spelled so
abbrev pub mark_of : List (List ℕ) → List ℕ → List ℕ → Option ℕ
mark_of symbols marks name = option_and_then (λ symbol. slice_get marks symbol) (place_of (same_name name) symbols)

-- the name bears this mark
abbrev pub IsMarked : List (List ℕ) → List ℕ → ℕ → List ℕ → Type 0
IsMarked symbols marks stamp name = mark_of symbols marks name ≡ Some stamp

-- each symbol has a mark, and names of which something holds bear this one
pub record AreMarked (symbols : List (List ℕ)) (marks : List ℕ) (stamp : ℕ) (P : List ℕ → Type 0) : Type 0 where
  pub count : length marks ≡ length symbols
  pub each : (name : List ℕ) → P name → IsMarked symbols marks stamp name

-- one of the ports is a vector of this name
pub record IsVectorName (ports : List Port) (name : List ℕ) : Type 0 where
  pub p : Port
  pub range : ℕ × ℕ
  pub one : IsIn p ports
  pub ranged : p.range ≡ Some range
  pub same : p.name ≡ name

-- the name doesn't go on with this byte, at a place, behind a name that bears the mark
abbrev pub IsFreeAt : List (List ℕ) → List ℕ → ℕ → ℕ → List ℕ → ℕ → Type 0
IsFreeAt symbols marks stamp byte name at = slice_get name at ≡ Some byte → IsMarked symbols marks stamp (take at name) → ⊥

-- the same at each place
abbrev pub IsFree : List (List ℕ) → List ℕ → ℕ → ℕ → List ℕ → Type 0
IsFree symbols marks stamp byte name = (front : List ℕ) → GoesOn byte front name → IsMarked symbols marks stamp front → ⊥

-- the symbol of a vector port, whose ends are numbers of 32 bits, is marked; that of a scalar isn't
abbrev pub MarksVector : List ℕ → ℕ → ℕ → Option (ℕ × ℕ) → List ℕ → Type 0
MarksVector old symbol stamp None new = new ≡ old
MarksVector old symbol stamp (Some r) new = (new ≡ set old symbol stamp) × (r.0 < 2 ^ 32) × (r.1 < 2 ^ 32)

-- the names of vector ports bear this mark, and the ends of all ranges are numbers of 32 bits
pub record AreVectorsMarked (symbols : List (List ℕ)) (marks : List ℕ) (stamp : ℕ) (ports : List Port) : Type 0 where
  pub marked : AreMarked symbols marks stamp (IsVectorName ports)
  pub small : (p : Port) → IsIn p ports → IsSmall p.range
