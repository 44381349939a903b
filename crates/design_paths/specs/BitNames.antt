-- Bits of vector ports by their names.
use Rattle.std.specs.Prelude.{◌≡◌, ℕ, ◌<◌, List, ◌∷◌, ◌++◌, Some, length}
use Rattle.pw_defs.specs.declared.design.Design.{Design}
use Rattle.pw_defs.specs.declared.design.PortBit.{PortBit}
use Rattle.pw_defs.specs.declared.netlist.Port.{Port}
use Rattle.design_defs.specs.Ports.{port_at}
use Rattle.design_defs.specs.Ranges.{bit_name, width}

-- the port bit is one of a vector port of the instance, and has this name there
pub record IsBitNamed (d : Design) (inst : ℕ) (name : List ℕ) (b : PortBit) : Type 0 where
  pub owner : b.inst ≡ inst
  pub port : Port
  pub is_port : port_at d inst b.port ≡ Some port
  pub range : ℕ × ℕ
  pub is_vector : port.range ≡ Some range
  pub within : b.place < width (Some range)
  pub named : name ≡ bit_name port.name (Some range) b.place

-- no bit of a vector port of the instance has the name
abbrev pub HasNoBit : Design → ℕ → List ℕ → Type 0
HasNoBit d inst name = (b : PortBit) → IsBitNamed d inst name b → ⊥

-- nor one of a port whose name is as long as that
abbrev pub HasNoBitFrom : Design → ℕ → List ℕ → ℕ → Type 0
HasNoBitFrom d inst name at = (b : PortBit) → (is : IsBitNamed d inst name b) → length (is.port.name) ≡ at → ⊥

-- nor one of a port of this name
abbrev pub HasNoBitOf : Design → ℕ → List ℕ → List ℕ → Type 0
HasNoBitOf d inst vector name = (b : PortBit) → (is : IsBitNamed d inst name b) → is.port.name ≡ vector → ⊥

-- no bracket stands at the place
abbrev pub HasNoBracket : List ℕ → ℕ → Type 0
HasNoBracket name at = (front rest : List ℕ) → length front ≡ at → name ≡ front ++ 91 ∷ rest → ⊥
