-- The joined names of instances, ports and port bits below the top.
use Rattle.std.specs.Prelude.{◌≡◌, ℕ, ◌<◌, List, Option, Some, option_map, slice_get}
use Rattle.pw_defs.specs.declared.design.Design.{Design}
use Rattle.pw_defs.specs.declared.design.Named.{Named}
use Rattle.pw_defs.specs.declared.design.Named.TheVariants.{Instance, Port as PortOf, PortBit as BitOf}
use Rattle.pw_defs.specs.declared.design.PortBit.{PortBit}
use Rattle.pw_defs.specs.declared.netlist.Port.{Port}
use Rattle.design_defs.specs.Names.{joined}
use Rattle.design_defs.specs.Ports.{port_at}
use Rattle.design_defs.specs.Ranges.{width, bit_name}

-- the path of an instance
abbrev pub path_of : Design → ℕ → Option (List ℕ)
path_of d inst = option_map (λ i. i.path) (slice_get d.insts inst)

-- what an instance is inside
abbrev pub parent_of : Design → ℕ → Option (Option ℕ)
parent_of d inst = option_map (λ i. i.parent) (slice_get d.insts inst)

-- The joined name of each instance below the top is its path, that of a port and of a bit of a vector port is the path
-- of the instance with the port's or the bit's name joined to it. The one bit of a scalar port is the port itself.
pub data HasJoinedName (d : Design) : Named → List ℕ → Type 0 where
  instance : (inst : ℕ) (path : List ℕ) → 0 < inst → path_of d inst ≡ Some path → HasJoinedName d (Instance inst) path
  port : (inst port : ℕ) (p : Port) (path : List ℕ) → path_of d inst ≡ Some path → port_at d inst port ≡ Some p
      → HasJoinedName d (PortOf inst port) (joined path p.name)
  vector_bit : (b : PortBit) (p : Port) (range : ℕ × ℕ) (path : List ℕ) → path_of d b.inst ≡ Some path → port_at d b.inst b.port ≡ Some p
      → p.range ≡ Some range → b.place < width p.range → HasJoinedName d (BitOf b) (joined path (bit_name p.name p.range b.place))

-- no two instances, ports or port bits have one joined name
abbrev pub HaveOwnNames : Design → Type 0
HaveOwnNames d = (x y : Named) (name : List ℕ) → HasJoinedName d x name → HasJoinedName d y name → x ≡ y
