-- When what stands at and below one instance agrees with what stands at and below another, with names taken below these.
use Rattle.std.specs.Prelude.{◌≡◌, ℕ, ◌==◌, ◌⊎◌, true, List, [], ◌∷◌, Option, Some, None, length, slice_get, if◌then◌else◌}
use Rattle.std.specs.List.{enumerate_from, filter_map}
use Rattle.pw_defs.specs.declared.design.Bit.{Bit}
use Rattle.pw_defs.specs.declared.design.Body.{Body}
use Rattle.pw_defs.specs.declared.design.Body.TheVariants.{Module}
use Rattle.pw_defs.specs.declared.design.Design.{Design}
use Rattle.pw_defs.specs.declared.design.Feeder.{Feeder}
use Rattle.pw_defs.specs.declared.design.Feeder.TheVariants.{Bit as BitFeeder, Through, Driver, Constant, Nothing}
use Rattle.pw_defs.specs.declared.design.PortBit.{PortBit}
use Rattle.design_defs.specs.Joined.{path_of, parent_of}
use Rattle.design_defs.specs.Names.{joined}
use Rattle.design_defs.specs.Ports.{body_of, dir_in, is_input}

-- a path with a name below it; the empty name is that of the path itself
abbrev pub named_below : List ℕ → List ℕ → List ℕ
named_below path [] = path
named_below path (c ∷ cs) = joined path (c ∷ cs)

-- n is this instance, or inside one that is at or below it
pub data IsAtOrBelow (d : Design) (top : ℕ) : ℕ → Type 0 where
  at : (n : ℕ) → n ≡ top → IsAtOrBelow d top n
  inside : (n p : ℕ) → parent_of d n ≡ Some (Some p) → IsAtOrBelow d top p → IsAtOrBelow d top n

-- n is at or below an instance, and this is its name there
pub record IsNamedBelow (d : Design) (top : ℕ) (name : List ℕ) (n : ℕ) : Type 0 where
  pub at_or_below : IsAtOrBelow d top n
  pub path : List ℕ
  pub path_of_top : path_of d top ≡ Some path
  pub path_there : path_of d n ≡ Some (named_below path name)

-- i at or below a, and j at or below b, have one name there
pub record AreSameInstance (d : Design) (a b i j : ℕ) : Type 0 where
  pub name : List ℕ
  pub first : IsNamedBelow d a name i
  pub second : IsNamedBelow d b name j

-- the number of a bit, where the instance owns it
abbrev pub owned_by : ℕ → ℕ × Bit → Option ℕ
owned_by inst e = if e.1.owner == inst then Some e.0 else None

-- the numbers of the bits that an instance owns, in order
abbrev pub own_bits : Design → ℕ → List ℕ
own_bits d inst = filter_map (owned_by inst) (enumerate_from 0 d.bits)

-- Bits n and m are owned by instances of one name below a and below b, at one place among the bits that these own.
-- (Bits of two nets may be spelled alike, so that the name of a bit alone doesn't tell which one it is.)
pub record AreSameBit (d : Design) (a b n m : ℕ) : Type 0 where
  pub i : ℕ
  pub j : ℕ
  pub owners : AreSameInstance d a b i j
  pub place : ℕ
  pub first : slice_get (own_bits d i) place ≡ Some n
  pub second : slice_get (own_bits d j) place ≡ Some m

-- the instances that i and j are inside agree: both are the ends a and b themselves, or they are inside the same instance
pub data AreInSame (d : Design) (a b i j : ℕ) : Type 0 where
  ends : i ≡ a → j ≡ b → AreInSame d a b i j
  inside : (p q : ℕ) → parent_of d i ≡ Some (Some p) → parent_of d j ≡ Some (Some q) → AreSameInstance d a b p q → AreInSame d a b i j

-- two instances agree: what they are instances of, what they are inside, and how many bits they own
pub record AreInstancesAlike (d : Design) (a b i j : ℕ) : Type 0 where
  pub body : body_of d i ≡ body_of d j
  pub parents : AreInSame d a b i j
  pub sizes : length (own_bits d i) ≡ length (own_bits d j)

-- two port bits agree
pub record ArePortBitsAlike (d : Design) (a b : ℕ) (p q : PortBit) : Type 0 where
  pub owners : AreSameInstance d a b p.inst q.inst
  pub port : p.port ≡ q.port
  pub place : p.place ≡ q.place

-- two bits are the same port bit of their owners, or both are bits of wires
abbrev pub ArePortsAlike : Design → ℕ → ℕ → Option PortBit → Option PortBit → Type 0
ArePortsAlike d a b None None = Unit {0}
ArePortsAlike d a b None (Some q) = ⊥
ArePortsAlike d a b (Some p) None = ⊥
ArePortsAlike d a b (Some p) (Some q) = ArePortBitsAlike d a b p q

-- two feeders agree
abbrev pub AreFeedersAlike : Design → ℕ → ℕ → Feeder → Feeder → Type 0
AreFeedersAlike d a b (BitFeeder n) (BitFeeder m) = AreSameBit d a b n m
AreFeedersAlike d a b (Through i n) (Through j m) = AreSameInstance d a b i j × AreSameBit d a b n m
AreFeedersAlike d a b (Driver p) (Driver q) = ArePortBitsAlike d a b p q
AreFeedersAlike d a b Constant Constant = Unit {0}
AreFeedersAlike d a b Nothing Nothing = Unit {0}
AreFeedersAlike d a b _ _ = ⊥

-- the bit is one of an input port of the instance
pub record IsInputBitOf (d : Design) (inst : ℕ) (b : Bit) : Type 0 where
  pub port : PortBit
  pub is_port : b.port ≡ Some port
  pub of_instance : port.inst ≡ inst
  pub body : Body
  pub is_body : body_of d inst ≡ Some body
  pub input : is_input (dir_in d body port.port) ≡ true

-- two bits have one name below a and below b
pub record HaveSameName (d : Design) (a b : ℕ) (x y : Bit) : Type 0 where
  pub name : List ℕ
  pub path : List ℕ
  pub other : List ℕ
  pub path_of_first : path_of d a ≡ Some path
  pub path_of_second : path_of d b ≡ Some other
  pub first : x.name ≡ named_below path name
  pub second : y.name ≡ named_below other name

-- two bits agree: in their names, in their ports, and, but for input bits of a itself, in what feeds them
pub record AreBitsAlike (d : Design) (a b : ℕ) (x y : Bit) : Type 0 where
  pub names : HaveSameName d a b x y
  pub ports : ArePortsAlike d a b x.port y.port
  pub feeders : IsInputBitOf d a x ⊎ AreFeedersAlike d a b x.feeder y.feeder

-- each instance at or below a has one of its name below b, and they agree; so do their bits
pub record AreAlike (d : Design) (a b : ℕ) : Type 0 where
  pub instances : (name : List ℕ) (i : ℕ) → IsNamedBelow d a name i → (j : ℕ) × IsNamedBelow d b name j × AreInstancesAlike d a b i j
  pub bits : (n m : ℕ) (x y : Bit) → AreSameBit d a b n m → slice_get d.bits n ≡ Some x → slice_get d.bits m ≡ Some y → AreBitsAlike d a b x y
  pub named : (i : ℕ) → IsAtOrBelow d a i → (name : List ℕ) × IsNamedBelow d a name i

-- any two instances of one module are alike
abbrev pub HasModulesAlike : Design → Type 0
HasModulesAlike d = (a b m : ℕ) → body_of d a ≡ Some (Module m) → body_of d b ≡ Some (Module m) → AreAlike d a b
