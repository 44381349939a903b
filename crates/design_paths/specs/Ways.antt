-- The steps by which a name below an instance is followed.
use Rattle.std.specs.Prelude.{◌≡◌, ℕ, ◌<◌, List, ◌∷◌, ◌++◌, Some, None, length}
use Rattle.std.specs.List.{position}
use Rattle.std.specs.Option.{option_and_then}
use Rattle.pw_defs.specs.declared.design.Design.{Design}
use Rattle.pw_defs.specs.declared.design.Named.{Named}
use Rattle.pw_defs.specs.declared.design.Named.TheVariants.{Instance, Port, PortBit}
use Rattle.design_defs.specs.Joined.{parent_of}
use Rattle.design_defs.specs.Ports.{ports_of}
use Rattle.design_defs.specs.Resolves.{HasNameBelow, ResolvesToNothing}
use Rattle.design_rows.specs.Children.{IsNamedInside}
use Rattle.design_paths.specs.BitNames.{HasNoBit}
use Rattle.port_order.specs.PortNames.{has_name}

-- x is directly inside the instance, or a port or port bit of its own
abbrev pub StandsHere : Design → ℕ → Named → Type 0
StandsHere d inst (Instance n) = parent_of d n ≡ Some (Some inst)
StandsHere d inst (Port owner port) = owner ≡ inst
StandsHere d inst (PortBit b) = b.inst ≡ inst

-- nothing that stands there has the name
abbrev pub HasNoneHere : Design → ℕ → List ℕ → Type 0
HasNoneHere d inst name = (x : Named) → StandsHere d inst x → HasNameBelow d inst name x → ⊥

-- Where the name up to a place is that of an instance inside this one and a slash follows, the rest stands for nothing
-- below that one.
abbrev pub HasNoneBehind : Design → ℕ → List ℕ → ℕ → Type 0
HasNoneBehind d inst name at =
    (n : ℕ) (front rest : List ℕ) → length front ≡ at → name ≡ front ++ 47 ∷ rest → IsNamedInside d inst front n → ResolvesToNothing d n rest

-- and so at each place
abbrev pub HasNoneDeeper : Design → ℕ → List ℕ → Type 0
HasNoneDeeper d inst name = (at : ℕ) → HasNoneBehind d inst name at

-- where an instance inside has the first name, the second stands for nothing below it
abbrev pub HasNoneInsideOf : Design → ℕ → List ℕ → List ℕ → Type 0
HasNoneInsideOf d inst front rest = (n : ℕ) → IsNamedInside d inst front n → ResolvesToNothing d n rest

-- neither a port nor a bit of the instance has the name
abbrev pub HasNoneOwn : Design → ℕ → List ℕ → Type 0
HasNoneOwn d inst name = (option_and_then (position (has_name name)) (ports_of d inst) ≡ None) × HasNoBit d inst name

-- no slash stands at the place
abbrev pub HasNoSlash : List ℕ → ℕ → Type 0
HasNoSlash name at = (front rest : List ℕ) → length front ≡ at → name ≡ front ++ 47 ∷ rest → ⊥

-- a slash stands at the place, between these
pub record IsParted (name : List ℕ) (at : ℕ) (front rest : List ℕ) : Type 0 where
  pub split : name ≡ front ++ 47 ∷ rest
  pub place : length front ≡ at
  pub shorter : length rest < length name
