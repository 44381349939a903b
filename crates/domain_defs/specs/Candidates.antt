-- The strategies that are candidates at a face, and their classes.
use Rattle.std.specs.Prelude.{◌≡◌, ℕ, ◌≤◌, Bool, true, false, ◌&&◌, if◌then◌else◌, List, [], ◌∷◌, Option, Some, None, option_and_then, slice_get}
use Rattle.std.specs.Option.{option_or}
use Rattle.pw_defs.specs.declared.design.Design.{Design}
use Rattle.pw_defs.specs.declared.design.Named.{Named}
use Rattle.pw_defs.specs.declared.design.Named.TheVariants.{Instance, Port, PortBit as NamedBit}
use Rattle.pw_defs.specs.declared.design.PortBit.{PortBit}
use Rattle.pw_defs.specs.declared.intent.Domain.{Domain}
use Rattle.pw_defs.specs.declared.intent.Face.{Face}
use Rattle.pw_defs.specs.declared.intent.SupplySet.{SupplySet}
use Rattle.pw_defs.specs.declared.strategies.Act.{Act}
use Rattle.pw_defs.specs.declared.strategies.Act.TheVariants.{Iso as Isolate, Shift as ShiftLevel}
use Rattle.pw_defs.specs.declared.strategies.Candidate.{Candidate}
use Rattle.pw_defs.specs.declared.strategies.Strategy.{Strategy}
use Rattle.pw_defs.specs.declared.strategies.Tool.{Tool}
use Rattle.pw_defs.specs.declared.strategies.Tool.TheVariants.{Iso, Shift}
use Rattle.list_defs.specs.Members.{IsIn}
use Rattle.domain_defs.specs.Faces.{enters}

-- names contain a port bit: by its own name in class 4, by its port's in class 3, by its instance's in class 2
pub data Contain (names : List Named) (bit : PortBit) : ℕ → Type 0 where
  by_bit : IsIn (NamedBit bit) names → Contain names bit 4
  by_port : IsIn (Port bit.inst bit.port) names → Contain names bit 3
  by_instance : IsIn (Instance bit.inst) names → Contain names bit 2

-- A strategy matches a port bit by its elements, in their class. Without elements it matches in class 1 where it
-- applies to one direction, and in class 0 where it applies to both.
pub data Matches (s : Strategy) (bit : PortBit) : ℕ → Type 0 where
  named : (names : List Named) (class : ℕ) → s.elements ≡ Some names → Contain names bit class → Matches s bit class
  one_way : s.elements ≡ None → (s.inputs && s.outputs) ≡ false → Matches s bit 1
  both_ways : s.elements ≡ None → (s.inputs && s.outputs) ≡ true → Matches s bit 0

-- the class of a strategy at a port bit: the highest in which it matches
pub record IsClass (s : Strategy) (bit : PortBit) (class : ℕ) : Type 0 where
  pub matches : Matches s bit class
  pub highest : (other : ℕ) → Matches s bit other → other ≤ class

-- whether the boundary and the direction of a strategy admit a face: an inner face is on the upper boundary of its
-- domain, an outer face on the lower one
abbrev pub admits : Design → Strategy → Face → Bool
admits design s face = (if face.inner then s.upper else s.lower) && (if enters design face then s.inputs else s.outputs)

-- what a strategy puts in
abbrev pub tool_of : Act → Tool
tool_of (Isolate mode supply) = Iso
tool_of (ShiftLevel mode up down threshold input output) = Shift

-- the isolation supply that a domain gives where none is stated
abbrev pub default_isolation : List Domain → ℕ → Option SupplySet
default_isolation domains d = option_and_then (λ domain. domain.default_iso) (slice_get domains d)

-- The isolation supply of a strategy is the stated one, else its domain's default, else unstated.
abbrev pub isolation_supply : List Domain → Strategy → Option SupplySet → Option SupplySet
isolation_supply domains s stated = option_or stated (default_isolation domains s.domain)

-- what a strategy asks for, with its isolation supply
abbrev pub whole_act : List Domain → Strategy → Act → Act
whole_act domains s (Isolate mode stated) = Isolate mode (isolation_supply domains s stated)
whole_act domains s (ShiftLevel mode up down threshold input output) = ShiftLevel mode up down threshold input output

-- A strategy for a tool is a candidate at a face of its domain where its boundary and direction admit the face, and its
-- elements, if given, contain the face's bit, port or instance, and its excluded elements contain none of the three.
pub record IsCandidate (design : Design) (domains : List Domain) (face : Face) (tool : Tool) (s : Strategy) (c : Candidate) : Type 0 where
  pub tool_is : tool_of s.act ≡ tool
  pub domain_is : s.domain ≡ face.domain
  pub admitted : admits design s face ≡ true
  pub included : (class : ℕ) → ¬ Contain s.excluded face.bit class
  pub class_is : IsClass s face.bit c.class
  pub filter_is : c.filter ≡ s.filter
  pub act_is : c.act ≡ whole_act domains s s.act

-- the candidates among strategies, in the order in which the strategies were made
pub data AreCandidatesMade (design : Design) (domains : List Domain) (face : Face) (tool : Tool) : List Strategy → List Candidate → Type 0 where
  none : AreCandidatesMade design domains face tool [] []
  taken : (s : Strategy) (c : Candidate) (rest : List Strategy) (more : List Candidate) → IsCandidate design domains face tool s c
      → AreCandidatesMade design domains face tool rest more → AreCandidatesMade design domains face tool (s ∷ rest) (c ∷ more)
  left : (s : Strategy) (rest : List Strategy) (more : List Candidate) → ((c : Candidate) → ¬ IsCandidate design domains face tool s c)
      → AreCandidatesMade design domains face tool rest more → AreCandidatesMade design domains face tool (s ∷ rest) more
