-- The open walks of a soft macro: those that begin at an output bit of it, or stop at an input bit of it. They are those of
-- a design without models.
use Rattle.std.specs.Prelude.{◌≡◌, ◌≢◌, ℕ, true, false, Bool, List, [], ◌∷◌, ◌++◌, Some, filter}
use Rattle.std.specs.Ordering.{nat_cmp, ordering_then}
use Rattle.std.specs.declared.cmp.Ordering.{Ordering}
use Rattle.pw_defs.specs.declared.chains.Crossings.{Crossings}
use Rattle.pw_defs.specs.declared.chains.Element.{Element}
use Rattle.pw_defs.specs.declared.chains.Element.TheVariants.{Face, Cell}
use Rattle.pw_defs.specs.declared.chains.Partial.{Partial}
use Rattle.pw_defs.specs.declared.chains.Partial.TheVariants.{Drive, Feed, Quiet, Take}
use Rattle.pw_defs.specs.declared.design.Design.{Design}
use Rattle.pw_defs.specs.declared.design.Feeder.TheVariants.{Driver, Constant, Nothing}
use Rattle.pw_defs.specs.declared.design.PortBit.{PortBit}
use Rattle.pw_defs.specs.declared.intent.Intent.{Intent}
use Rattle.pw_defs.specs.declared.intent.SupplySet.{SupplySet}
use Rattle.list_defs.specs.Orders.{name_cmp, AreAllRising, IsPutInOrder}
use Rattle.design_defs.specs.Alike.{IsAtOrBelow}
use Rattle.design_defs.specs.CutWalks.{IsWalkInside, WalkEnd, port_bit_at}
use Rattle.design_defs.specs.Drivers.{drives}
use Rattle.design_defs.specs.Ports.{is_output, receives}
use Rattle.domain_defs.specs.Faces.{dir_of}
use Rattle.signoff_defs.specs.Chains.{AreAllChains, HasEndSet, last_bit, name_of}
use Rattle.signoff_defs.specs.Elements.{AreElements}
use Rattle.list_defs.specs.Found.{AreFound}
use Rattle.signoff_defs.specs.WalkParts.{walk_parts}

-- an output bit of an instance
pub record IsOutputBit (d : Design) (inst bit : ℕ) (p : PortBit) : Type 0 where
  pub there : port_bit_at d bit ≡ Some p
  pub of_inst : p.inst ≡ inst
  pub output : is_output (dir_of d p) ≡ true

-- a receiver inside an instance; the instance's own ports are none
pub record IsReceiverInside (d : Design) (inst bit : ℕ) (p : PortBit) : Type 0 where
  pub there : port_bit_at d bit ≡ Some p
  pub receives : receives d p ≡ true
  pub inside : IsAtOrBelow d inst p.inst
  pub inner : p.inst ≢ inst

-- a face without candidates says nothing
abbrev pub says_something : Element → Bool
says_something (Face []) = false
says_something (Face (c ∷ cs)) = true
says_something (Cell iso shift input output) = true

-- the elements of a walk inside an instance that say something, as a unit sees them
pub record AreTold (d : Design) (i : Intent) (inst unit : ℕ) (bits : List ℕ) (told : List Element) : Type 0 where
  pub elements : List Element
  pub are_elements : AreElements d i unit (walk_parts d inst bits) elements
  pub kept : told ≡ filter says_something elements

-- nothing drives the walk
pub data IsUndriven : WalkEnd → Type 0 where
  constant : IsUndriven (WalkEnd.by_feeder Constant)
  unfed : IsUndriven (WalkEnd.by_feeder Nothing)

-- The open walk from a bit of an instance, as a unit sees it: an output bit is driven by a driver inside, is fed by an
-- input bit, or is quiet; a receiver inside takes from an input bit.
pub data IsOpenWalk (d : Design) (i : Intent) (inst unit : ℕ) : ℕ → Partial → Type 0 where
  drive : (bit : ℕ) (p driver : PortBit) (bits : List ℕ) (set : SupplySet) (told : List Element) → IsOutputBit d inst bit p
      → IsWalkInside d inst bit bits (WalkEnd.by_feeder (Driver driver)) → drives d driver ≡ true → HasEndSet d i unit driver set
      → AreTold d i inst unit bits told
      → IsOpenWalk d i inst unit bit (Drive (name_of d (Some bit)) (name_of d (last_bit bits)) set told)
  feed : (bit : ℕ) (p : PortBit) (bits : List ℕ) (told : List Element) → IsOutputBit d inst bit p
      → IsWalkInside d inst bit bits WalkEnd.at_cut → AreTold d i inst unit bits told
      → IsOpenWalk d i inst unit bit (Feed (name_of d (Some bit)) (name_of d (last_bit bits)) told)
  quiet : (bit : ℕ) (p : PortBit) (bits : List ℕ) (end : WalkEnd) → IsOutputBit d inst bit p → IsWalkInside d inst bit bits end → IsUndriven end
      → IsOpenWalk d i inst unit bit (Quiet (name_of d (Some bit)))
  take : (bit : ℕ) (p : PortBit) (bits : List ℕ) (set : SupplySet) (told : List Element) → IsReceiverInside d inst bit p
      → IsWalkInside d inst bit bits WalkEnd.at_cut → HasEndSet d i unit p set → AreTold d i inst unit bits told
      → IsOpenWalk d i inst unit bit (Take (name_of d (last_bit bits)) (name_of d (Some bit)) set told)

-- an output bit with its place
abbrev pub IsOutputAt : Design → ℕ → ℕ × PortBit → Type 0
IsOutputAt d inst at = IsOutputBit d inst at.0 at.1

-- output bits go by port and from the left
abbrev pub place_cmp : ℕ × PortBit → ℕ × PortBit → Ordering
place_cmp a b = ordering_then (nat_cmp a.1.port b.1.port) (nat_cmp a.1.place b.1.place)

-- the name that the walks of receivers go by
abbrev pub taker : Partial → List ℕ
taker (Drive bit pin set elements) = []
taker (Feed bit from elements) = []
taker (Quiet bit) = []
taker (Take bit receiver set elements) = receiver

abbrev pub taker_cmp : Partial → Partial → Ordering
taker_cmp a b = name_cmp (taker a) (taker b)

-- a bit has no open walk
abbrev pub HasNoOpenWalk : Design → Intent → ℕ → ℕ → ℕ → Type 0
HasNoOpenWalk d i inst unit bit = (p : Partial) → IsOpenWalk d i inst unit bit p → ⊥

-- a receiver inside with its place
abbrev pub IsReceiverAt : Design → ℕ → ℕ → Type 0
IsReceiverAt d inst bit = (p : PortBit) × IsReceiverInside d inst bit p

-- The open walks of an instance as a unit sees them: those of its output bits by port and from the left, then those of
-- receivers by name.
pub record AreOpenWalks (d : Design) (i : Intent) (inst unit : ℕ) (walks : List Partial) : Type 0 where
  pub outputs : List (ℕ × PortBit)
  pub are_outputs : AreAllRising place_cmp (IsOutputAt d inst) outputs
  pub given : List Partial
  pub are_given : AreFound (λ (at : ℕ × PortBit). IsOpenWalk d i inst unit at.0) (λ (at : ℕ × PortBit). HasNoOpenWalk d i inst unit at.0) outputs given
  pub receivers : List ℕ
  pub are_receivers : AreAllRising nat_cmp (IsReceiverAt d inst) receivers
  pub taken : List Partial
  pub are_taken : AreFound (IsOpenWalk d i inst unit) (HasNoOpenWalk d i inst unit) receivers taken
  pub taken_in_order : List Partial
  pub in_order : IsPutInOrder taker_cmp taken taken_in_order
  pub all : walks ≡ given ++ taken_in_order

-- The closed chains of a design, in order of their receivers' bits, and the open walks of its top.
pub record AreCrossings (d : Design) (i : Intent) (c : Crossings) : Type 0 where
  pub closed : AreAllChains d i c.closed
  pub partials : AreOpenWalks d i 0 0 c.partials
