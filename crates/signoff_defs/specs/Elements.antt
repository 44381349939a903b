-- The elements of a walk: faces with their candidates, and isolation cells and level shifters with their sets.
use Rattle.std.specs.Prelude.{◌≡◌, ℕ, Bool, true, false, List, ◌++◌, Option, Some, None}
use Rattle.std.specs.List.{AllZip}
use Rattle.pw_defs.specs.declared.cells.Cell.{Cell as LeafCell}
use Rattle.pw_defs.specs.declared.chains.Element.{Element}
use Rattle.pw_defs.specs.declared.chains.Element.TheVariants.{Face as FaceElement, Cell as CellElement}
use Rattle.pw_defs.specs.declared.design.Design.{Design}
use Rattle.pw_defs.specs.declared.design.PortBit.{PortBit}
use Rattle.pw_defs.specs.declared.intent.Face.{Face}
use Rattle.pw_defs.specs.declared.intent.Intent.{Intent}
use Rattle.pw_defs.specs.declared.intent.SupplySet.{SupplySet}
use Rattle.pw_defs.specs.declared.strategies.Candidate.{Candidate}
use Rattle.pw_defs.specs.declared.strategies.Tool.TheVariants.{Iso, Shift}
use Rattle.domain_defs.specs.Faces.{HasFaces, DomainsAgree}
use Rattle.domain_defs.specs.Precedence.{AreCandidates}
use Rattle.domain_defs.specs.Sets.{cell_of, cell_set, shifter_input}
use Rattle.supply_defs.specs.UnitViews.{HasRoots, view_ends}
use Rattle.list_defs.specs.Found.{AreFound}
use Rattle.signoff_defs.specs.Seen.{HasRootsIfStated, IsSeenCandidate}
use Rattle.signoff_defs.specs.WalkParts.{Part}

-- the candidates at a face as a unit sees them, those for isolation first
pub record AreSeenAt (d : Design) (i : Intent) (unit : ℕ) (face : Face) (candidates : List Candidate) : Type 0 where
  pub isolating : List Candidate
  pub shifting : List Candidate
  pub are_isolating : AreCandidates d i face Iso isolating
  pub are_shifting : AreCandidates d i face Shift shifting
  pub seen : AllZip (IsSeenCandidate i.supplies (view_ends i.supplies i.units unit)) (isolating ++ shifting) candidates

-- the set on the input side of a level shifter; of an isolation cell alone it isn't kept, since it is that of its output
abbrev pub HasInput : Design → Intent → ℕ → ℕ → Bool → Option SupplySet → Type 0
HasInput d i unit inst false seen = seen ≡ None
HasInput d i unit inst true seen = HasRootsIfStated i.supplies (view_ends i.supplies i.units unit) (shifter_input i inst) seen

-- an isolation cell or level shifter with its sets as a unit sees them
pub record IsSeenCell (d : Design) (i : Intent) (unit inst : ℕ) (iso shift : Bool) (input : Option SupplySet) (output : SupplySet) : Type 0 where
  pub leaf : LeafCell
  pub is_cell : cell_of d inst ≡ Some leaf
  pub iso_is : iso ≡ leaf.iso
  pub shift_is : shift ≡ leaf.shift
  pub input_is : HasInput d i unit inst shift input
  pub set : SupplySet
  pub has_set : cell_set d i inst ≡ Some set
  pub output_is : HasRoots i.supplies (view_ends i.supplies i.units unit) set output

-- The element at a part of a walk, as a unit sees it: at a side of a port where two domains meet its face with the
-- candidates there, and at a cell the cell.
pub data IsElement (d : Design) (i : Intent) (unit : ℕ) : Part → Element → Type 0 where
  inner_face : (p : PortBit) (outside : Option Face) (inside : Face) (candidates : List Candidate) → HasFaces d i p outside inside
      → AreSeenAt d i unit inside candidates → IsElement d i unit (Part.inner p) (FaceElement candidates)
  outer_face : (p : PortBit) (outside inside : Face) (candidates : List Candidate) → HasFaces d i p (Some outside) inside
      → AreSeenAt d i unit outside candidates → IsElement d i unit (Part.outer p) (FaceElement candidates)
  passed_cell : (inst : ℕ) (iso shift : Bool) (input : Option SupplySet) (output : SupplySet) → IsSeenCell d i unit inst iso shift input output
      → IsElement d i unit (Part.cell inst) (CellElement iso shift input output)

-- at the sides of a port of one domain there is no element
abbrev pub HasNoElement : Design → Intent → Part → Type 0
HasNoElement d i (Part.inner p) = DomainsAgree d i p
HasNoElement d i (Part.outer p) = DomainsAgree d i p
HasNoElement d i (Part.cell inst) = ⊥

-- the elements of a walk that passes these parts, as a unit sees them
abbrev pub AreElements : Design → Intent → ℕ → List Part → List Element → Type 0
AreElements d i unit = AreFound (IsElement d i unit) (HasNoElement d i)
