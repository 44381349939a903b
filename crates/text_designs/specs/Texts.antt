-- What the texts of libraries and netlists make, and which of them is at fault.
use Rattle.std.specs.Prelude.{◌≡◌, ℕ, zero, suc, ◌+◌, ◌⊎◌, List, [], ◌∷◌, ◌++◌, Some, Result, Err, length, map, replicate, slice_get, take, unwrap_or}
use Rattle.std.specs.List.{AllZip, flat_map}
use Rattle.pw_defs.specs.declared.cells.Cells.{Cells}
use Rattle.pw_defs.specs.declared.design.Design.{Design}
use Rattle.pw_defs.specs.declared.faults.AtModule.{AtModule}
use Rattle.pw_defs.specs.declared.faults.DesignFault.{DesignFault}
use Rattle.pw_defs.specs.declared.faults.DesignFault.TheVariants.{N5, N6, N7, N8, N9, N10, N11, N12, M5, X1, Memory}
use Rattle.pw_defs.specs.declared.faults.LibFault.{LibFault}
use Rattle.pw_defs.specs.declared.faults.NetFault.{NetFault}
use Rattle.pw_defs.specs.declared.model.Model.{Model}
use Rattle.pw_defs.specs.declared.netlist.Module.{Module}
use Rattle.list_defs.specs.Members.{IsIn}
use Rattle.design_defs.specs.DesignFaults.{IsDesignOf, sources}
use Rattle.design_defs.specs.Inputs.{AllDiffer}
use Rattle.design_defs.specs.Models.{HasWellFormedFields}
use Rattle.cell_joins.specs.Unions.{IsJoin, IsReading}
use Rattle.lib_cells.specs.Joins.{JoinsTo}
use Rattle.lib_cells.specs.LibraryFaults.{ReadsAsCells}
use Rattle.module_rows.specs.declared.plain.Draft.{Draft}
use Rattle.net_hierarchy.specs.Firstness.{IsCause}
use Rattle.net_modules.specs.Drafts.{AreAdded}
use Rattle.net_text.specs.NetlistFaults.{ReadsAsModules}
use Rattle.net_text.specs.Stopped.{IsToldFault}
use Rattle.read_laws.specs.Laws.{AreJoinedCells}
use Rattle.text_designs.specs.declared.faults.TextFault.{TextFault}
use Rattle.text_designs.specs.declared.faults.TextFault.TheVariants.{Library, Netlist, Design as OfDesign}

-- ---- libraries

abbrev pub no_cells : Cells
no_cells = record { cells = [] }

-- the cells so far are joined with those of one more text
abbrev pub JoinsText : Cells → List ℕ → Cells → Type 0
JoinsText all text joined = (more : Cells) × ReadsAsCells text more × JoinsTo all more joined

-- What is wrong with one more text: the text itself, or a cell that it gives otherwise than one before it. Each of them may
-- want memory.
abbrev pub IsLibraryAtFault : Cells → List ℕ → LibFault → Type 0
IsLibraryAtFault all text fault = IsReading text (Err fault) ⊎ ((more : Cells) × ReadsAsCells text more × IsJoin all more (Err fault))

-- the library of this number is the first at fault
pub record IsFirstLibraryAtFault (libraries : List (List ℕ)) (number : ℕ) (fault : LibFault) : Type 0 where
  pub before : Cells
  pub text : List ℕ
  pub joined : AreJoinedCells no_cells (take number libraries) before
  pub there : slice_get libraries number ≡ Some text
  pub at_fault : IsLibraryAtFault before text fault

-- a library is at fault, and none before it
abbrev pub AreLibrariesAtFault : List (List ℕ) → TextFault → Type 0
AreLibrariesAtFault libraries (Library number fault) = IsFirstLibraryAtFault libraries number fault
AreLibrariesAtFault libraries (Netlist number fault) = ⊥
AreLibrariesAtFault libraries (OfDesign number fault) = ⊥

-- ---- netlists

-- the modules of each netlist
abbrev pub AreReadEach : List (List ℕ) → List (List Module) → Type 0
AreReadEach netlists lists = AllZip ReadsAsModules netlists lists

-- all modules, in the order of their netlists
abbrev pub all_of : List (List Module) → List Module
all_of lists = flat_map (λ (modules : List Module). modules) lists

-- The modules of netlists, one behind the other, and how many each has.
pub record AreNetlists (netlists : List (List ℕ)) (modules : List Module) (counts : List ℕ) : Type 0 where
  pub lists : List (List Module)
  pub read : AreReadEach netlists lists
  pub all : modules ≡ all_of lists
  pub counted : counts ≡ map length lists

-- a builder with the modules of one more text, and their number
pub record ReadsMore (text : List ℕ) (old new : Draft) (old_counts new_counts : List ℕ) : Type 0 where
  pub added : AreAdded text old new
  pub counted : new_counts ≡ old_counts ++ length added.modules ∷ []

-- the netlist of this number is the first at fault
pub record IsFirstNetlistAtFault (netlists : List (List ℕ)) (number : ℕ) (fault : NetFault) : Type 0 where
  pub before : List (List Module)
  pub text : List ℕ
  pub read : AreReadEach (take number netlists) before
  pub there : slice_get netlists number ≡ Some text
  pub told : IsToldFault text fault

-- a netlist is at fault, and none before it
abbrev pub AreNetlistsAtFault : List (List ℕ) → TextFault → Type 0
AreNetlistsAtFault netlists (Library number fault) = ⊥
AreNetlistsAtFault netlists (Netlist number fault) = IsFirstNetlistAtFault netlists number fault
AreNetlistsAtFault netlists (OfDesign number fault) = ⊥

-- ---- the text of a design's fault

-- the number of the netlist of each module, by how many modules each netlist has, from this number on
abbrev pub texts_of_modules : ℕ → List ℕ → List ℕ
texts_of_modules number [] = []
texts_of_modules number (count ∷ counts) = replicate count number ++ texts_of_modules (number + 1) counts

-- a fault stands in the netlist of its module, and at line 0 in the first one
abbrev pub text_at_line : List ℕ → ℕ → ℕ → ℕ
text_at_line counts holder zero = 0
text_at_line counts holder (suc line) = unwrap_or (slice_get (texts_of_modules 0 counts) holder) 0

abbrev pub text_of_place : List ℕ → AtModule → ℕ
text_of_place counts at = text_at_line counts at.module at.line

abbrev pub text_of_fault : List ℕ → DesignFault → ℕ
text_of_fault counts (N5 at) = text_of_place counts at
text_of_fault counts (N6 at) = text_of_place counts at
text_of_fault counts (N7 at) = text_of_place counts at
text_of_fault counts (N8 at) = text_of_place counts at
text_of_fault counts (N9 at) = text_of_place counts at
text_of_fault counts (N10 at) = text_of_place counts at
text_of_fault counts (N11 at) = text_of_place counts at
text_of_fault counts (N12 at) = text_of_place counts at
text_of_fault counts (M5 at) = text_of_place counts at
text_of_fault counts (X1 at) = text_of_place counts at
text_of_fault counts Memory = 0

-- ---- designs

-- models as their texts give them, one at most for each module
pub record AreReadModels (models : List Model) : Type 0 where
  pub each : (m : Model) → IsIn m models → HasWellFormedFields m
  pub names : AllDiffer (map (λ (m : Model). m.module) models)

-- the cells of the libraries, and the modules of each netlist
pub record AreReadAs (libraries netlists : List (List ℕ)) (cells : Cells) (lists : List (List Module)) : Type 0 where
  pub joined : AreJoinedCells no_cells libraries cells
  pub read : AreReadEach netlists lists

-- the texts are readable, and make this design
abbrev pub IsDesignOfTexts : List (List ℕ) → List (List ℕ) → List Model → List ℕ → Design → Type 0
IsDesignOfTexts libraries netlists models top design =
    (cells : Cells) × (lists : List (List Module)) × AreReadAs libraries netlists cells lists × IsDesignOf (all_of lists) cells models top design

-- A library is at fault; or none is, but a netlist; or none of the texts, but the design that they make. Each step may want memory.
abbrev pub IsFaultOfTexts : List (List ℕ) → List (List ℕ) → List Model → List ℕ → TextFault → Type 0
IsFaultOfTexts libraries netlists models top (Library number fault) = IsFirstLibraryAtFault libraries number fault
IsFaultOfTexts libraries netlists models top (Netlist number fault) =
    (cells : Cells) × AreJoinedCells no_cells libraries cells × IsFirstNetlistAtFault netlists number fault
IsFaultOfTexts libraries netlists models top (OfDesign number fault) =
    (cells : Cells) × (lists : List (List Module)) × AreReadAs libraries netlists cells lists
    × IsCause (sources (all_of lists) cells models top) fault × (number ≡ text_of_fault (map length lists) fault)
