-- The refusals that stand for what is wrong with a file or a design.
use Rattle.std.specs.Prelude.{◌≡◌, ℕ, zero, suc, ◌≤◌, ◌<◌, List, [], Option, Some, None, length, map, slice_get, unwrap_or}
use Rattle.std.specs.List.{flat_map}
use Rattle.pw_defs.specs.declared.faults.At.{At}
use Rattle.pw_defs.specs.declared.faults.AtModule.{AtModule}
use Rattle.pw_defs.specs.declared.faults.Code.{Code}
use Rattle.pw_defs.specs.declared.faults.Code.TheVariants.{F1, F2, L1, L2, L3, N1, N2, N3, N4, N5, N6, N7, N8, N9, N10, N11, N12, M5, X1}
use Rattle.pw_defs.specs.declared.faults.DesignFault.{DesignFault}
use Rattle.pw_defs.specs.declared.faults.DesignFault.TheVariants.{N5 as NoType, N6 as NoPort, N7 as Widths, N8 as FedTwice, N9 as Recursion, N10 as Ring, N11 as ModuleTwice, N12 as PathTwice, M5 as OtherPorts, X1 as TooLarge, Memory as DesignMemory}
use Rattle.pw_defs.specs.declared.faults.LibFault.{LibFault}
use Rattle.pw_defs.specs.declared.faults.LibFault.TheVariants.{L1 as LibrarySyntax, L2 as CellTwice, L3 as PinRole, Memory as LibraryMemory}
use Rattle.pw_defs.specs.declared.faults.NetFault.{NetFault}
use Rattle.pw_defs.specs.declared.faults.NetFault.TheVariants.{N1 as NetlistSyntax, N2 as Inout, N3 as LeftOut, N4 as NameTwice, Memory as NetlistMemory}
use Rattle.pw_defs.specs.declared.faults.Refusal.{Refusal}
use Rattle.pw_defs.specs.declared.netlist.Module.{Module}
use Rattle.pw_outer.specs.Fetches.{Files, file_named}
use Rattle.pw_outer.specs.declared.shelves.TheConstants.{LONGEST_FILE}
use Rattle.step_defs.specs.Steps.{Step}

abbrev pub refusal : Code → List ℕ → ℕ → List ℕ → Refusal
refusal code file line name = record { code = code; file = file; line = line; name = name }

-- a fault at a line of a file
abbrev pub refusal_at : Code → List ℕ → At → Refusal
refusal_at code file at = refusal code file at.line at.name

-- what is wrong with a file of a shelf: F1 where it isn't there, F2 where it is too long
pub data IsFileFault (files : Files) (name : List ℕ) (r : Refusal) : Type 0 where
  absent : file_named name files ≡ None → r ≡ refusal F1 name 0 name → IsFileFault files name r
  too_long : (text : List ℕ) → file_named name files ≡ Some text → LONGEST_FILE < length text → r ≡ refusal F2 name 0 name → IsFileFault files name r

-- the file is there and not too long, and this is its text
pub record IsHeld (files : Files) (name text : List ℕ) : Type 0 where
  pub there : file_named name files ≡ Some text
  pub short : length text ≤ LONGEST_FILE

-- fetching a file
abbrev pub fetched : Files → List ℕ → Step (List ℕ) Refusal
fetched files name = record { gives = IsHeld files name; faults = IsFileFault files name }

-- the text of a file that is there
abbrev pub text_of : Files → List ℕ → List ℕ
text_of files name = unwrap_or (file_named name files) []

abbrev pub library_refusal : List ℕ → LibFault → Option Refusal
library_refusal file (LibrarySyntax at) = Some (refusal_at L1 file at)
library_refusal file (CellTwice at) = Some (refusal_at L2 file at)
library_refusal file (PinRole at) = Some (refusal_at L3 file at)
library_refusal file LibraryMemory = None

abbrev pub netlist_refusal : List ℕ → NetFault → Option Refusal
netlist_refusal file (NetlistSyntax at) = Some (refusal_at N1 file at)
netlist_refusal file (Inout at) = Some (refusal_at N2 file at)
netlist_refusal file (LeftOut at) = Some (refusal_at N3 file at)
netlist_refusal file (NameTwice at) = Some (refusal_at N4 file at)
netlist_refusal file NetlistMemory = None

-- a file of modules, and the modules read from it
pub record ReadNetlist : Type 0 where
  pub file : List ℕ
  pub modules : List Module

-- all modules, in order of the files
abbrev pub modules_of : List ReadNetlist → List Module
modules_of netlists = flat_map (λ n. n.modules) netlists

-- the file of each module
abbrev pub module_files : List ReadNetlist → List (List ℕ)
module_files netlists = flat_map (λ n. map (λ _. n.file) n.modules) netlists

-- The file at which a fault of a design stands: that of its module, and at line 0 the first one.
abbrev pub design_file : List ReadNetlist → AtModule → List ℕ
design_file netlists at = by_line at.line
  where
    by_line : ℕ → List ℕ
    by_line zero = unwrap_or (slice_get (map (λ n. n.file) netlists) 0) []
    by_line (suc line) = unwrap_or (slice_get (module_files netlists) at.module) []

abbrev pub design_refusal : Code → List ReadNetlist → AtModule → Option Refusal
design_refusal code netlists at = Some (refusal code (design_file netlists at) at.line at.name)

abbrev pub refusal_of_design : List ReadNetlist → DesignFault → Option Refusal
refusal_of_design netlists (NoType at) = design_refusal N5 netlists at
refusal_of_design netlists (NoPort at) = design_refusal N6 netlists at
refusal_of_design netlists (Widths at) = design_refusal N7 netlists at
refusal_of_design netlists (FedTwice at) = design_refusal N8 netlists at
refusal_of_design netlists (Recursion at) = design_refusal N9 netlists at
refusal_of_design netlists (Ring at) = design_refusal N10 netlists at
refusal_of_design netlists (ModuleTwice at) = design_refusal N11 netlists at
refusal_of_design netlists (PathTwice at) = design_refusal N12 netlists at
refusal_of_design netlists (OtherPorts at) = design_refusal M5 netlists at
refusal_of_design netlists (TooLarge at) = design_refusal X1 netlists at
refusal_of_design netlists DesignMemory = None
