-- What the texts of a library, a netlist and a script mean.
use Rattle.std.specs.Prelude.{◌≡◌, ℕ, true, List, Option, Some, IfSome, map}
use Rattle.pw_defs.specs.declared.design.Design.{Design}
use Rattle.pw_defs.specs.declared.intent.Intent.{Intent}
use Rattle.line_forms.specs.declared.library_lines.Library.{Library}
use Rattle.line_forms.specs.declared.netlist_lines.ModuleLines.{ModuleLines}
use Rattle.line_forms.specs.declared.script_lines.CommandLine.{CommandLine}
use Rattle.line_forms.specs.LibraryForm.{IsLibrary, library_text}
use Rattle.line_forms.specs.NetlistForm.{AreModules, netlist_text}
use Rattle.line_forms.specs.ScriptForm.{AreCommands, script_text}
use Rattle.form_design.specs.declared.design.FormDesign.{FormDesign}
use Rattle.form_design.specs.Results.{IsDesignOf}
use Rattle.form_intent.specs.Fits.{script_fits}
use Rattle.form_intent.specs.Intent.{IsIntentOf}

-- what was read is spelled by the text, and all that is spelled by it was read
pub record IsRead {X : Type 0} (Is : X → Type 0) (spelled : X → List ℕ) (text : List ℕ) (read : Option X) : Type 0 where
  pub found : IfSome read (λ x. Is x × (text ≡ spelled x))
  pub only : (x : X) → Is x → text ≡ spelled x → read ≡ Some x

-- a library and a netlist mean a design with this top, which has these instances
pub record HasDesign (library netlist top : List ℕ) (d : Design) (instances : List (List ℕ)) : Type 0 where
  pub cells : Library
  pub is_library : IsLibrary cells
  pub library_is : library ≡ library_text cells
  pub modules : List ModuleLines
  pub are_modules : AreModules modules
  pub netlist_is : netlist ≡ netlist_text modules
  pub design : IsDesignOf cells.cells modules top d instances

-- a script means an intent on a design with these instances in the top
pub record HasIntent (script : List ℕ) (d : Design) (instances : List (List ℕ)) (i : Intent) : Type 0 where
  pub commands : List CommandLine
  pub are_commands : AreCommands commands
  pub script_is : script ≡ script_text commands
  pub fits : script_fits instances commands ≡ true
  pub intent : IsIntentOf commands instances (map (λ inst. inst.parent) d.insts) i

-- a library, a netlist and a script mean a design with its intent
pub record IsLoaded (library netlist script top : List ℕ) (d : Design) (i : Intent) : Type 0 where
  pub instances : List (List ℕ)
  pub design : HasDesign library netlist top d instances
  pub intent : HasIntent script d instances i

-- what was read is meant, and all that is meant was read
pub record IsDesignRead (library netlist top : List ℕ) (read : Option FormDesign) : Type 0 where
  pub found : IfSome read (λ x. HasDesign library netlist top x.design x.instances)
  pub only : (d : Design) (instances : List (List ℕ)) → HasDesign library netlist top d instances → read ≡ Some (record { design = d; instances = instances })
