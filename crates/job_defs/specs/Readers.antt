-- What the readers of files give, and which faults they find.
use Rattle.std.specs.Prelude.{ℕ, List}
use Rattle.pw_defs.specs.declared.cells.Cells.{Cells}
use Rattle.pw_defs.specs.declared.design.Design.{Design}
use Rattle.pw_defs.specs.declared.faults.DesignFault.{DesignFault}
use Rattle.pw_defs.specs.declared.faults.LibFault.{LibFault}
use Rattle.pw_defs.specs.declared.faults.NetFault.{NetFault}
use Rattle.pw_defs.specs.declared.faults.Refusal.{Refusal}
use Rattle.pw_defs.specs.declared.intent.Intent.{Intent}
use Rattle.pw_defs.specs.declared.intent.Want.{Want}
use Rattle.pw_defs.specs.declared.model.Model.{Model}
use Rattle.pw_defs.specs.declared.netlist.Module.{Module}
use Rattle.pw_outer.specs.Fetches.{Files}
use Rattle.step_defs.specs.Steps.{Step}
use Rattle.step_defs.specs.Exact.{IsExact}

-- The steps from texts to a design with its intent: the cells of a library; the cells of libraries with those of one
-- more; the modules of a netlist; the design of modules, cells and models under a top; and the intent of a script, which
-- may load further files.
pub record Readers : Type 1 where
  pub cells : List ℕ → Step Cells LibFault
  pub joined : Cells → Cells → Step Cells LibFault
  pub modules : List ℕ → Step (List Module) NetFault
  pub design : List Module → Cells → List Model → List ℕ → Step Design DesignFault
  pub intent : Files → Design → List ℕ → Want → Step Intent Refusal

-- each reader has one answer
pub record AreExact (readers : Readers) : Type 0 where
  pub cells : (text : List ℕ) → IsExact (readers.cells text)
  pub joined : (all more : Cells) → IsExact (readers.joined all more)
  pub modules : (text : List ℕ) → IsExact (readers.modules text)
  pub design : (modules : List Module) (cells : Cells) (models : List Model) (top : List ℕ) → IsExact (readers.design modules cells models top)
  pub intent : (files : Files) (design : Design) (script : List ℕ) (want : Want) → IsExact (readers.intent files design script want)
