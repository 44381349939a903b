-- What loading a script gives: an intent, or a refusal.
use Rattle.std.specs.Prelude.{◌≡◌, ℕ, List, Option, None, Some, codes}
use Rattle.std.specs.List.{AllZip}
use Rattle.pw_defs.specs.declared.design.Design.{Design}
use Rattle.pw_defs.specs.declared.faults.Refusal.{Refusal}
use Rattle.pw_defs.specs.declared.faults.TclFault.{TclFault}
use Rattle.pw_defs.specs.declared.intent.Domain.{Domain}
use Rattle.pw_defs.specs.declared.intent.Intent.{Intent}
use Rattle.pw_defs.specs.declared.intent.Want.{Want}
use Rattle.pw_defs.specs.declared.script.Line.{Line}
use Rattle.supply_defs.specs.UnitLists.{AreUnitLists}
use Rattle.script_defs.specs.World.{Object, World}
use Rattle.script_defs.specs.Refused.{Readers, text_refusal}
use Rattle.script_defs.specs.Runs.{RunsTo, StopsWith}
use Rattle.script_defs.specs.Numbers.{unit_paths, unit_number, supplies_of, domain_objects}
use Rattle.script_defs.specs.IntentOf.{IsUnitOf, insts_given}
use Rattle.script_defs.specs.StrategiesOf.{IsIntentOf}
use Rattle.script_defs.specs.Supplies.{given_to}
use Rattle.script_defs.specs.LookUps.{whole_name}
use Rattle.script_defs.specs.ReadStatements.{readers}
use Rattle.script_defs.specs.Closing.{Closed, HasClosingFault, HasNoClosingFault}

-- a domain by its elements alone; its sets stand for nothing
pub record IsDomainByElements (d : Design) (w : World) (o : Object) (x : Domain) : Type 0 where
  pub name_is : x.name ≡ whole_name o
  pub unit_is : x.unit ≡ unit_number d w o.origin.home
  pub line_is : x.line ≡ o.origin.line
  pub elements_are : x.elements ≡ insts_given d (codes "-elements") (given_to (Some o.body))
  pub excluded_are : x.excluded ≡ insts_given d (codes "-exclude_elements") (given_to (Some o.body))
  pub power_is : x.primary.power ≡ 0
  pub no_ground : x.primary.ground ≡ None
  pub no_default : x.default_iso ≡ None

-- what the closing checks look at, beside the final world
pub record IsClosedOf (d : Design) (w : World) (name : List ℕ) (want : Want) (c : Closed) : Type 0 where
  pub script_is : c.script ≡ name
  pub want_is : c.want ≡ want
  pub units_are : AllZip (IsUnitOf d w) (unit_paths d w) c.units
  pub supplies_are : c.supplies ≡ supplies_of d w
  pub domains_are : AllZip (IsDomainByElements d w) (domain_objects w) c.domains
  pub lists_are : AreUnitLists c.supplies c.units c.lists

-- the world in which all lines have run
pub record LastWorld (readers : Readers) (held : List ℕ → Option (List ℕ)) (d : Design) (name text : List ℕ) (w : World) : Type 0 where
  pub lines : List Line
  pub read : readers.IsScript text lines
  pub ran : RunsTo readers held d name lines w

-- By these readers the script loads to this intent: all of its lines run, nothing is found at the end, and the intent is that of the world.
pub record LoadsBy (readers : Readers) (held : List ℕ → Option (List ℕ)) (d : Design) (name text : List ℕ) (want : Want) (i : Intent) : Type 0 where
  pub world : World
  pub last : LastWorld readers held d name text world
  pub ends : Closed
  pub ends_are : IsClosedOf d world name want ends
  pub none : HasNoClosingFault d world ends
  pub intent : IsIntentOf d world want i

-- By these readers the script is refused: in its own words, at a line or a file that it opens, or when all lines have run.
pub data HasFaultBy (readers : Readers) (held : List ℕ → Option (List ℕ)) (d : Design) (name text : List ℕ) (want : Want) (r : Refusal) : Type 0 where
  unreadable : (fault : TclFault) → readers.HasScriptFault text fault → text_refusal name fault ≡ Some r → HasFaultBy readers held d name text want r
  stops : (lines : List Line) → readers.IsScript text lines → StopsWith readers held d name lines r → HasFaultBy readers held d name text want r
  at_end : (w : World) (c : Closed) → LastWorld readers held d name text w → IsClosedOf d w name want c → HasClosingFault d w c r
      → HasFaultBy readers held d name text want r

-- The script loads to this intent.
abbrev pub LoadsTo : Design → (List ℕ → Option (List ℕ)) → List ℕ → List ℕ → Want → Intent → Type 0
LoadsTo d held name text want i = LoadsBy readers held d name text want i

-- The script isn't loaded, and this is its first fault.
abbrev pub HasLoadFault : Design → (List ℕ → Option (List ℕ)) → List ℕ → List ℕ → Want → Refusal → Type 0
HasLoadFault d held name text want r = HasFaultBy readers held d name text want r
