-- A name that was met again, as an answer.
use Rattle.std.specs.Prelude.{◌≡◌, List, Some, slice_get}
use Rattle.pw_defs.specs.declared.design.Body.TheVariants.{Module as ModuleBody}
use Rattle.pw_defs.specs.declared.faults.AtModule.{AtModule}
use Rattle.net_instances.specs.declared.numbering.InstanceRow.{InstanceRow}
use Rattle.net_names.specs.declared.meeting.NameAt.{NameAt}

-- the module of the instance whose module has the line, the line, and the name
pub record IsAnswer (rows : List InstanceRow) (at : NameAt) (found : AtModule) : Type 0 where
  pub row : InstanceRow
  pub there : slice_get rows at.place.holder ≡ Some row
  pub body : row.body ≡ ModuleBody found.«module»
  pub line : found.line ≡ at.place.line
  pub name : found.name ≡ at.name
