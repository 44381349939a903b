-- What is asked of a call that runs a line, and of one that carries out the map of supplies behind a frame.
use Rattle.std.specs.Prelude.{◌≡◌, List, [], Some, slice_get}
use Rattle.pw_defs.specs.declared.design.Design.{Design}
use Rattle.pw_defs.specs.declared.faults.LoadFault.{LoadFault}
use Rattle.pw_defs.specs.declared.faults.LoadFault.TheVariants.{Refused as RefusedLoad, Memory as NoMemory}
use Rattle.pw_defs.specs.declared.faults.Refusal.{Refusal}
use Rattle.script_defs.specs.Statements.{Statement}
use Rattle.script_defs.specs.World.{Frame, World}
use Rattle.script_defs.specs.Blocks.{Block}
use Rattle.script_defs.specs.LineFaults.{LineFault, map_faults}
use Rattle.script_defs.specs.Refused.{Readers, IsFine, IsRefused, line_refusal}
use Rattle.script_defs.specs.Steps.{world_after}
use Rattle.script_defs.specs.UnitSteps.{Opening, frame_after, openings_of, after_map}
use Rattle.script_defs.specs.Runs.{most_lines}
use Rattle.script_runs.specs.declared.steps.StepFault.{StepFault}
use Rattle.script_runs.specs.declared.steps.StepFault.TheVariants.{Refused, Memory}

-- The line is run: it is a command without faults, and the command makes this world, leaves this frame and opens these frames.
pub record IsRun (readers : Readers) (d : Design) (f : Frame) (w : World) (b : Block) (g : Frame) (v : World) (os : List Opening) : Type 0 where
  pub statement : Statement
  pub fine : IsFine readers most_lines d f w b statement
  pub frame_is : g ≡ frame_after f statement
  pub world_is : v ≡ world_after d w f statement b.body
  pub openings_are : os ≡ openings_of w f statement

-- why a line isn't run
abbrev pub StopsLine : Readers → Design → Frame → World → Block → StepFault → Type 0
StopsLine readers d f w b (Refused r) = IsRefused readers most_lines d f w b r
StopsLine readers d f w b Memory = Unit {0}

-- the map behind a frame is carried out, which makes this world
pub record IsMapped (d : Design) (f : Frame) (w : World) (o : Opening) (v : World) : Type 0 where
  pub fine : map_faults d w f o ≡ []
  pub world_is : v ≡ after_map d w f o

-- the map behind a frame can't be carried out
pub record IsMapRefused (d : Design) (f : Frame) (w : World) (o : Opening) (r : Refusal) : Type 0 where
  pub fault : LineFault
  pub first : slice_get (map_faults d w f o) 0 ≡ Some fault
  pub refusal_is : r ≡ line_refusal f o.line fault

-- why it isn't
abbrev pub StopsMap : Design → Frame → World → Opening → StepFault → Type 0
StopsMap d f w o (Refused r) = IsMapRefused d f w o r
StopsMap d f w o Memory = Unit {0}

-- why a script isn't loaded, where it is for a line
abbrev pub load_fault : StepFault → LoadFault
load_fault (Refused r) = RefusedLoad r
load_fault Memory = NoMemory
