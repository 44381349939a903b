-- The world behind lines that open no frames, and the faults on the way there.
use Rattle.std.proofs.Common.{List, [], ◌∷◌, ◌++◌}
use Rattle.std.specs.Prelude.{codes}
use Rattle.pw_defs.specs.declared.design.Design.{Design}
use Rattle.worked_jobs.specs.Designs.{pair, chip}
use Rattle.script_defs.specs.Statements.{Statement}
use Rattle.script_defs.specs.World.{Frame, World}
use Rattle.script_defs.specs.LineFaults.{LineFault, line_faults}
use Rattle.script_defs.specs.Steps.{world_after}
use Rattle.script_defs.specs.UnitSteps.{frame_after}
use Rattle.script_defs.specs.Runs.{first_frame, fresh}
use Rattle.script_defs.specs.Worked.{pair_statements, chip_statements, macro_statements, chip_connections}

-- the world behind lines
abbrev pub world_behind : Design → Frame → World → List Statement → World
world_behind d f w [] = w
world_behind d f w (s ∷ ss) = world_behind d (frame_after f s) (world_after d w f s []) ss

-- the faults of lines, each in the world before it
abbrev pub faults_on_the_way : Design → Frame → World → List Statement → List LineFault
faults_on_the_way d f w [] = []
faults_on_the_way d f w (s ∷ ss) = line_faults d f w s ++ faults_on_the_way d (frame_after f s) (world_after d w f s []) ss

-- the frame and the world of the two blocks
abbrev pub base : Frame
base = first_frame (codes "base.upf")

abbrev pub pair_world : World
pair_world = world_behind pair base (fresh pair) pair_statements

-- the frames of the chip's script, and of the macro's inside it
abbrev pub chip_frame : Frame
chip_frame = first_frame (codes "chip.upf")

abbrev pub macro_frame : Frame
macro_frame = record { file = codes "mac.upf"; home = codes "m"; scope = codes "m"; left = 30 }

abbrev pub before_macro : World
before_macro = world_behind chip chip_frame (fresh chip) chip_statements

abbrev pub behind_macro : World
behind_macro = world_behind chip macro_frame before_macro macro_statements

abbrev pub chip_world : World
chip_world = world_behind chip chip_frame behind_macro chip_connections
