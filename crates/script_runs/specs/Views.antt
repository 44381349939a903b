-- The frames that a line opens, in code, as the definitions see them.
use Rattle.std.specs.Prelude.{◌≢◌, ◌<◌, ℕ, List, [], Option, None, Some, IsUtf8, map}
use Rattle.script_defs.specs.UnitSteps.{Opening, Source as PlainSource}
use Rattle.script_defs.specs.World.{Frame}
use Rattle.script_defs.specs.Runs.{Task}
use Rattle.script_runs.specs.declared.frames.Openings.{Openings}
use Rattle.script_runs.specs.declared.frames.Source.{Source}
use Rattle.script_runs.specs.declared.frames.Source.TheVariants.{File, Body}

abbrev pub source_view : Source → PlainSource
source_view (File name) = PlainSource.file name
source_view (Body file lines) = PlainSource.body file lines

-- the frame that is opened at one of the instances
abbrev pub opening_at : Openings → List ℕ → Opening
opening_at os home = record { source = source_view os.source; home = home; pairs = os.pairs; line = os.line }

-- the frames, in the order of the instances
abbrev pub openings_in : Openings → List Opening
openings_in os = map (opening_at os) os.homes

-- what a line opens: nothing, or frames
abbrev pub opened : Option Openings → List Opening
opened None = []
opened (Some os) = openings_in os

-- a file's name is in UTF-8
abbrev pub HasText : PlainSource → Type 0
HasText (PlainSource.file name) = IsUtf8 name
HasText (PlainSource.body file lines) = Unit {0}

-- a frame has room for those that a line of it opens, and their lines can be fetched
abbrev pub CanOpen : Frame → Openings → Type 0
CanOpen f os = os.homes ≢ [] → (0 < f.left) × HasText (source_view os.source)

-- the frames that are opened at some of the instances, as tasks
abbrev pub tasks_at : Openings → List (List ℕ) → List Task
tasks_at os homes = map Task.opening (map (opening_at os) homes)

-- what a line opens, as tasks
abbrev pub tasks_in : Option Openings → List Task
tasks_in os = map Task.opening (opened os)
