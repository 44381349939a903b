-- Running a script: its lines in order, with the files and power models that they open, to a last world or to the first
-- refusal.
use Rattle.std.specs.Prelude.{◌≡◌, ℕ, ◌+◌, ◌<◌, ◌≤◌, Bool, true, false, List, [], ◌∷◌, ◌++◌, Option, None, Some, map, length, slice_get}
use Rattle.std.specs.List.{flat_map, enumerate_from}
use Rattle.pw_defs.specs.declared.design.Design.{Design}
use Rattle.pw_defs.specs.declared.faults.Code.{Code}
use Rattle.pw_defs.specs.declared.faults.Refusal.{Refusal}
use Rattle.pw_defs.specs.declared.faults.TclFault.{TclFault}
use Rattle.pw_defs.specs.declared.model.Model.{Model as ModelText}
use Rattle.pw_defs.specs.declared.model.OutPort.{OutPort as ModelOut}
use Rattle.pw_defs.specs.declared.script.Line.{Line}
use Rattle.script_defs.specs.Statements.{Statement}
use Rattle.script_defs.specs.World.{SupplyKey, Link, Frame, World}
use Rattle.script_defs.specs.Scopes.{is_modelled}
use Rattle.script_defs.specs.Supplies.{modelled}
use Rattle.script_defs.specs.Blocks.{Block, blocks_of}
use Rattle.script_defs.specs.Joinings.{link}
use Rattle.script_defs.specs.UnitSteps.{Source, Opening, frame_after, openings_of, frame_inside, after_map}
use Rattle.script_defs.specs.Steps.{world_after}
use Rattle.script_defs.specs.LineFaults.{LineFault, map_faults}
use Rattle.script_defs.specs.Refused.{Readers, IsFine, IsRefused, text_refusal, line_refusal}

-- no file is longer than this
abbrev pub longest_file : ℕ
longest_file = 67108864

-- no more lines are run than this
abbrev pub most_lines : ℕ
most_lines = 1000000

-- what is to be done in a frame: a command line, or a frame that a line opened
pub data Task : Type 0 where
  command : Block → Task
  opening : Opening → Task

-- how lines end: in a world, or at a refusal
pub data End : Type 0 where
  ran : World → End
  stopped : Refusal → End

abbrev pub tasks_of : List Line → List Task
tasks_of lines = map Task.command (blocks_of lines)

-- the file in which the lines of a frame stand
abbrev pub source_file : Source → List ℕ
source_file (Source.file name) = name
source_file (Source.body name lines) = name

-- the lines of a source: what the text of a file reads as, or the lines of a body
abbrev pub AreSourceLines : Readers → (List ℕ → Option (List ℕ)) → Source → List Line → Type 0
AreSourceLines readers held (Source.file name) lines = (text : List ℕ) × (held name ≡ Some text) × (length text ≤ longest_file) × readers.IsScript text lines
AreSourceLines readers held (Source.body name body) lines = lines ≡ body

abbrev pub OpensLines : Readers → (List ℕ → Option (List ℕ)) → Source → Bool → List Line → Type 0
OpensLines readers held source true lines = lines ≡ []
OpensLines readers held source false lines = AreSourceLines readers held source lines

-- These are the lines of an opened frame. At an instance that a model stands for none is fetched or run.
abbrev pub Opens : Readers → (List ℕ → Option (List ℕ)) → Design → Opening → List Line → Type 0
Opens readers held d o lines = OpensLines readers held o.source (is_modelled d o.home) lines

-- A fetched file is refused where it isn't there, where it is too long, and where its text has a fault in its words.
pub data IsFileRefused (readers : Readers) (held : List ℕ → Option (List ℕ)) (name : List ℕ) (r : Refusal) : Type 0 where
  absent : held name ≡ None → r ≡ record { code = Code.F1; file = name; line = 0; name = name } → IsFileRefused readers held name r
  too_long : (text : List ℕ) → held name ≡ Some text → longest_file < length text → r ≡ record { code = Code.F2; file = name; line = 0; name = name }
      → IsFileRefused readers held name r
  unreadable : (text : List ℕ) (fault : TclFault) → held name ≡ Some text → length text ≤ longest_file → readers.HasScriptFault text fault
      → text_refusal name fault ≡ Some r → IsFileRefused readers held name r

abbrev pub IsSourceRefused : Readers → (List ℕ → Option (List ℕ)) → Source → Bool → Refusal → Type 0
IsSourceRefused readers held (Source.file name) false r = IsFileRefused readers held name r
IsSourceRefused readers held source modelled r = ⊥

-- the frame that a line opened can't be begun
abbrev pub IsUnopened : Readers → (List ℕ → Option (List ℕ)) → Design → Opening → Refusal → Type 0
IsUnopened readers held d o r = IsSourceRefused readers held o.source (is_modelled d o.home) r

-- what a line leaves to be done: the frames that it opens, before what stands behind it
abbrev pub tasks_behind : World → Frame → Statement → List Task → List Task
tasks_behind w f s tasks = map Task.opening (openings_of w f s) ++ tasks

-- The tasks of a frame end so, from a world on. A line that can't be run stops, and so does a frame that can't be begun,
-- that stops inside, or whose map can't be carried out.
pub data Ends (readers : Readers) (held : List ℕ → Option (List ℕ)) (limit : ℕ) (d : Design) : Frame → World → List Task → End → Type 0 where
  done : (f : Frame) (w : World) → Ends readers held limit d f w [] (End.ran w)
  refused : (f : Frame) (w : World) (b : Block) (tasks : List Task) (r : Refusal) → IsRefused readers limit d f w b r
      → Ends readers held limit d f w (Task.command b ∷ tasks) (End.stopped r)
  runs : (f : Frame) (w : World) (b : Block) (tasks : List Task) (e : End) (s : Statement) → IsFine readers limit d f w b s
      → Ends readers held limit d (frame_after f s) (world_after d w f s b.body) (tasks_behind w f s tasks) e
      → Ends readers held limit d f w (Task.command b ∷ tasks) e
  unopened : (f : Frame) (w : World) (o : Opening) (tasks : List Task) (r : Refusal) → IsUnopened readers held d o r
      → Ends readers held limit d f w (Task.opening o ∷ tasks) (End.stopped r)
  within : (f : Frame) (w : World) (o : Opening) (tasks : List Task) (r : Refusal) (lines : List Line) (left : ℕ) → f.left ≡ left + 1
      → Opens readers held d o lines
      → Ends readers held limit d (frame_inside f o (source_file o.source) left) w (tasks_of lines) (End.stopped r)
      → Ends readers held limit d f w (Task.opening o ∷ tasks) (End.stopped r)
  unmapped : (f : Frame) (w : World) (o : Opening) (tasks : List Task) (r : Refusal) (lines : List Line) (left : ℕ) (u : World) (x : LineFault)
      → f.left ≡ left + 1 → Opens readers held d o lines
      → Ends readers held limit d (frame_inside f o (source_file o.source) left) w (tasks_of lines) (End.ran u)
      → slice_get (map_faults d u f o) 0 ≡ Some x → r ≡ line_refusal f o.line x
      → Ends readers held limit d f w (Task.opening o ∷ tasks) (End.stopped r)
  mapped : (f : Frame) (w : World) (o : Opening) (tasks : List Task) (e : End) (lines : List Line) (left : ℕ) (u : World) → f.left ≡ left + 1
      → Opens readers held d o lines
      → Ends readers held limit d (frame_inside f o (source_file o.source) left) w (tasks_of lines) (End.ran u)
      → map_faults d u f o ≡ [] → Ends readers held limit d f (after_map d u f o) tasks e
      → Ends readers held limit d f w (Task.opening o ∷ tasks) e

-- The frame of the script itself: it begins at the top, and 31 frames may be opened inside it.
abbrev pub first_frame : List ℕ → Frame
first_frame name = record { file = name; home = []; scope = []; left = 31 }

-- each `out` port of a model is fed by the interface supply that it names
abbrev pub model_links : Design → List Link
model_links d =
    flat_map (λ (m : List ℕ × ModelText). map (λ (e : ℕ × ModelOut). link (SupplyKey.outer m.0 e.0) (SupplyKey.inner m.0 e.1.supply))
    (enumerate_from 0 m.1.outs)) (modelled d)

-- The world before the first line: nothing but the supplies of models.
abbrev pub fresh : Design → World
fresh d = record {
  objects = [];
  links = model_links d;
  stated = [];
  cell_sets = [];
  driver_sets = [];
  receiver_sets = [];
  ports = [];
  marks = [];
  passed = [];
  uses = [];
  lines = 0;
}

-- the lines of the script take the fresh world to this one
abbrev pub RunsTo : Readers → (List ℕ → Option (List ℕ)) → Design → List ℕ → List Line → World → Type 0
RunsTo readers held d name lines w = Ends readers held most_lines d (first_frame name) (fresh d) (tasks_of lines) (End.ran w)

-- the lines of the script stop with this refusal
abbrev pub StopsWith : Readers → (List ℕ → Option (List ℕ)) → Design → List ℕ → List Line → Refusal → Type 0
StopsWith readers held d name lines r = Ends readers held most_lines d (first_frame name) (fresh d) (tasks_of lines) (End.stopped r)
