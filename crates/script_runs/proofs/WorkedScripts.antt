-- What is asked of the steps is met by the lines of the chip's script and of its macro's, which it loads, and so the script
-- runs to its world.
use Rattle.std.proofs.Common.{◌≡◌, ℕ, true, false, List, [], ◌∷◌, ◌++◌, map, Option, Some, None, refl, lit≤}
use Rattle.std.specs.Prelude.{codes, take, drop}
use Rattle.std.specs.List.{zip}
use Rattle.pw_defs.specs.declared.design.Design.{Design}
use Rattle.pw_defs.specs.declared.faults.Code.{Code}
use Rattle.pw_defs.specs.declared.faults.Refusal.{Refusal}
use Rattle.pw_defs.specs.declared.faults.TclFault.TheVariants.{T2}
use Rattle.pw_defs.specs.declared.script.Line.{Line}
use Rattle.pw_outer.specs.Fetches.{Files}
use Rattle.tcl_words.proofs.WorkedScripts.{chip_script_read, macro_script_read, text_behind_a_word}
use Rattle.worked_jobs.specs.Designs.{chip}
use Rattle.worked_jobs.specs.Lines.{chip_lines, macro_lines}
use Rattle.worked_jobs.specs.Texts.{chip_script, macro_script}
use Rattle.script_defs.specs.Statements.{Statement}
use Rattle.script_defs.specs.World.{Frame, World}
use Rattle.script_defs.specs.Blocks.{Block}
use Rattle.script_defs.specs.LineFaults.{early_faults, line_faults}
use Rattle.script_defs.specs.Refused.{body_faults}
use Rattle.script_defs.specs.ReadStatements.{IsStatement, readers}
use Rattle.script_defs.specs.Steps.{world_after}
use Rattle.script_defs.specs.UnitSteps.{frame_after, openings_of}
use Rattle.script_defs.specs.Runs.{Task, End, Ends, IsFileRefused, Opens, fresh, most_lines}
use Rattle.script_defs.specs.Loads.{LastWorld}
use Rattle.script_defs.specs.Worked.{chip_statements, chip_connections, macro_statements}
use Rattle.script_defs.proofs.Behind.{world_behind, chip_frame, macro_frame, before_macro, behind_macro, chip_world}
use Rattle.script_defs.proofs.WorkedRuns.{Pairs, plain}
use Rattle.script_runs.specs.declared.frames.Openings.{Openings}
use Rattle.script_runs.specs.declared.frames.Source.TheVariants.{File}
use Rattle.script_runs.specs.Leading.{GoesOn, LinesRun}
use Rattle.script_runs.specs.Outcomes.{held_by}
use Rattle.script_runs.specs.Scripts.{HasStop}
use Rattle.script_runs.specs.Steps.{IsRun, IsMapped}
use Rattle.script_runs.specs.Views.{opened, opening_at}
use Rattle.script_runs.proofs.LeadingLemmas.{inside_goes_on, line_goes_on, unopened_stops}
use Rattle.script_runs.proofs.WorkedStatements.{chip_lines_are_statements, macro_lines_are_statements}

-- a line without a body
abbrev block_of : Line → Block
block_of line = record { head = line; body = []; ended = true }

-- each of the lines is run, one behind the other, and opens no frame
abbrev AreRun : Design → Frame → World → Pairs → Type 0
AreRun d f w [] = Unit {0}
AreRun d f w (p ∷ ps) =
    IsRun readers d f w (block_of p.0) (frame_after f p.1) (world_after d w f p.1 []) (opened None) × AreRun d (frame_after f p.1) (world_after d w f p.1 []) ps

-- what makes a line one that is run and opens nothing
plain_is_run : (d : Design) (f : Frame) (w : World) (line : Line) (s : Statement) → IsStatement line s → early_faults most_lines f w line ≡ []
    → body_faults (block_of line) ≡ [] → line_faults d f w s ≡ [] → [] ≡ openings_of w f s
    → IsRun readers d f w (block_of line) (frame_after f s) (world_after d w f s []) (opened None)
plain_is_run d f w line s read early body fine none =
    record { statement = s; fine = record { early = early; read = read; body = body; fine = fine }; frame_is = refl; world_is = refl; openings_are = none }

abbrev frame_behind : Frame → List Statement → Frame
frame_behind f [] = f
frame_behind f (s ∷ ss) = frame_behind (frame_after f s) ss

abbrev seconds : Pairs → List Statement
seconds ps = map (λ (p : Line × Statement). p.1) ps

-- lines that are run lead to what is behind them
lines_lead : (held : List ℕ → Option (List ℕ)) (d : Design) (f : Frame) (w : World) (ps : Pairs) (tasks : List Task) (e : End) → AreRun d f w ps
    → Ends readers held most_lines d (frame_behind f (seconds ps)) (world_behind d f w (seconds ps)) tasks e
    → Ends readers held most_lines d f w (map (λ (p : Line × Statement). plain p.0) ps ++ tasks) e
lines_lead held d f w [] tasks e run rest = rest
lines_lead held d f w (p ∷ ps) tasks e run rest =
    ((line_goes_on readers held d f w (block_of p.0) (frame_after f p.1) (world_after d w f p.1 []) [] run.0).leads (map (λ (q : Line × Statement). plain q.0) ps ++ tasks)).ends
    e (lines_lead held d (frame_after f p.1) (world_after d w f p.1 []) ps tasks e run.1 rest)

-- THE MACRO'S SCRIPT, IN THE FRAME THAT THE CHIP'S OPENS
abbrev macro_pairs : Pairs
macro_pairs = zip macro_lines macro_statements

-- the worlds behind four and behind eight of its lines
abbrev macro_four : World
macro_four = world_behind chip macro_frame before_macro (take 4 macro_statements)

abbrev macro_eight : World
macro_eight = world_behind chip macro_frame before_macro (take 8 macro_statements)

last_macro_run : AreRun chip macro_frame macro_eight (drop 8 macro_pairs)
last_macro_run =
    let is = macro_lines_are_statements in (
      plain_is_run chip macro_frame macro_eight _ _ is.1.1.1.1.1.1.1.1.0 refl refl refl refl,
      (plain_is_run chip macro_frame _ _ _ is.1.1.1.1.1.1.1.1.1.0 refl refl refl refl, tt),
    )

next_macro_run : AreRun chip macro_frame macro_four (drop 4 macro_pairs)
next_macro_run =
    let is = macro_lines_are_statements in (
      plain_is_run chip macro_frame macro_four _ _ is.1.1.1.1.0 refl refl refl refl,
      (
        plain_is_run chip macro_frame _ _ _ is.1.1.1.1.1.0 refl refl refl refl,
        (
          plain_is_run chip macro_frame _ _ _ is.1.1.1.1.1.1.0 refl refl refl refl,
          (plain_is_run chip macro_frame _ _ _ is.1.1.1.1.1.1.1.0 refl refl refl refl, last_macro_run),
        ),
      ),
    )

macro_run : AreRun chip macro_frame before_macro macro_pairs
macro_run =
    let is = macro_lines_are_statements in (
      plain_is_run chip macro_frame before_macro _ _ is.0 refl refl refl refl,
      (
        plain_is_run chip macro_frame _ _ _ is.1.0 refl refl refl refl,
        (
          plain_is_run chip macro_frame _ _ _ is.1.1.0 refl refl refl refl,
          (plain_is_run chip macro_frame _ _ _ is.1.1.1.0 refl refl refl refl, next_macro_run),
        ),
      ),
    )

macro_runs : (held : List ℕ → Option (List ℕ)) → LinesRun readers held chip macro_frame before_macro macro_lines behind_macro
macro_runs held = lines_lead held chip macro_frame before_macro macro_pairs [] (End.ran behind_macro) macro_run (Ends.done macro_frame behind_macro)

-- THE CHIP'S SCRIPT UP TO THE LINE THAT LOADS THE MACRO'S
abbrev chip_pairs : Pairs
chip_pairs = zip chip_lines (chip_statements ++ chip_connections)

abbrev chip_four : World
chip_four = world_behind chip chip_frame (fresh chip) (take 4 chip_statements)

abbrev chip_six : World
chip_six = world_behind chip chip_frame (fresh chip) (take 6 chip_statements)

next_chip_run : AreRun chip chip_frame chip_four (take 2 (drop 4 chip_pairs))
next_chip_run =
    let is = chip_lines_are_statements in (
      plain_is_run chip chip_frame chip_four _ _ is.1.1.1.1.0 refl refl refl refl,
      (plain_is_run chip chip_frame _ _ _ is.1.1.1.1.1.0 refl refl refl refl, tt),
    )

chip_run : AreRun chip chip_frame (fresh chip) (take 6 chip_pairs)
chip_run =
    let is = chip_lines_are_statements in (
      plain_is_run chip chip_frame (fresh chip) _ _ is.0 refl refl refl refl,
      (
        plain_is_run chip chip_frame _ _ _ is.1.0 refl refl refl refl,
        (
          plain_is_run chip chip_frame _ _ _ is.1.1.0 refl refl refl refl,
          (plain_is_run chip chip_frame _ _ _ is.1.1.1.0 refl refl refl refl, next_chip_run),
        ),
      ),
    )

-- and those behind it
last_chip_run : AreRun chip chip_frame behind_macro (drop 7 chip_pairs)
last_chip_run =
    let is = chip_lines_are_statements in (
      plain_is_run chip chip_frame behind_macro _ _ is.1.1.1.1.1.1.1.0 refl refl refl refl,
      (plain_is_run chip chip_frame _ _ _ is.1.1.1.1.1.1.1.1.0 refl refl refl refl, tt),
    )

-- THE LINE THAT LOADS
abbrev load_block : Block
load_block = block_of (record { number = 7; words = codes "load_upf" ∷ codes "mac.upf" ∷ codes "-scope" ∷ codes "m" ∷ [] })

-- what it opens
abbrev load_openings : Openings
load_openings = record { source = File (codes "mac.upf"); homes = codes "m" ∷ []; pairs = []; line = 7 }

pub load_is_run : IsRun readers chip chip_frame chip_six load_block chip_frame before_macro (opened (Some load_openings))
load_is_run = record {
  statement = record { name = codes "load_upf"; args = codes "mac.upf" ∷ []; clauses = _; line = 7; passed = _ };
  fine = record { early = refl; read = chip_lines_are_statements.1.1.1.1.1.1.0; body = refl; fine = refl };
  frame_is = refl;
  world_is = refl;
  openings_are = refl;
}

-- the map behind it has no pairs
pub load_is_mapped : IsMapped chip chip_frame behind_macro (opening_at load_openings (codes "m")) behind_macro
load_is_mapped = record { fine = refl; world_is = refl }

-- THE SCRIPT
abbrev chip_files : Files
chip_files = (codes "mac.upf", macro_script) ∷ []

macro_opens : Opens readers (held_by chip_files) chip (opening_at load_openings (codes "m")) macro_lines
macro_opens = (macro_script, refl, lit≤ tt, macro_script_read)

load_leads : GoesOn readers (held_by chip_files) chip chip_frame before_macro (Task.opening (opening_at load_openings (codes "m")) ∷ []) chip_frame behind_macro []
load_leads =
    inside_goes_on readers (held_by chip_files) chip chip_frame before_macro (opening_at load_openings (codes "m")) macro_lines 30 refl macro_opens macro_frame refl
    behind_macro behind_macro (macro_runs (held_by chip_files)) load_is_mapped

-- The script runs to its world over a shelf with the macro's file.
pub chip_script_runs : LastWorld readers (held_by chip_files) chip (codes "chip.upf") chip_script chip_world
chip_script_runs = record {
  lines = chip_lines;
  read = chip_script_read;
  ran =
      let held = held_by chip_files in
      let behind = lines_lead held chip chip_frame behind_macro (drop 7 chip_pairs) [] (End.ran chip_world) last_chip_run (Ends.done chip_frame chip_world) in
      let tasks : List Task = map (λ (p : Line × Statement). plain p.0) (drop 7 chip_pairs) in
      let inside = (load_leads.leads tasks).ends (End.ran chip_world) behind in
      let loaded = ((line_goes_on readers held chip chip_frame chip_six load_block chip_frame before_macro (opened (Some load_openings)) load_is_run).leads tasks).ends
      (End.ran chip_world) inside in
      lines_lead held chip chip_frame (fresh chip) (take 6 chip_pairs) (Task.command load_block ∷ tasks) (End.ran chip_world) chip_run loaded;
}

-- WHERE IT STOPS
-- the lines before the frame lead to a stop in it
stops_there : (held : List ℕ → Option (List ℕ)) (r : Refusal) → IsFileRefused readers held (codes "mac.upf") r
    → HasStop readers held chip (codes "chip.upf") chip_script r
stops_there held r refused =
    let tasks : List Task = map (λ (p : Line × Statement). plain p.0) (drop 7 chip_pairs) in
    let stop = (unopened_stops readers held chip chip_frame before_macro (opening_at load_openings (codes "m")) false r refl refused).stops tasks in
    let loaded = ((line_goes_on readers held chip chip_frame chip_six load_block chip_frame before_macro (opened (Some load_openings)) load_is_run).leads tasks).ends
    (End.stopped r) stop in
    HasStop.stops chip_lines chip_script_read (lines_lead held chip chip_frame (fresh chip) (take 6 chip_pairs) (Task.command load_block ∷ tasks) (End.stopped r)
    chip_run loaded)

-- Over an empty shelf it stops at the macro's file, and not at the line that names it.
pub absent_macro : HasStop readers (held_by []) chip (codes "chip.upf") chip_script (record
    { code = Code.F1; file = codes "mac.upf"; line = 0; name = codes "mac.upf" })
absent_macro = stops_there (held_by []) _ (IsFileRefused.absent refl refl)

-- A fault in the words of the macro's file stops it before a line of that file is run.
abbrev faulty_files : Files
faulty_files = (codes "mac.upf", codes "a {b}c") ∷ []

pub unreadable_macro : HasStop readers (held_by faulty_files) chip (codes "chip.upf") chip_script (record
    { code = Code.T2; file = codes "mac.upf"; line = 1; name = codes "-" })
unreadable_macro = stops_there (held_by faulty_files) _ (IsFileRefused.unreadable (codes "a {b}c") (T2 (record
    { line = 1; name = codes "-" })) refl (lit≤ tt) text_behind_a_word refl)
