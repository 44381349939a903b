-- Runs of worked scripts from their first line to their end.
use Rattle.std.proofs.Common.{◌≡◌, ℕ, zero, suc, ◌+◌, ◌≤◌, Bool, true, false, ◌&&◌, List, [], ◌∷◌, ◌++◌, map, length, Option, Some, refl, inl, inr, sym, subst, arith}
use Rattle.std.specs.Prelude.{codes, nat_le, take, drop}
use Rattle.std.specs.List.{zip}
use Rattle.std.proofs.lemmas.Bool.{lt-leb, ne_eqb}
use Rattle.pw_defs.specs.declared.design.Design.{Design}
use Rattle.pw_defs.specs.declared.faults.Code.{Code}
use Rattle.pw_defs.specs.declared.faults.Refusal.{Refusal}
use Rattle.pw_defs.specs.declared.script.Line.{Line}
use Rattle.worked_jobs.specs.Designs.{pair}
use Rattle.worked_jobs.specs.Lines.{pair_lines}
use Rattle.list_defs.specs.Members.{IsIn}
use Rattle.script_defs.specs.Statements.{Statement}
use Rattle.script_defs.specs.World.{Frame, World}
use Rattle.script_defs.specs.LineFaults.{early_faults, line_faults, no_name, shown_if, with_code}
use Rattle.script_defs.specs.Refused.{Readers, IsRefused, body_faults}
use Rattle.script_defs.specs.Steps.{world_after}
use Rattle.script_defs.specs.UnitSteps.{Opening, Source, frame_after, openings_of}
use Rattle.script_defs.specs.Runs.{Task, End, Ends, StopsWith, fresh, longest_file, most_lines, tasks_of}
use Rattle.script_defs.specs.Worked.{statement, reading, pair_statements}
use Rattle.script_defs.proofs.Behind.{base, world_behind}

-- a plain line as a task
abbrev pub plain : Line → Task
plain line = Task.command (record { head = line; body = []; ended = true })

-- lines with the statements that they are
abbrev pub Pairs : Type 0
Pairs = List (Line × Statement)

-- whether each of the lines is fine and opens no frame, in the world before it
abbrev pub AreFine : Design → Frame → World → Pairs → Type 0
AreFine d f w [] = Unit {0}
AreFine d f w (p ∷ ps) =
    (early_faults most_lines f w p.0 ≡ []) × (line_faults d f w p.1 ≡ []) × (openings_of w f p.1 ≡ []) × (body_faults (record
    { head = p.0; body = []; ended = true }) ≡ [])
    × AreFine d (frame_after f p.1) (world_after d w f p.1 []) ps

-- fine lines run to the world behind them
pub fine_lines_run : (readers : Readers) (held : List ℕ → Option (List ℕ)) (d : Design) (f : Frame) (w : World) (ps : Pairs) → ((p : Line × Statement)
    → IsIn p ps → readers.IsStatement p.0 p.1)
    → AreFine d f w ps → Ends readers held most_lines d f w (map (λ (p : Line × Statement). plain p.0) ps) (End.ran (world_behind d f w (map (λ (p : Line
    × Statement). p.1) ps)))
fine_lines_run readers held d f w [] read fine = Ends.done f w
fine_lines_run readers held d f w (p ∷ ps) read fine =
    let rest = fine_lines_run readers held d (frame_after f p.1) (world_after d w f p.1 []) ps (λ q i. read q (inr i)) fine.4 in
    let P : List Opening → Type 0 =
    λ os. Ends readers held most_lines d (frame_after f p.1) (world_after d w f p.1 []) (map Task.opening os ++ map (λ (q : Line
    × Statement). plain q.0) ps)
    (End.ran (world_behind d (frame_after f p.1) (world_after d w f p.1 []) (map (λ (q : Line × Statement). q.1) ps))) in
    Ends.runs f w (record { head = p.0; body = []; ended = true }) (map (λ (q : Line × Statement). plain q.0) ps) _ p.1
    (record { early = fine.0; read = read p (inl refl); body = fine.3; fine = fine.1 })
    (subst P (sym fine.2) rest)

-- the worlds behind four and behind eight lines of the script of the two blocks
abbrev after_four : World
after_four = world_behind pair base (fresh pair) (take 4 pair_statements)

abbrev after_eight : World
after_eight = world_behind pair base (fresh pair) (take 8 pair_statements)

last_are_fine : AreFine pair base after_eight (drop 8 (zip pair_lines pair_statements))
last_are_fine = (refl, refl, refl, refl, (refl, refl, refl, refl, (refl, refl, refl, refl, tt)))

next_are_fine : AreFine pair base after_four (drop 4 (zip pair_lines pair_statements))
next_are_fine = (refl, refl, refl, refl, (refl, refl, refl, refl, (refl, refl, refl, refl, (refl, refl, refl, refl, last_are_fine))))

-- each of its lines is fine and opens no frame
pub pair_is_fine : AreFine pair base (fresh pair) (zip pair_lines pair_statements)
pair_is_fine = (refl, refl, refl, refl, (refl, refl, refl, refl, (refl, refl, refl, refl, (refl, refl, refl, refl, next_are_fine))))

-- A FILE THAT LOADS ITSELF
abbrev self_text : List ℕ
self_text = codes "load_upf self.upf\n"

abbrev self_line : Line
self_line = record { number = 1; words = codes "load_upf" ∷ codes "self.upf" ∷ [] }

abbrev self_statement : Statement
self_statement = statement 1 (codes "load_upf") (codes "self.upf" ∷ []) []

abbrev self_readers : Readers
self_readers = reading ((self_text, self_line ∷ []) ∷ []) ((self_line, self_statement) ∷ [])

abbrev self_files : List ℕ → Option (List ℕ)
self_files name = Some self_text

abbrev self_frame : ℕ → Frame
self_frame left = record { file = codes "self.upf"; home = []; scope = []; left = left }

abbrev too_deep : Refusal
too_deep = record { code = Code.X4; file = codes "self.upf"; line = 1; name = codes "-" }

-- with so many frames left and few lines run it stops at its own line
self_stops : (left : ℕ) (w : World) → w.lines + left ≤ 31 → Ends self_readers self_files most_lines pair (self_frame left) w (tasks_of (self_line ∷ []))
    (End.stopped too_deep)
self_stops zero w few = Ends.refused (self_frame zero) w _ [] too_deep (IsRefused.early (record { code = Code.X4; name = codes "-" }) refl refl)
self_stops (suc n) w few =
    let o : Opening = record { source = Source.file (codes "self.upf"); home = []; pairs = []; line = 1 } in
    let v : World = world_after pair w (self_frame (suc n)) self_statement [] in
    let fits : length self_text ≤ longest_file = omega arith in
    Ends.runs (self_frame (suc n)) w (record { head = self_line; body = []; ended = true }) [] _ self_statement
    (record { early = none_early _ _ _ (ne_eqb (suc n) 0 (λ e. omega arith)) (not_late w.lines (omega arith)); read = inl refl; body = refl; fine = refl })
    (Ends.within (self_frame (suc n)) v o [] too_deep (self_line ∷ []) n (omega arith) (self_text, refl, fits, inl refl)
    (self_stops n v (omega arith)))
  where
    not_late : (lines : ℕ) → lines ≤ 31 → nat_le most_lines lines ≡ false
    not_late lines few = lt-leb most_lines lines (omega arith)

    none_early : (last opens late : Bool) → last ≡ false → late ≡ false
        → with_code Code.X4 (shown_if (last && opens) no_name) ++ with_code Code.X5 (shown_if late no_name) ≡ []
    none_early false opens false e e' = refl
    none_early true opens late e e' = cc
    none_early false opens true e e' = cc

-- It stops in the 32nd frame.
pub loads_itself : StopsWith self_readers self_files pair (codes "self.upf") (self_line ∷ []) too_deep
loads_itself = self_stops 31 (fresh pair) (omega arith)
