-- A script has one answer.
use Rattle.std.proofs.Common.{◌≡◌, ℕ, List, Option, Some, Result, Ok, Err, refl, sym, ◌∙◌, subst}
use Rattle.std.specs.Prelude.{IfSome, OnOk, IfErr}
use Rattle.pw_defs.specs.declared.design.Design.{Design}
use Rattle.pw_defs.specs.declared.faults.LoadFault.{LoadFault}
use Rattle.pw_defs.specs.declared.faults.LoadFault.TheVariants.{Refused, Outside, Memory}
use Rattle.pw_defs.specs.declared.faults.Refusal.{Refusal}
use Rattle.pw_defs.specs.declared.faults.TclFault.{TclFault}
use Rattle.pw_defs.specs.declared.script.Line.{Line}
use Rattle.pw_outer.specs.Counts.{Counts}
use Rattle.pw_outer.specs.Fetches.{Files}
use Rattle.script_defs.specs.World.{Frame, World}
use Rattle.script_defs.specs.Refused.{Readers, text_refusal}
use Rattle.script_defs.specs.Runs.{End, Ends, first_frame, fresh, most_lines, tasks_of}
use Rattle.script_defs.specs.Laws.{AreExact}
use Rattle.script_defs.specs.Loads.{LastWorld}
use Rattle.script_defs.proofs.OneEnd.{has_one_end, ran_once, ran_or_stopped, stopped_once}
use Rattle.script_runs.specs.Leading.{LinesStop}
use Rattle.script_runs.specs.Outcomes.{held_by, IsUnreadable, StopsLoad}
use Rattle.script_runs.specs.Scripts.{HasStop, AnswersRun, AnswersStop}
use Rattle.script_runs.proofs.Stopping.{on_err, on_some, same_counts, stops_after}
use Rattle.script_runs.proofs.LeadingLemmas.{any_some}

-- lines that stop are those of the script
pub script_stops : {T : Type 0} (readers : Readers) (held : Option Files) (d : Design) (name text : List ℕ) (f : Frame) (w : World) (lines : List Line) → f ≡ first_frame name
    → w ≡ fresh d → readers.IsScript text lines → (old new : Counts) (result : Result T LoadFault)
    → IfErr result (λ fault. StopsLoad held (λ files. LinesStop readers (held_by files) d f w lines) old new fault)
    → IfErr result (λ fault. StopsLoad held (λ files. HasStop readers (held_by files) d name text) old new fault)
script_stops readers held d name text f w lines first fresh_is read old new result stops =
    on_err result (λ fault. stops_after held held _ _ old old new fault refl (same_counts old) (λ files e r stop. at_first files r stop)) stops
  where
    at_first : (files : Files) (r : Refusal) → LinesStop readers (held_by files) d f w lines r → HasStop readers (held_by files) d name text r
    at_first files r stop =
        let P : Frame → Type 0 = λ g. LinesStop readers (held_by files) d g w lines r in
        let Q : World → Type 0 = λ v. LinesStop readers (held_by files) d (first_frame name) v lines r in
        HasStop.stops lines read (subst Q fresh_is (subst P first stop))

module _ (readers : Readers) (exact : AreExact readers) (held : List ℕ → Option (List ℕ)) (d : Design) (name text : List ℕ) where
  -- the second end of a script's lines, at the lines of the first
  other_end : (lines more : List Line) (a b : End) → readers.IsScript text lines → readers.IsScript text more
      → Ends readers held most_lines d (first_frame name) (fresh d) (tasks_of lines) a → Ends readers held most_lines d (first_frame name) (fresh d) (tasks_of more) b → a ≡ b
  other_end lines more a b read read' p q =
      let P : List Line → Type 0 = λ ls. Ends readers held most_lines d (first_frame name) (fresh d) (tasks_of ls) b in
      has_one_end readers exact held most_lines d (first_frame name) (fresh d) (tasks_of lines) a b p (subst P (exact.one_script text more lines read' read) q)

  one_world : (u v : World) → LastWorld readers held d name text u → LastWorld readers held d name text v → u ≡ v
  one_world u v p q = ran_once u v (other_end p.lines q.lines (End.ran u) (End.ran v) p.read q.read p.ran q.ran)

  world_or_stop : (u : World) (r : Refusal) → LastWorld readers held d name text u → HasStop readers held d name text r → ⊥
  world_or_stop u r p (HasStop.unreadable is) = exact.script_or_fault text p.lines is.fault p.read is.has
  world_or_stop u r p (HasStop.stops lines read stop) = ran_or_stopped u r (other_end p.lines lines (End.ran u) (End.stopped r) p.read read p.ran stop)

  one_text_refusal : (r s : Refusal) → IsUnreadable readers name text r → IsUnreadable readers name text s → r ≡ s
  one_text_refusal r s p q =
      let P : TclFault → Type 0 = λ f. text_refusal name f ≡ Some s in
      let shown : text_refusal name p.fault ≡ Some s = subst P (exact.one_script_fault text q.fault p.fault q.has p.has) q.shown in
      of_some (sym p.shown ∙ shown)
    where
      of_some : Some r ≡ Some s → r ≡ s
      of_some e = cc

  one_stop : (r s : Refusal) → HasStop readers held d name text r → HasStop readers held d name text s → r ≡ s
  one_stop r s (HasStop.unreadable p) (HasStop.unreadable q) = one_text_refusal r s p q
  one_stop r s (HasStop.unreadable p) (HasStop.stops lines read stop) = absurd (exact.script_or_fault text lines p.fault read p.has)
  one_stop r s (HasStop.stops lines read stop) (HasStop.unreadable q) = absurd (exact.script_or_fault text lines q.fault read q.has)
  one_stop r s (HasStop.stops lines read stop) (HasStop.stops lines' read' stop') =
      stopped_once r s (other_end lines lines' (End.stopped r) (End.stopped s) read read' stop stop')

module _ (readers : Readers) (exact : AreExact readers) (held : Option Files) (d : Design) (name text : List ℕ) (made : World) (old new : Counts) where
  -- what is answered where a script runs
  pub runs_there : {T : Type 0} (result : Result T LoadFault) → OnOk result (IfSome held (λ files. LastWorld readers (held_by files) d name text made))
      → IfErr result (λ fault. StopsLoad held (λ files. HasStop readers (held_by files) d name text) old new fault)
      → IfSome held (λ files. (w : World) → LastWorld readers (held_by files) d name text w → AnswersRun w made old new result)
  runs_there (Ok done) runs stops = on_some held (λ files e p w q. one_world readers exact (held_by files) d name text made w p q) runs
  runs_there (Err (Refused r)) runs stops = on_some held (λ files e p w q. world_or_stop readers exact (held_by files) d name text w r q p) stops.0
  runs_there (Err Outside) runs stops = any_some held (λ files w q. stops)
  runs_there (Err Memory) runs stops = any_some held (λ files w q. tt)

  -- what is answered where it stops
  pub stops_there : {T : Type 0} (result : Result T LoadFault) → OnOk result (IfSome held (λ files. LastWorld readers (held_by files) d name text made))
      → IfErr result (λ fault. StopsLoad held (λ files. HasStop readers (held_by files) d name text) old new fault)
      → IfSome held (λ files. (r : Refusal) → HasStop readers (held_by files) d name text r → AnswersStop r old new result)
  stops_there (Ok done) runs stops = on_some held (λ files e p r q. world_or_stop readers exact (held_by files) d name text made r p q) runs
  stops_there (Err (Refused s)) runs stops = on_some held (λ files e p r q. one_stop readers exact (held_by files) d name text s r p q) stops.0
  stops_there (Err Outside) runs stops = any_some held (λ files r q. stops)
  stops_there (Err Memory) runs stops = any_some held (λ files r q. tt)
