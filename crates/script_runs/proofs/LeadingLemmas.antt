-- How tasks lead to others, step by step.
use Rattle.std.proofs.Common.{◌≡◌, ◌≢◌, ◌≤◌, ◌<◌, ◌+◌, ℕ, Bool, List, [], ◌∷◌, ◌++◌, map, length, Option, Some, None, refl, sym, ap, ◌∙◌, subst}
use Rattle.std.specs.Prelude.{IfSome, drop}
use Rattle.std.specs.List.{AllByRecursion}
use Rattle.std.proofs.lemmas.List.{drop_all}
use Rattle.pw_defs.specs.declared.design.Design.{Design}
use Rattle.pw_defs.specs.declared.faults.LoadFault.{LoadFault}
use Rattle.pw_defs.specs.declared.faults.LoadFault.TheVariants.{Refused, Outside, Memory}
use Rattle.pw_defs.specs.declared.faults.Refusal.{Refusal}
use Rattle.pw_defs.specs.declared.script.Line.{Line}
use Rattle.pw_outer.specs.Counts.{Counts}
use Rattle.pw_outer.specs.Fetches.{Files}
use Rattle.script_defs.specs.World.{Frame, World}
use Rattle.script_defs.specs.Scopes.{is_modelled}
use Rattle.script_defs.specs.Blocks.{Block, blocks_of}
use Rattle.script_defs.specs.Refused.{Readers}
use Rattle.script_defs.specs.ReadStatements.{readers as script_readers}
use Rattle.script_defs.specs.Steps.{world_after}
use Rattle.script_defs.specs.UnitSteps.{Opening, frame_after, frame_inside, openings_of}
use Rattle.script_defs.specs.Runs.{Task, End, Ends, Opens, OpensLines, IsSourceRefused, most_lines, source_file, tasks_of}
use Rattle.script_runs.specs.declared.frames.Openings.{Openings}
use Rattle.script_runs.specs.declared.steps.StepFault.{StepFault}
use Rattle.script_runs.specs.declared.steps.StepFault.TheVariants.{Refused as RefusedStep, Memory as NoMemory}
use Rattle.script_runs.specs.Leading.{Leads, GoesOn, StopsAt, StopsTask, LinesRun, LinesStop}
use Rattle.script_runs.specs.Outcomes.{held_by, StopsLoad}
use Rattle.script_runs.specs.Steps.{IsRun, IsMapped, IsMapRefused, StopsLine, load_fault}
use Rattle.script_runs.specs.Views.{CanOpen, HasText, opening_at, opened, source_view}
use Rattle.script_runs.proofs.LineCodes.{line_code}
use Rattle.script_runs.proofs.OpenedNames.{named_by_line, opened_have_text}
use Rattle.script_runs.proofs.OpenedRoom.{left_after, room_for_openings}
use Rattle.script_runs.proofs.Stopping.{shows_nothing}

pub any_some : {X : Type 0} {P : X → Type 0} (o : Option X) → ((x : X) → P x) → IfSome o P
any_some None f = tt
any_some (Some x) f = f x

pub on_both : {X : Type 0} {P Q R : X → Type 0} (o : Option X) → ((x : X) → P x → Q x → R x) → IfSome o P → IfSome o Q → IfSome o R
on_both None f p q = tt
on_both (Some x) f p q = f x p q

-- what is told of what a shelf holds stays so
pub told_before : {X : Type 0} (P : X → Type 0) (held mid : Option X) → mid ≡ held → IfSome mid P → IfSome held P
told_before {X} P held mid same p = subst (λ (o : Option X). IfSome o P) same p

module _ (readers : Readers) where
  -- A LINE
  -- a line that is run goes on in the frames that it opens
  pub line_goes_on : (held : List ℕ → Option (List ℕ)) (d : Design) (f : Frame) (w : World) (b : Block) (g : Frame) (v : World) (os : List Opening)
      → IsRun readers d f w b g v os → GoesOn readers held d f w (Task.command b ∷ []) g v (map Task.opening os)
  line_goes_on held d f w b g v os is = record { leads = λ tasks. record { ends = λ e rest. ends tasks e rest } }
    where
      ends : (tasks : List Task) (e : End) → Ends readers held most_lines d g v (map Task.opening os ++ tasks) e → Ends readers held most_lines d f w
          (Task.command b ∷ tasks) e
      ends tasks e rest =
          let s = is.statement in
          let P : Frame → Type 0 = λ h. Ends readers held most_lines d h v (map Task.opening os ++ tasks) e in
          let Q : World → Type 0 = λ u. Ends readers held most_lines d (frame_after f s) u (map Task.opening os ++ tasks) e in
          let R : List Opening → Type 0 = λ ps. Ends readers held most_lines d (frame_after f s) (world_after d w f s b.body) (map Task.opening ps ++ tasks) e in
          Ends.runs f w b tasks e s is.fine (subst R is.openings_are (subst Q is.world_is (subst P is.frame_is rest)))

  -- why a line stops
  pub line_stops : (d : Design) (f : Frame) (w : World) (b : Block) (fault : StepFault) (load : LoadFault) → load ≡ load_fault fault → StopsLine readers d f w b fault
      → StopsTask readers d f w (Task.command b ∷ []) load
  line_stops d f w b fault load same is = subst (StopsTask readers d f w (Task.command b ∷ [])) (sym same) (by fault is)
    where
      by : (x : StepFault) → StopsLine readers d f w b x → StopsTask readers d f w (Task.command b ∷ []) (load_fault x)
      by (RefusedStep r) refused = (λ held. record { stops = λ tasks. Ends.refused f w b tasks r refused }, line_code readers d f w b r refused)
      by NoMemory wanted = tt

  -- what stops whatever the files stops over those of a shelf
  pub task_stops : (held : Option Files) (d : Design) (f : Frame) (w : World) (front : List Task) (old new : Counts) (fault : LoadFault)
      → StopsTask readers d f w front fault → StopsLoad held (λ files. StopsAt readers (held_by files) d f w front) old new fault
  task_stops held d f w front old new (Refused r) stops = (any_some held (λ files. stops.0 (held_by files)), shows_nothing old new r.code stops.1)
  task_stops held d f w front old new Outside stops = absurd stops
  task_stops held d f w front old new Memory stops = tt

  module _ (held : List ℕ → Option (List ℕ)) (d : Design) where
    -- SEVERAL TASKS
    pub goes_on_self : (f : Frame) (w : World) (front : List Task) → GoesOn readers held d f w front f w front
    goes_on_self f w front = record { leads = λ tasks. record { ends = λ e rest. rest } }

    pub goes_on_after : (d' : Design) → d' ≡ d → (f : Frame) (w : World) (a : List Task) (g : Frame) (v : World) (b : List Task) (h : Frame) (u : World) (c : List Task)
        → GoesOn readers held d f w a g v b → GoesOn readers held d' g v b h u c → GoesOn readers held d f w a h u c
    goes_on_after d' same f w a g v b h u c p q =
        let P : Design → Type 0 = λ x. GoesOn readers held x g v b h u c in
        let q' = subst P same q in
        record { leads = λ tasks. record { ends = λ e rest. (p.leads tasks).ends e ((q'.leads tasks).ends e rest) } }

    pub stops_then : (d' : Design) → d' ≡ d → (f : Frame) (w : World) (a : List Task) (g : Frame) (v : World) (b : List Task) (r : Refusal)
        → GoesOn readers held d f w a g v b → StopsAt readers held d' g v b r → StopsAt readers held d f w a r
    stops_then d' same f w a g v b r p q =
        let P : Design → Type 0 = λ x. StopsAt readers held x g v b r in
        let q' = subst P same q in
        record { stops = λ tasks. (p.leads tasks).ends (End.stopped r) (q'.stops tasks) }

    -- the first task of those that are left is done
    pub goes_on_past : (d' : Design) → d' ≡ d → (f : Frame) (w : World) (a : List Task) (g : Frame) (v : World) (x : Task) (rest : List Task) (h : Frame) (u : World)
        → GoesOn readers held d f w a g v (x ∷ rest) → GoesOn readers held d' g v (x ∷ []) h u [] → GoesOn readers held d f w a h u rest
    goes_on_past d' same f w a g v x rest h u p q =
        let P : Design → Type 0 = λ y. GoesOn readers held y g v (x ∷ []) h u [] in
        let q' = subst P same q in
        record { leads = λ tasks. record { ends = λ e more. (p.leads tasks).ends e ((q'.leads (rest ++ tasks)).ends e more) } }

    pub stops_past : (d' : Design) → d' ≡ d → (f : Frame) (w : World) (a : List Task) (g : Frame) (v : World) (x : Task) (rest : List Task) (r : Refusal)
        → GoesOn readers held d f w a g v (x ∷ rest) → StopsAt readers held d' g v (x ∷ []) r → StopsAt readers held d f w a r
    stops_past d' same f w a g v x rest r p q =
        let P : Design → Type 0 = λ y. StopsAt readers held y g v (x ∷ []) r in
        let q' = subst P same q in
        record { stops = λ tasks. (p.leads tasks).ends (End.stopped r) (q'.stops (rest ++ tasks)) }

    -- LINES
    pub lines_self : (f : Frame) (w : World) (tasks : List Task) → Leads readers held d f w tasks f w tasks
    lines_self f w tasks = record { ends = λ e rest. rest }

    pub lines_past : (d' : Design) → d' ≡ d → (f : Frame) (w : World) (all : List Task) (g : Frame) (v : World) (lines : List Line) (b : Block) (left : List Line) (h : Frame) (u : World)
        → blocks_of lines ≡ b ∷ blocks_of left → Leads readers held d f w all g v (tasks_of lines) → GoesOn readers held d' g v (Task.command b ∷ []) h u []
        → Leads readers held d f w all h u (tasks_of left)
    lines_past d' same f w all g v lines b left h u first p q =
        let P : Design → Type 0 = λ y. GoesOn readers held y g v (Task.command b ∷ []) h u [] in
        let q' = subst P same q in
        let tasks : Task.command b ∷ tasks_of left ≡ tasks_of lines = ap (map Task.command) (sym first) in
        record {
          ends = λ e rest.
              let Q : List Task → Type 0 = λ ts. Ends readers held most_lines d g v ts e in
              p.ends e (subst Q tasks ((q'.leads (tasks_of left)).ends e rest));
        }

    pub lines_stop : (d' : Design) → d' ≡ d → (f : Frame) (w : World) (all : List Task) (g : Frame) (v : World) (lines : List Line) (b : Block) (left : List Line) (r : Refusal)
        → blocks_of lines ≡ b ∷ blocks_of left → Leads readers held d f w all g v (tasks_of lines) → StopsAt readers held d' g v (Task.command b ∷ []) r
        → Ends readers held most_lines d f w all (End.stopped r)
    lines_stop d' same f w all g v lines b left r first p q =
        let P : Design → Type 0 = λ y. StopsAt readers held y g v (Task.command b ∷ []) r in
        let q' = subst P same q in
        let Q : List Task → Type 0 = λ ts. Ends readers held most_lines d g v ts (End.stopped r) in
        p.ends (End.stopped r) (subst Q (ap (map Task.command) (sym first)) (q'.stops (tasks_of left)))

    pub lines_over : (f : Frame) (w : World) (all : List Task) (g : Frame) (v : World) (lines : List Line) (at : ℕ) → length lines ≤ at
        → Leads readers held d f w all g v (tasks_of (drop at lines)) → Ends readers held most_lines d f w all (End.ran v)
    lines_over f w all g v lines at over p =
        let P : List Line → Type 0 = λ ls. Ends readers held most_lines d g v (tasks_of ls) (End.ran v) in
        p.ends (End.ran v) (subst P (sym (drop_all at lines over)) (Ends.done g v))

    -- A FRAME THAT IS OPENED
    pub opens_so : (o : Opening) (modelled : Bool) (lines : List Line) → modelled ≡ is_modelled d o.home → OpensLines readers held o.source modelled lines
        → Opens readers held d o lines
    opens_so o modelled lines same opens = let P : Bool → Type 0 = λ m. OpensLines readers held o.source m lines in subst P same opens

    pub unopened_stops : (f : Frame) (w : World) (o : Opening) (modelled : Bool) (r : Refusal) → modelled ≡ is_modelled d o.home
        → IsSourceRefused readers held o.source modelled r → StopsAt readers held d f w (Task.opening o ∷ []) r
    unopened_stops f w o modelled r same refused =
        let P : Bool → Type 0 = λ m. IsSourceRefused readers held o.source m r in
        record { stops = λ tasks. Ends.unopened f w o tasks r (subst P same refused) }

    module _ (f : Frame) (w : World) (o : Opening) (lines : List Line) (n : ℕ) (left : f.left ≡ n + 1) (opens : Opens readers held d o lines)
        (inside : Frame) (inside_is : inside ≡ frame_inside f o (source_file o.source) n) where
      in_place : (e : End) → Ends readers held most_lines d inside w (tasks_of lines) e
          → Ends readers held most_lines d (frame_inside f o (source_file o.source) n) w (tasks_of lines) e
      in_place e ends = let P : Frame → Type 0 = λ h. Ends readers held most_lines d h w (tasks_of lines) e in subst P inside_is ends

      pub inside_stops : (r : Refusal) → LinesStop readers held d inside w lines r → StopsAt readers held d f w (Task.opening o ∷ []) r
      inside_stops r stops = record { stops = λ tasks. Ends.within f w o tasks r lines n left opens (in_place (End.stopped r) stops) }

      pub map_stops : (u : World) (r : Refusal) → LinesRun readers held d inside w lines u → IsMapRefused d f u o r
          → StopsAt readers held d f w (Task.opening o ∷ []) r
      map_stops u r ran refused =
          record { stops = λ tasks. Ends.unmapped f w o tasks r lines n u refused.fault left opens (in_place (End.ran u) ran) refused.first refused.refusal_is }

      pub inside_goes_on : (u v : World) → LinesRun readers held d inside w lines u → IsMapped d f u o v → GoesOn readers held d f w (Task.opening o ∷ []) f v []
      inside_goes_on u v ran mapped = record { leads = λ tasks. record { ends = λ e rest. ends tasks e rest } }
        where
          ends : (tasks : List Task) (e : End) → Ends readers held most_lines d f v tasks e → Ends readers held most_lines d f w (Task.opening o ∷ tasks) e
          ends tasks e rest =
              let P : World → Type 0 = λ x. Ends readers held most_lines d f x tasks e in
              Ends.mapped f w o tasks e lines n u left opens (in_place (End.ran u) ran) mapped.fine (subst P mapped.world_is rest)

-- A LINE THAT OPENS FRAMES
-- the frame behind a line has as much room as before
pub room_stays : (d : Design) (f : Frame) (w : World) (b : Block) (g : Frame) (v : World) (os : List Opening) → IsRun script_readers d f w b g v os → g.left ≡ f.left
room_stays d f w b g v os is = ap (λ (h : Frame). h.left) is.frame_is ∙ left_after f is.statement

-- and has room for the frames that it opens
pub can_open : (d : Design) (f : Frame) (w : World) (b : Block) (g : Frame) (v : World) (os : Openings) → IsRun script_readers d f w b g v (opened (Some os)) → CanOpen g os
can_open d f w b g v os is some = (room, by os.homes refl)
  where
    from : Opening → List Opening → Type 0
    from o ps = opened (Some os) ≡ o ∷ ps

    opens : openings_of w f is.statement ≢ []
    opens none = some (emptied os.homes (is.openings_are ∙ none))
      where
        emptied : (homes : List (List ℕ)) → map (opening_at os) homes ≡ [] → homes ≡ []
        emptied [] e = refl
        emptied (home ∷ homes) e = cc

    room : 0 < g.left
    room =
        let P : ℕ → Type 0 = λ n. 0 < n in
        subst P (sym (room_stays d f w b g v (opened (Some os)) is)) (room_for_openings f w b.head is.statement (named_by_line b.head is.statement is.fine.read) is.fine.early opens)

    texts : AllByRecursion (λ (o : Opening). HasText o.source) (map (opening_at os) os.homes)
    texts =
        let P : List Opening → Type 0 = λ ps. AllByRecursion (λ (o : Opening). HasText o.source) ps in
        subst P (sym is.openings_are) (opened_have_text w f b.head is.statement is.fine.read)

    by : (homes : List (List ℕ)) → os.homes ≡ homes → HasText (source_view os.source)
    by [] none = absurd (some none)
    by (home ∷ homes) split =
        let P : List (List ℕ) → Type 0 = λ hs. AllByRecursion (λ (o : Opening). HasText o.source) (map (opening_at os) hs) in
        (subst P split texts).0

pub opened_can : (d : Design) (f : Frame) (w : World) (b : Block) (g : Frame) (v : World) (os : Option Openings) → IsRun script_readers d f w b g v (opened os)
    → IfSome os (CanOpen g)
opened_can d f w b g v None is = tt
opened_can d f w b g v (Some os) is = can_open d f w b g v os is
