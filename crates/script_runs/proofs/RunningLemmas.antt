-- What the calls that run lines lead to, over the files of a shelf.
use Rattle.std.proofs.Common.{◌≡◌, ◌≤◌, ◌<◌, ◌+◌, ◌-◌, ℕ, Bool, List, [], ◌∷◌, length, get_or, Option, Some, None, Result, refl, sym, ap, ◌∙◌, subst, arith}
use Rattle.std.specs.Prelude.{IfSome, OnOk, IfErr, drop}
use Rattle.std.proofs.lemmas.List.{drop_more}
use Rattle.pw_defs.specs.declared.design.Design.{Design}
use Rattle.pw_defs.specs.declared.faults.LoadFault.{LoadFault}
use Rattle.pw_defs.specs.declared.script.Line.{Line}
use Rattle.pw_outer.specs.Counts.{Counts, NoneFalls}
use Rattle.pw_outer.specs.Fetches.{Files}
use Rattle.script_defs.specs.World.{Frame, World}
use Rattle.script_defs.specs.Scopes.{is_modelled}
use Rattle.script_defs.specs.Blocks.{Block, blocks_of}
use Rattle.script_defs.specs.Refused.{Readers}
use Rattle.script_defs.specs.UnitSteps.{frame_inside}
use Rattle.script_defs.specs.Runs.{Task, OpensLines, IsSourceRefused, source_file, tasks_of}
use Rattle.script_runs.specs.declared.frames.Openings.{Openings}
use Rattle.script_runs.specs.declared.steps.StepFault.{StepFault}
use Rattle.script_runs.specs.declared.steps.StepFault.TheVariants.{Refused as RefusedStep, Memory as NoMemory}
use Rattle.script_runs.specs.Leading.{Leads, GoesOn, StopsAt, LinesRun, LinesStop}
use Rattle.script_runs.specs.Outcomes.{held_by, StopsLoad}
use Rattle.script_runs.specs.Steps.{IsMapped, StopsMap, load_fault}
use Rattle.script_runs.specs.Views.{opening_at, source_view, tasks_at, tasks_in}
use Rattle.script_runs.proofs.LineCodes.{map_code}
use Rattle.script_runs.proofs.LeadingLemmas.{any_some, on_both, goes_on_after, goes_on_past, inside_goes_on, inside_stops, lines_over, lines_past, lines_stop, map_stops, opens_so, stops_past, stops_then, told_before, unopened_stops}
use Rattle.script_runs.proofs.Stopping.{on_err, on_ok, on_some, same_counts, shows_nothing, stops_after}

-- what is told of a list's rest, at its first item
rest_is : {X : Type 0} (xs : List X) (i : ℕ) (x : X) → i < length xs → x ≡ get_or xs i x → drop i xs ≡ x ∷ drop (i + 1) xs
rest_is xs i x within is = drop_more xs i x within ∙ ap (λ y. y ∷ drop (i + 1) xs) (sym is)

-- what holds of what is told
some_at : {X : Type 0} (P : X → Type 0) (o : Option X) (x : X) → o ≡ Some x → IfSome o P → P x
some_at {X} P o x e p = let Q : Option X → Type 0 = λ y. IfSome y P in subst Q e p

module _ (readers : Readers) (held : Option Files) (d : Design) (f : Frame) (w : World) where
  -- A LINE AND THE FRAMES THAT IT OPENS
  pub block_runs : {T : Type 0} (d' : Design) → d' ≡ d → (b : Block) (g : Frame) (v u : World) (opened : Option Openings) (os : Openings) → opened ≡ Some os
      → ((files : List ℕ → Option (List ℕ)) → GoesOn readers files d f w (Task.command b ∷ []) g v (tasks_in opened)) → (r : Result T LoadFault)
      → OnOk r (IfSome held (λ files. GoesOn readers (held_by files) d' g v (tasks_at os os.homes) g u []))
      → OnOk r (IfSome held (λ files. GoesOn readers (held_by files) d f w (Task.command b ∷ []) g u []))
  block_runs d' same b g v u opened os is line r runs =
      on_ok r (λ x p. on_some held (λ files e q. goes_on_after readers (held_by files) d d' same f w (Task.command b ∷ []) g v (tasks_at os os.homes) g u []
      (subst (λ o. GoesOn readers (held_by files) d f w (Task.command b ∷ []) g v (tasks_in o)) is (line (held_by files))) q) p) runs

  pub block_stops : {T : Type 0} (d' : Design) → d' ≡ d → (b : Block) (g : Frame) (v : World) (opened : Option Openings) (os : Openings) → opened ≡ Some os
      → ((files : List ℕ → Option (List ℕ)) → GoesOn readers files d f w (Task.command b ∷ []) g v (tasks_in opened)) → (old new : Counts) (r : Result T LoadFault)
      → IfErr r (λ fault. StopsLoad held (λ files. StopsAt readers (held_by files) d' g v (tasks_at os os.homes)) old new fault)
      → IfErr r (λ fault. StopsLoad held (λ files. StopsAt readers (held_by files) d f w (Task.command b ∷ [])) old new fault)
  block_stops d' same b g v opened os is line old new r stops =
      on_err r (λ fault. stops_after held held _ _ old old new fault refl (same_counts old) (λ files e q stop. stops_then readers (held_by files) d d' same f w (Task.command b ∷ []) g v
      (tasks_at os os.homes) q (subst (λ o. GoesOn readers (held_by files) d f w (Task.command b ∷ []) g v (tasks_in o)) is (line (held_by files))) stop)) stops

  pub plain_runs : (b : Block) (g : Frame) (v : World) (opened : Option Openings) → opened ≡ None
      → ((files : List ℕ → Option (List ℕ)) → GoesOn readers files d f w (Task.command b ∷ []) g v (tasks_in opened))
      → IfSome held (λ files. GoesOn readers (held_by files) d f w (Task.command b ∷ []) g v [])
  plain_runs b g v opened is line =
      any_some held (λ files. subst (λ o. GoesOn readers (held_by files) d f w (Task.command b ∷ []) g v (tasks_in o)) is (line (held_by files)))

  -- THE FRAMES, ONE BY ONE
  pub openings_past : (mid : Option Files) → mid ≡ held → (d' : Design) → d' ≡ d → (os : Openings) (i : ℕ) (home : List ℕ) (v u : World) → i < length os.homes
      → home ≡ get_or os.homes i home → IfSome held (λ files. GoesOn readers (held_by files) d f w (tasks_at os os.homes) f v (tasks_at os (drop i os.homes)))
      → IfSome mid (λ files. GoesOn readers (held_by files) d' f v (tasks_at os (home ∷ [])) f u [])
      → IfSome held (λ files. GoesOn readers (held_by files) d f w (tasks_at os os.homes) f u (tasks_at os (drop (i + 1) os.homes)))
  openings_past mid same d' same_d os i home v u within is so_far next =
      on_both held (λ files p q. goes_on_past readers (held_by files) d d' same_d f w (tasks_at os os.homes) f v (Task.opening (opening_at os home))
      (tasks_at os (drop (i + 1) os.homes)) f u
      (subst (λ homes. GoesOn readers (held_by files) d f w (tasks_at os os.homes) f v (tasks_at os homes)) (rest_is os.homes i home within is) p) q)
      so_far (told_before _ held mid same next)

  pub openings_stop : (mid : Option Files) → mid ≡ held → (d' : Design) → d' ≡ d → (os : Openings) (i : ℕ) (home : List ℕ) (v : World) → i < length os.homes
      → home ≡ get_or os.homes i home → IfSome held (λ files. GoesOn readers (held_by files) d f w (tasks_at os os.homes) f v (tasks_at os (drop i os.homes)))
      → (old counts new : Counts) → NoneFalls old counts → (fault : LoadFault)
      → StopsLoad mid (λ files. StopsAt readers (held_by files) d' f v (tasks_at os (home ∷ []))) counts new fault
      → StopsLoad held (λ files. StopsAt readers (held_by files) d f w (tasks_at os os.homes)) old new fault
  openings_stop mid same d' same_d os i home v within is so_far old counts new falls fault stops =
      stops_after held mid _ _ old counts new fault same falls (λ files e r stop. stops_past readers (held_by files) d d' same_d f w (tasks_at os os.homes) f v
      (Task.opening (opening_at os home)) (tasks_at os (drop (i + 1) os.homes)) r
      (subst (λ homes. GoesOn readers (held_by files) d f w (tasks_at os os.homes) f v (tasks_at os homes)) (rest_is os.homes i home within is) (some_at _ held files e so_far)) stop) stops

  -- THE LINES OF A FRAME
  pub lines_go_on : (mid : Option Files) → mid ≡ held → (d' : Design) → d' ≡ d → (lines : List Line) (at next : ℕ) (b : Block) (g : Frame) (v : World) (h : Frame) (u : World)
      → blocks_of (drop at lines) ≡ b ∷ blocks_of (drop next lines)
      → IfSome held (λ files. Leads readers (held_by files) d f w (tasks_of lines) g v (tasks_of (drop at lines)))
      → IfSome mid (λ files. GoesOn readers (held_by files) d' g v (Task.command b ∷ []) h u [])
      → IfSome held (λ files. Leads readers (held_by files) d f w (tasks_of lines) h u (tasks_of (drop next lines)))
  lines_go_on mid same d' same_d lines at next b g v h u first so_far ran =
      on_both held (λ files p q. lines_past readers (held_by files) d d' same_d f w (tasks_of lines) g v (drop at lines) b (drop next lines) h u first p q)
      so_far (told_before _ held mid same ran)

  pub lines_stop_here : (mid : Option Files) → mid ≡ held → (d' : Design) → d' ≡ d → (lines : List Line) (at next : ℕ) (b : Block) (g : Frame) (v : World)
      → blocks_of (drop at lines) ≡ b ∷ blocks_of (drop next lines)
      → IfSome held (λ files. Leads readers (held_by files) d f w (tasks_of lines) g v (tasks_of (drop at lines)))
      → (old counts new : Counts) → NoneFalls old counts → (fault : LoadFault)
      → StopsLoad mid (λ files. StopsAt readers (held_by files) d' g v (Task.command b ∷ [])) counts new fault
      → StopsLoad held (λ files. LinesStop readers (held_by files) d f w lines) old new fault
  lines_stop_here mid same d' same_d lines at next b g v first so_far old counts new falls fault stops =
      stops_after held mid _ _ old counts new fault same falls (λ files e r stop. lines_stop readers (held_by files) d d' same_d f w (tasks_of lines) g v
      (drop at lines) b (drop next lines) r first (some_at _ held files e so_far) stop) stops

  pub all_lines_run : (lines : List Line) (at : ℕ) (g : Frame) (v : World) → length lines ≤ at
      → IfSome held (λ files. Leads readers (held_by files) d f w (tasks_of lines) g v (tasks_of (drop at lines)))
      → IfSome held (λ files. LinesRun readers (held_by files) d f w lines v)
  all_lines_run lines at g v over so_far = on_some held (λ files e p. lines_over readers (held_by files) d f w (tasks_of lines) g v lines at over p) so_far

  -- A FRAME THAT IS OPENED
  pub no_lines : (os : Openings) (home : List ℕ) (modelled : Bool) → modelled ≡ is_modelled d home → (old new : Counts) (fault : LoadFault)
      → StopsLoad held (λ files. IsSourceRefused readers (held_by files) (source_view os.source) modelled) old new fault
      → StopsLoad held (λ files. StopsAt readers (held_by files) d f w (tasks_at os (home ∷ []))) old new fault
  no_lines os home modelled same old new fault stops =
      stops_after held held _ _ old old new fault refl (same_counts old)
      (λ files e r refused. unopened_stops readers (held_by files) d f w (opening_at os home) modelled r same refused) stops

  module _ (os : Openings) (home : List ℕ) (modelled : Bool) (same : modelled ≡ is_modelled d home) (room : 0 < f.left) (lines : List Line)
      (opens : IfSome held (λ files. OpensLines readers (held_by files) (source_view os.source) modelled lines)) (inside : Frame)
      (inside_is : inside ≡ frame_inside f (opening_at os home) (source_file (source_view os.source)) (f.left - 1)) where
    left_is : f.left ≡ f.left - 1 + 1
    left_is = omega arith

    pub lines_inside_stop : (mid : Option Files) → mid ≡ held → (old counts new : Counts) → NoneFalls old counts → (fault : LoadFault)
        → StopsLoad mid (λ files. LinesStop readers (held_by files) d inside w lines) counts new fault
        → StopsLoad held (λ files. StopsAt readers (held_by files) d f w (tasks_at os (home ∷ []))) old new fault
    lines_inside_stop mid same_held old counts new falls fault stops =
        stops_after held mid _ _ old counts new fault same_held falls (λ files e r stop. inside_stops readers (held_by files) d f w (opening_at os home) lines (f.left - 1) left_is
        (opens_so readers (held_by files) d (opening_at os home) modelled lines same (some_at _ held files e opens)) inside inside_is r stop) stops

    pub map_refused : (mid : Option Files) → mid ≡ held → (d' : Design) → d' ≡ d → (u : World) → IfSome mid (λ files. LinesRun readers (held_by files) d inside w lines u)
        → (old new : Counts) (fault : StepFault) (load : LoadFault) → load ≡ load_fault fault → StopsMap d' f u (opening_at os home) fault
        → StopsLoad held (λ files. StopsAt readers (held_by files) d f w (tasks_at os (home ∷ []))) old new load
    map_refused mid same_held d' same_d u ran old new fault load is stops =
        subst (StopsLoad held (λ files. StopsAt readers (held_by files) d f w (tasks_at os (home ∷ []))) old new) (sym is)
        (by fault (subst (λ x. StopsMap x f u (opening_at os home) fault) same_d stops))
      where
        by : (x : StepFault) → StopsMap d f u (opening_at os home) x
            → StopsLoad held (λ files. StopsAt readers (held_by files) d f w (tasks_at os (home ∷ []))) old new (load_fault x)
        by (RefusedStep r) refused = (
          on_both held (λ files p q. map_stops readers (held_by files) d f w (opening_at os home) lines (f.left - 1) left_is
              (opens_so readers (held_by files) d (opening_at os home) modelled lines same p) inside inside_is u r q refused) opens (told_before _ held mid same_held ran),
          shows_nothing old new r.code (map_code d f u (opening_at os home) r refused),
        )
        by NoMemory wanted = tt

    pub frame_runs : (mid : Option Files) → mid ≡ held → (d' : Design) → d' ≡ d → (u v : World) → IfSome mid (λ files. LinesRun readers (held_by files) d inside w lines u)
        → IsMapped d' f u (opening_at os home) v → IfSome held (λ files. GoesOn readers (held_by files) d f w (tasks_at os (home ∷ [])) f v [])
    frame_runs mid same_held d' same_d u v ran mapped =
        on_both held (λ files p q. inside_goes_on readers (held_by files) d f w (opening_at os home) lines (f.left - 1) left_is
        (opens_so readers (held_by files) d (opening_at os home) modelled lines same p) inside inside_is u v q
        (subst (λ x. IsMapped x f u (opening_at os home) v) same_d mapped)) opens (told_before _ held mid same_held ran)
