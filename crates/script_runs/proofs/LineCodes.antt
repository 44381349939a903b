-- The refusal of a line, or of a map, has none of the codes of files.
use Rattle.std.proofs.Common.{◌≡◌, ℕ, Bool, true, false, List, [], ◌∷◌, ◌++◌, Some, map, filter, slice_get, refl, sym, ap, ◌∙◌, subst, cond}
use Rattle.std.specs.Prelude.{codes}
use Rattle.std.specs.List.{AllByRecursion}
use Rattle.pw_defs.specs.declared.design.Design.{Design}
use Rattle.pw_defs.specs.declared.faults.CmdFault.{CmdFault}
use Rattle.pw_defs.specs.declared.faults.CmdFault.TheVariants as cmd
use Rattle.pw_defs.specs.declared.faults.Code.{Code}
use Rattle.pw_defs.specs.declared.faults.Code.TheVariants as code
use Rattle.pw_defs.specs.declared.faults.Refusal.{Refusal}
use Rattle.pw_defs.specs.declared.script.Line.{Line}
use Rattle.script_defs.specs.Statements.{Statement}
use Rattle.script_defs.specs.World.{Frame, World}
use Rattle.script_defs.specs.Blocks.{Block, begins_model, ends_model}
use Rattle.script_defs.specs.LineFaults.{LineFault, deep_frames, late_lines, early_faults, line_faults, map_faults, with_code}
use Rattle.script_defs.specs.Refused.{Readers, BodyFault, IsRefused, body_faults, form_refusal, misplaced, never_ended}
use Rattle.script_defs.specs.Runs.{most_lines}
use Rattle.script_defs.specs.UnitSteps.{Opening}
use Rattle.script_runs.specs.Steps.{IsMapRefused}
use Rattle.script_runs.proofs.OpenedNames.{all_joined}
use Rattle.script_runs.specs.Outcomes.{is_file_code}

-- the fault is none of a file
abbrev OfLine : LineFault → Type 0
OfLine x = is_file_code x.code ≡ false

abbrev OfBody : BodyFault → Type 0
OfBody x = is_file_code x.code ≡ false

first_is : {X : Type 0} (P : X → Type 0) (xs : List X) (x : X) → AllByRecursion P xs → slice_get xs 0 ≡ Some x → P x
first_is P [] x all e = cc
first_is P (y ∷ ys) x all e = let same : y ≡ x = cc in subst P same all.0

coded : (c : Code) (names : List (List ℕ)) → is_file_code c ≡ false → AllByRecursion OfLine (with_code c names)
coded c [] other = tt
coded c (name ∷ names) other = (other, coded c names other)

two_codes : (a b : List (List ℕ)) → AllByRecursion OfLine (with_code code.X4 a ++ with_code code.X5 b)
two_codes a b = all_joined OfLine (with_code code.X4 a) (with_code code.X5 b) (coded code.X4 a refl) (coded code.X5 b refl)

early_codes : (f : Frame) (w : World) (line : Line) → AllByRecursion OfLine (early_faults most_lines f w line)
early_codes f w line = two_codes (deep_frames f line) (late_lines most_lines w)

three_codes : (a b c : List (List ℕ)) → AllByRecursion OfLine (with_code code.U14 a ++ with_code code.U7 b ++ with_code code.U6 c)
three_codes a b c =
    all_joined OfLine (with_code code.U14 a ++ with_code code.U7 b) (with_code code.U6 c)
    (all_joined OfLine (with_code code.U14 a) (with_code code.U7 b) (coded code.U14 a refl) (coded code.U7 b refl)) (coded code.U6 c refl)

eight_codes : (passed : Bool) (a b c d e f g h : List (List ℕ)) → AllByRecursion OfLine (cond passed []
    (with_code code.U14 a ++ with_code code.U7 b ++ with_code code.U5 c ++ with_code code.U6 d ++ with_code code.U8 e ++ with_code code.U9 f
    ++ with_code code.U13 g ++ with_code code.X4 h))
eight_codes true a b c d e f g h = tt
eight_codes false a b c d e f g h =
    all_joined OfLine _ _ (all_joined OfLine _ _ (all_joined OfLine _ _ (all_joined OfLine _ _ (all_joined OfLine _ _ (all_joined OfLine _ _ (all_joined OfLine _ _
    (coded code.U14 a refl) (coded code.U7 b refl)) (coded code.U5 c refl)) (coded code.U6 d refl)) (coded code.U8 e refl)) (coded code.U9 f refl))
    (coded code.U13 g refl)) (coded code.X4 h refl)

late_codes : (d : Design) (f : Frame) (w : World) (s : Statement) → AllByRecursion OfLine (line_faults d f w s)
late_codes d f w s = eight_codes s.passed _ _ _ _ _ _ _ _

map_codes : (d : Design) (w : World) (f : Frame) (o : Opening) → AllByRecursion OfLine (map_faults d w f o)
map_codes d w f o = three_codes _ _ _

misplaced_codes : (name : List ℕ) (lines : List Line) → AllByRecursion OfBody (map (misplaced name) lines)
misplaced_codes name [] = tt
misplaced_codes name (line ∷ lines) = (refl, misplaced_codes name lines)

body_codes : (b : Block) → AllByRecursion OfBody (body_faults b)
body_codes b =
    all_joined OfBody _ _ (all_joined OfBody _ _ (ended b.ended) (misplaced_codes (codes "begin_power_model") (filter begins_model b.body))) (ends (ends_model b.head))
  where
    ended : (t : Bool) → AllByRecursion OfBody (cond t [] (never_ended b.head ∷ []))
    ended true = tt
    ended false = (refl, tt)

    ends : (t : Bool) → AllByRecursion OfBody (cond t (misplaced (codes "end_power_model") b.head ∷ []) [])
    ends true = (refl, tt)
    ends false = tt

form_code : (file : List ℕ) (fault : CmdFault) (r : Refusal) → form_refusal file fault ≡ Some r → is_file_code r.code ≡ false
form_code file (cmd.U1 at) r is = let e : code.U1 ≡ r.code = cc in ap is_file_code (sym e)
form_code file (cmd.U2 at) r is = let e : code.U2 ≡ r.code = cc in ap is_file_code (sym e)
form_code file (cmd.U3 at) r is = let e : code.U3 ≡ r.code = cc in ap is_file_code (sym e)
form_code file (cmd.U4 at) r is = let e : code.U4 ≡ r.code = cc in ap is_file_code (sym e)
form_code file (cmd.T1 at) r is = let e : code.T1 ≡ r.code = cc in ap is_file_code (sym e)
form_code file (cmd.T2 at) r is = let e : code.T2 ≡ r.code = cc in ap is_file_code (sym e)
form_code file cmd.Memory r is = cc

shown_code : (c : Code) (r : Refusal) → r.code ≡ c → is_file_code c ≡ false → is_file_code r.code ≡ false
shown_code c r same other = ap is_file_code same ∙ other

pub line_code : (readers : Readers) (d : Design) (f : Frame) (w : World) (b : Block) (r : Refusal) → IsRefused readers most_lines d f w b r
    → is_file_code r.code ≡ false
line_code readers d f w b r (IsRefused.early x first is) = shown_code x.code r (ap (λ r. r.code) is) (first_is OfLine _ x (early_codes f w b.head) first)
line_code readers d f w b r (IsRefused.form fault none has goes shown) = form_code f.file fault r shown
line_code readers d f w b r (IsRefused.body_before_form fault x none has goes first is) =
    shown_code x.code r (ap (λ r. r.code) is) (first_is OfBody _ x (body_codes b) first)
line_code readers d f w b r (IsRefused.body s x none read first is) = shown_code x.code r (ap (λ r. r.code) is) (first_is OfBody _ x (body_codes b) first)
line_code readers d f w b r (IsRefused.late s x none read ends first is) =
    shown_code x.code r (ap (λ r. r.code) is) (first_is OfLine _ x (late_codes d f w s) first)

pub map_code : (d : Design) (f : Frame) (w : World) (o : Opening) (r : Refusal) → IsMapRefused d f w o r → is_file_code r.code ≡ false
map_code d f w o r refused =
    shown_code refused.fault.code r (ap (λ r. r.code) refused.refusal_is) (first_is OfLine _ refused.fault (map_codes d w f o) refused.first)
