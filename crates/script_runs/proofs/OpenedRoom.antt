-- A line that opens frames stands in a frame that has room for them.
use Rattle.std.proofs.Common.{◌≡◌, ◌≢◌, ℕ, zero, suc, ◌<◌, ◌++◌, ◌||◌, ◌&&◌, Bool, true, false, List, [], ◌∷◌, refl, sym, ap, subst, arith, cond}
use Rattle.std.proofs.lemmas.Bool.{false≢true}
use Rattle.std.specs.Prelude.{codes, nat_eq}
use Rattle.pw_defs.specs.declared.faults.Code.{Code}
use Rattle.pw_defs.specs.declared.script.Line.{Line}
use Rattle.list_defs.specs.Members.{same_name}
use Rattle.list_defs.proofs.NameLemmas.{same_name-equal}
use Rattle.script_defs.specs.Statements.{Statement, is_command}
use Rattle.script_defs.specs.World.{Frame, World}
use Rattle.script_defs.specs.Blocks.{has_first_word, is_line_of}
use Rattle.script_defs.specs.LineFaults.{LineFault, early_faults, late_lines, no_name, shown_if, with_code}
use Rattle.script_defs.specs.Runs.{most_lines}
use Rattle.script_defs.specs.UnitSteps.{Opening, frame_after, openings_of}

-- the scope alone changes behind a line
pub left_after : (f : Frame) (s : Statement) → (frame_after f s).left ≡ f.left
left_after f s = by (is_command (codes "set_scope") s) _
  where
    by : (b : Bool) (scope : List ℕ) → (cond b (record f { scope = scope }) f).left ≡ f.left
    by true scope = refl
    by false scope = refl

-- a command has the name of its line
name_of_line : (name : List ℕ) (line : Line) (s : Statement) → has_first_word s.name line.words ≡ true → is_line_of name line ≡ is_command name s
name_of_line name line s h = by line.words h
  where
    by : (words : List (List ℕ)) → has_first_word s.name words ≡ true → has_first_word name words ≡ same_name name s.name
    by [] h = absurd (false≢true h)
    by (word ∷ words) h = ap (same_name name) (sym (same_name-equal s.name word h))

-- where no frame may be opened any more, a line without early faults opens none
no_openings : (f : Frame) (w : World) (line : Line) (s : Statement) → has_first_word s.name line.words ≡ true → f.left ≡ 0
    → early_faults most_lines f w line ≡ [] → openings_of w f s ≡ []
no_openings f w line s named last none =
    by (is_command (codes "load_upf") s) (is_command (codes "apply_power_model") s) f.left last (with_code Code.X5 (late_lines most_lines w)) _ _
    (subst P (name_of_line (codes "load_upf") line s named) (subst Q (name_of_line (codes "apply_power_model") line s named) none))
  where
    P : Bool → Type 0
    P a = with_code Code.X4 (shown_if (nat_eq f.left 0 && (a || is_command (codes "apply_power_model") s)) no_name) ++ with_code Code.X5
        (late_lines most_lines w) ≡ []

    Q : Bool → Type 0
    Q b = with_code Code.X4 (shown_if (nat_eq f.left 0 && (is_line_of (codes "load_upf") line || b)) no_name) ++ with_code Code.X5 (late_lines most_lines w) ≡ []

    by : (a b : Bool) (left : ℕ) → left ≡ 0 → (rest : List LineFault) (x y : List Opening)
        → with_code Code.X4 (shown_if (nat_eq left 0 && (a || b)) no_name) ++ rest ≡ [] → cond a x (cond b y []) ≡ []
    by true b left e rest x y h = let R : ℕ → Type 0 = λ n. with_code Code.X4 (shown_if (nat_eq n 0 && true) no_name) ++ rest
        ≡ [] in let clash = subst R e h in cc
    by false true left e rest x y h = let R : ℕ → Type 0 = λ n. with_code Code.X4 (shown_if (nat_eq n 0 && true) no_name) ++ rest
        ≡ [] in let clash = subst R e h in cc
    by false false left e rest x y h = refl

-- so a line that opens frames has room for them
pub room_for_openings : (f : Frame) (w : World) (line : Line) (s : Statement) → has_first_word s.name line.words ≡ true
    → early_faults most_lines f w line ≡ [] → openings_of w f s ≢ [] → 0 < f.left
room_for_openings f w line s named none opens = by f.left refl
  where
    by : (left : ℕ) → f.left ≡ left → 0 < left
    by zero last = absurd (opens (no_openings f w line s named last none))
    by (suc n) last = omega arith
