-- When a command line can't be run, and with which refusal.
use Rattle.std.specs.Prelude.{◌≡◌, ℕ, Bool, true, false, List, [], ◌∷◌, ◌++◌, Option, None, Some, map, nat_lt, slice_get, codes, if◌then◌else◌}
use Rattle.std.specs.List.{filter}
use Rattle.pw_defs.specs.declared.design.Design.{Design}
use Rattle.pw_defs.specs.declared.faults.At.{At}
use Rattle.pw_defs.specs.declared.faults.Code.{Code}
use Rattle.pw_defs.specs.declared.faults.CmdFault.{CmdFault}
use Rattle.pw_defs.specs.declared.faults.TclFault.{TclFault}
use Rattle.pw_defs.specs.declared.faults.Refusal.{Refusal}
use Rattle.pw_defs.specs.declared.script.Line.{Line}
use Rattle.script_defs.specs.Statements.{Statement}
use Rattle.script_defs.specs.World.{Frame, World}
use Rattle.script_defs.specs.Blocks.{Block, begins_model, ends_model}
use Rattle.script_defs.specs.LineFaults.{LineFault, early_faults, line_faults}

-- What the readers of scripts say: which lines a text is, which command a line is, and which fault a text or a line has.
pub record Readers : Type 1 where
  pub IsScript : List ℕ → List Line → Type 0
  pub HasScriptFault : List ℕ → TclFault → Type 0
  pub IsStatement : Line → Statement → Type 0
  pub HasFormFault : Line → CmdFault → Type 0

abbrev pub refusal : Code → List ℕ → At → Refusal
refusal code file at = record { code = code; file = file; line = at.line; name = at.name }

-- the refusal of a fault in the words of a text
abbrev pub text_refusal : List ℕ → TclFault → Option Refusal
text_refusal file (TclFault.T1 at) = Some (refusal Code.T1 file at)
text_refusal file (TclFault.T2 at) = Some (refusal Code.T2 file at)
text_refusal file (TclFault.T3 at) = Some (refusal Code.T3 file at)
text_refusal file (TclFault.T4 at) = Some (refusal Code.T4 file at)
text_refusal file TclFault.Memory = None

-- the refusal of a fault in the form of a command
abbrev pub form_refusal : List ℕ → CmdFault → Option Refusal
form_refusal file (CmdFault.U1 at) = Some (refusal Code.U1 file at)
form_refusal file (CmdFault.U2 at) = Some (refusal Code.U2 file at)
form_refusal file (CmdFault.U3 at) = Some (refusal Code.U3 file at)
form_refusal file (CmdFault.U4 at) = Some (refusal Code.U4 file at)
form_refusal file (CmdFault.T1 at) = Some (refusal Code.T1 file at)
form_refusal file (CmdFault.T2 at) = Some (refusal Code.T2 file at)
form_refusal file CmdFault.Memory = None

-- the place of a fault of form in the order of codes
abbrev pub form_rank : CmdFault → ℕ
form_rank (CmdFault.U1 at) = 1
form_rank (CmdFault.U2 at) = 2
form_rank (CmdFault.U3 at) = 3
form_rank (CmdFault.U4 at) = 4
form_rank (CmdFault.T1 at) = 5
form_rank (CmdFault.T2 at) = 6
form_rank CmdFault.Memory = 0

-- a fault of a power model's lines, with the place of its code in the order
pub record BodyFault : Type 0 where
  pub rank : ℕ
  pub code : Code
  pub line : ℕ
  pub name : List ℕ

abbrev pub never_ended : Line → BodyFault
never_ended line = record { rank = 3; code = Code.U3; line = line.number; name = codes "begin_power_model" }

abbrev pub misplaced : List ℕ → Line → BodyFault
misplaced name line = record { rank = 4; code = Code.U4; line = line.number; name = name }

-- The faults of where power models begin and end: a body that its file never ends, one that begins inside another, and
-- an end with none open.
abbrev pub body_faults : Block → List BodyFault
body_faults b =
    (if b.ended then [] else never_ended b.head ∷ [])
    ++ map (misplaced (codes "begin_power_model")) (filter begins_model b.body)
    ++ (if ends_model b.head then misplaced (codes "end_power_model") b.head ∷ [] else [])

abbrev pub body_refusal : List ℕ → BodyFault → Refusal
body_refusal file x = record { code = x.code; file = file; line = x.line; name = x.name }

-- whether the first of a body's faults goes before a fault of form of the line itself
abbrev pub body_goes_first : List BodyFault → CmdFault → Bool
body_goes_first [] fault = false
body_goes_first (x ∷ xs) fault = nat_lt x.rank (form_rank fault)

-- the refusal of a fault at a line of a frame
abbrev pub line_refusal : Frame → ℕ → LineFault → Refusal
line_refusal f line x = record { code = x.code; file = f.file; line = line; name = x.name }

-- The line is this command, and can be run: it has no fault of any code.
pub record IsFine (readers : Readers) (limit : ℕ) (d : Design) (f : Frame) (w : World) (b : Block) (s : Statement) : Type 0 where
  pub early : early_faults limit f w b.head ≡ []
  pub read : readers.IsStatement b.head s
  pub body : body_faults b ≡ []
  pub fine : line_faults d f w s ≡ []

-- The line can't be run, and this is its first fault: one that it has before its words are looked at, one of its form or
-- of its body, whichever code goes first, or one of what its names stand for.
pub data IsRefused (readers : Readers) (limit : ℕ) (d : Design) (f : Frame) (w : World) (b : Block) (r : Refusal) : Type 0 where
  early : (x : LineFault) → slice_get (early_faults limit f w b.head) 0 ≡ Some x → r ≡ line_refusal f b.head.number x → IsRefused readers limit d f w b r
  form : (fault : CmdFault) → early_faults limit f w b.head ≡ [] → readers.HasFormFault b.head fault → body_goes_first (body_faults b) fault ≡ false
      → form_refusal f.file fault ≡ Some r → IsRefused readers limit d f w b r
  body_before_form : (fault : CmdFault) (x : BodyFault) → early_faults limit f w b.head ≡ [] → readers.HasFormFault b.head fault
      → body_goes_first (body_faults b) fault ≡ true → slice_get (body_faults b) 0 ≡ Some x → r ≡ body_refusal f.file x → IsRefused readers limit d f w b r
  body : (s : Statement) (x : BodyFault) → early_faults limit f w b.head ≡ [] → readers.IsStatement b.head s → slice_get (body_faults b) 0 ≡ Some x
      → r ≡ body_refusal f.file x → IsRefused readers limit d f w b r
  late : (s : Statement) (x : LineFault) → early_faults limit f w b.head ≡ [] → readers.IsStatement b.head s → body_faults b ≡ []
      → slice_get (line_faults d f w s) 0 ≡ Some x → r ≡ line_refusal f b.head.number x → IsRefused readers limit d f w b r
