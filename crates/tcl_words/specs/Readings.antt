-- What a reader of words has read so far, and how it goes on.
use Rattle.std.specs.Prelude.{◌≢◌, ℕ, Bool, true, false, List, [], ◌∷◌, ◌++◌, Ok, Err}
use Rattle.pw_defs.specs.declared.faults.TclFault.{TclFault}
use Rattle.pw_defs.specs.declared.faults.TclFault.TheVariants.{Memory}
use Rattle.tcl_words.specs.Pieces.{Piece, byte, escaped, carried, is_byte}
use Rattle.tcl_words.specs.Words.{Read, Manner, command, list, Variables, is_replaced, is_stop, meant, with_text, IsReplaced}
use Rattle.tcl_words.specs.declared.kinds.TextKind.{TextKind}
use Rattle.tcl_words.specs.declared.kinds.TextKind.TheVariants as kind

-- a command or a list, as the definitions see it
abbrev pub manner_of : TextKind → Manner
manner_of kind.Command = command
manner_of kind.List = list

-- where a bare or a quoted text stops
abbrev pub stop_of : TextKind → Bool → Piece → Bool
stop_of k true = is_byte 34
stop_of k false = is_stop (manner_of k)

-- whether something is replaced at the piece
abbrev pub is_replaced_at : Manner → Piece → Bool
is_replaced_at manner (byte b) = is_replaced manner b
is_replaced_at manner (escaped b) = false
is_replaced_at manner carried = false

-- what a piece stands for at which no variable is replaced
abbrev pub meant_text : Piece → List ℕ
meant_text (byte b) = b ∷ []
meant_text (escaped b) = meant b ∷ []
meant_text carried = 32 ∷ []

-- whatever reading goes on behind the first front of a text, it goes on in the same way behind the longer front
abbrev pub GoesOn : List Piece → Manner → Variables → (Piece → Bool) → List ℕ → List Piece → List ℕ → List Piece → Type 0
GoesOn whole manner vars stop front text longer left =
    (all : List Piece) → ((read : Read (List ℕ)) → IsReplaced whole manner vars stop text read → IsReplaced whole manner vars stop all (with_text front read))
    → (read : Read (List ℕ)) → IsReplaced whole manner vars stop left read → IsReplaced whole manner vars stop all (with_text longer read)

-- the words that are read, and what is left; or the first fault
abbrev pub ReadWords : Type 0
ReadWords = Read (List (List ℕ))

-- words in front of what is read
abbrev pub with_words : List (List ℕ) → ReadWords → ReadWords
with_words front (Ok read) = Ok (front ++ read.0, read.1)
with_words front (Err fault) = Err fault

-- the call's fault is this reading's; want of memory may come in place of any reading
abbrev pub Fails : (TclFault → Type 0) → TclFault → Type 0
Fails P fault = fault ≢ Memory → P fault
