-- From the readings that a call tells of to those that its caller tells of.
use Rattle.std.proofs.Common.{List, ℕ, Result, Ok, Err, IfOk}
use Rattle.std.specs.Result.{IfErr}
use Rattle.std.specs.Global.{Vec}
use Rattle.pw_defs.specs.declared.faults.TclFault.{TclFault}
use Rattle.tcl_words.specs.Pieces.{Piece}
use Rattle.tcl_words.specs.Readings.{Fails}
use Rattle.tcl_words.specs.Words.{Read}

pub read_onward : (R S : Read (List ℕ) → Type 0) (left : List Piece) → ((read : Read (List ℕ)) → R read → S read) → (r : Result (Vec ℕ) TclFault)
    → IfOk r (λ w. R (Ok (w.items, left))) → IfOk r (λ w. S (Ok (w.items, left)))
read_onward R S left onward (Ok w) h = onward (Ok (w.items, left)) h
read_onward R S left onward (Err f) h = tt

pub failed_onward : {X Y : Type 0} (R S : Read Y → Type 0) → ((fault : TclFault) → R (Err fault) → S (Err fault)) → (r : Result X TclFault)
    → IfErr r (Fails (λ fault. R (Err fault))) → IfErr r (Fails (λ fault. S (Err fault)))
failed_onward R S onward (Ok x) h = tt
failed_onward R S onward (Err f) h = λ other. onward f (h other)

pub fault_onward : {X : Type 0} (P Q : TclFault → Type 0) → ((fault : TclFault) → P fault → Q fault) → (r : Result X TclFault) → IfErr r (Fails P)
    → IfErr r (Fails Q)
fault_onward P Q onward (Ok x) h = tt
fault_onward P Q onward (Err f) h = λ other. onward f (h other)

pub ok_onward : {X : Type 0} (P Q : X → Type 0) → ((x : X) → P x → Q x) → (r : Result X TclFault) → IfOk r P → IfOk r Q
ok_onward P Q onward (Ok x) h = onward x h
ok_onward P Q onward (Err f) h = tt
