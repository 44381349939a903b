-- Answers of one call that another one passes on.
use Rattle.std.proofs.Common.{◌≡◌, ℕ, Bool, true, false, List, Option, Some, None, Result, Ok, Err, MatchBool, MatchOption, IfOk, IfErr, IsErrAnd, sym, subst}
use Rattle.std.specs.Borrow.{Bor}
use Rattle.std.proofs.lemmas.Bool.{false≢true}
use Rattle.pw_defs.specs.declared.faults.TermFault.{TermFault}
use Rattle.pw_defs.specs.declared.faults.TermFault.TheVariants.{U8, U9, Memory}
use Rattle.pw_defs.specs.declared.terms.Term.{Term}
use Rattle.state_terms.specs.Readings.{Reads, Lacks, LacksBy}
use Rattle.state_terms.proofs.Combining.{Grammar}

-- what stands in front of a text, if it is a thing of the grammar
abbrev pub Answers : {X : Type 0} → Grammar X → List ℕ → Option (X × Bor (List ℕ)) → Type 0
Answers Is text r = MatchOption r (Lacks Is text) (λ p. Reads Is text p.0 p.1.now)

not_none : {X : Type 0} (p : X) → Some p ≡ None → ⊥
not_none p e = cc

pub none_read : {X : Type 0} (Is : Grammar X) (text : List ℕ) (r : Option (X × Bor (List ℕ))) → r ≡ None → Lacks Is text → Answers Is text r
none_read Is text None e l = l
none_read Is text (Some p) e l = absurd (not_none p e)

pub passed_option : {X : Type 0} (Is Was : Grammar X) (text whole : List ℕ) (r : Option (X × Bor (List ℕ))) → (Lacks Is text → Lacks Was whole)
    → ((x : X) (left : List ℕ) → Reads Is text x left → Reads Was whole x left) → Answers Is text r → Answers Was whole r
passed_option Is Was text whole None f g h = f h
passed_option Is Was text whole (Some p) f g h = g p.0 p.1.now h

pub passed_ok : (Is Was : Grammar Term) (text whole : List ℕ) (r : Result (Term × Bor (List ℕ)) TermFault)
    → ((x : Term) (left : List ℕ) → Reads Is text x left → Reads Was whole x left) → IfOk r (λ p. Reads Is text p.0 p.1.now)
    → IfOk r (λ p. Reads Was whole p.0 p.1.now)
passed_ok Is Was text whole (Ok p) f h = f p.0 p.1.now h
passed_ok Is Was text whole (Err fault) f h = tt

-- a fault of a part is one of the whole
pub lacks_by : {X Y : Type 0} (Is : Grammar X) (Was : Grammar Y) (text whole : List ℕ) (fault : TermFault) → (Lacks Is text → Lacks Was whole)
    → LacksBy Is text fault → LacksBy Was whole fault
lacks_by Is Was text whole U8 f l = f l
lacks_by Is Was text whole (U9 name) f l = l
lacks_by Is Was text whole Memory f l = l

pub passed_err : (Is Was : Grammar Term) (text whole : List ℕ) (r : Result (Term × Bor (List ℕ)) TermFault) → (Lacks Is text → Lacks Was whole)
    → IfErr r (LacksBy Is text) → IfErr r (LacksBy Was whole)
passed_err Is Was text whole (Ok p) f h = tt
passed_err Is Was text whole (Err fault) f h = lacks_by Is Was text whole fault f h

-- a fault that `?` passes on
pub err_read : (Is Was : Grammar Term) (text whole : List ℕ) (r : Result (Term × Bor (List ℕ)) TermFault) (fault : TermFault)
    → IsErrAnd r (λ (e : TermFault). e ≡ fault) → (Lacks Is text → Lacks Was whole) → LacksBy Is text fault → IfErr r (LacksBy Was whole)
err_read Is Was text whole (Ok p) fault e f l = tt
err_read Is Was text whole (Err other) fault e f l = subst (λ (g : TermFault). LacksBy Was whole g) (sym e) (lacks_by Is Was text whole fault f l)

-- what a test told
pub told_true : (b : Bool) (A B : Type 0) → MatchBool b A B → b ≡ true → A
told_true true A B h e = h
told_true false A B h e = absurd (false≢true e)

pub told_false : (b : Bool) (A B : Type 0) → MatchBool b A B → b ≡ false → B
told_false true A B h e = absurd (false≢true (sym e))
told_false false A B h e = h

-- a fault of another call that `?` passes on
pub err_told : {X : Type 0} (Is : TermFault → Type 0) (r : Result X TermFault) (fault : TermFault) → IsErrAnd r (λ (e : TermFault). e ≡ fault) → Is fault
    → IfErr r Is
err_told Is (Ok x) fault e h = tt
err_told Is (Err other) fault e h = subst Is (sym e) h
