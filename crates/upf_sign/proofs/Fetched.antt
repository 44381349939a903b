-- What is wrong with the first of several files.
use Rattle.std.proofs.Common.{◌≡◌, ◌≤◌, ℕ, false, inl, inr, List, Option, Some, None, Result, Ok, Err, length, refl, sym, subst, arith}
use Rattle.std.specs.Prelude.{IfSome, IfErr, IsErrAnd, nat_lt}
use Rattle.pw_defs.specs.declared.faults.LoadFault.{LoadFault}
use Rattle.pw_defs.specs.declared.faults.LoadFault.TheVariants.{Refused, Outside, Memory}
use Rattle.pw_defs.specs.declared.faults.Refusal.{Refusal}
use Rattle.pw_outer.specs.Counts.{Counts, NoneFalls, Rose}
use Rattle.pw_outer.specs.Fetches.{Files}
use Rattle.pw_outer.specs.declared.shelves.TheConstants.{LONGEST_FILE}
use Rattle.upf_sign.specs.Faults.{IsHeld, fault_at}
use Rattle.upf_sign.specs.Fetching.{IsCounted, IsFaultAt, IsFirstFault, StopsFetch}
use Rattle.upf_sign.specs.Words.{Job}

-- an error by `?` is the one that was answered
pub err_is : {T E : Type 0} (r : Result T E) (f : E) (P : E → Type 0) → IsErrAnd r (λ e. e ≡ f) → P f → IfErr r P
err_is (Ok x) f P is p = tt
err_is (Err e) f P is p = subst P (sym is) p

pub on_some : {X : Type 0} {P Q : X → Type 0} (o : Option X) → ((x : X) → o ≡ Some x → P x → Q x) → IfSome o P → IfSome o Q
on_some None f p = tt
on_some (Some x) f p = f x refl p

rises : (old mid new : ℕ) → old ≤ mid → Rose mid new → Rose old new
rises old mid new le rose = omega arith

-- a call that fails after others shows in the counts of all
counted : (old mid new : Counts) (r : Refusal) → NoneFalls old mid → IsCounted mid new r → IsCounted old new r
counted old mid new r falls (inl is) = inl (is.0, rises old.misses mid.misses new.misses falls.misses is.1)
counted old mid new r falls (inr is) = inr (is.0, rises old.overs mid.overs new.overs falls.overs is.1)

-- why a call stops after others
pub stops_after : (held mid : Option Files) (Is Js : Files → Refusal → Type 0) (old counts new : Counts) (fault : LoadFault) → mid ≡ held → NoneFalls old counts
    → ((files : Files) → held ≡ Some files → (r : Refusal) → Is files r → Js files r) → StopsFetch mid Is counts new fault → StopsFetch held Js old new fault
stops_after held mid Is Js old counts new (Refused r) same falls leads stops =
    (on_some held (λ files is. leads files is r) (subst (λ (h : Option Files). IfSome h (λ files. Is files r)) same stops.0), counted old counts new r falls stops.1)
stops_after held mid Is Js old counts new Outside same falls leads stops = rises old.faults counts.faults new.faults falls.faults stops
stops_after held mid Is Js old counts new Memory same falls leads stops = tt

-- nothing is wrong with a file that is there
pub held_is_fine : (files : Files) (name text : List ℕ) → IsHeld files name text → fault_at files name ≡ None
held_is_fine files name text held =
    let short : nat_lt LONGEST_FILE (length text) ≡ false = grind (arith, held.1) in
    rw (held.0) (rw short refl)

pub same_counts : (c : Counts) → NoneFalls c c
same_counts c = record { faults = omega arith; misses = omega arith; overs = omega arith }

-- what holds of what is told
pub held_at : {X : Type 0} (o : Option X) (x : X) (P : X → Type 0) → o ≡ Some x → IfSome o P → P x
held_at o x P is p = let q : IfSome (Some x) P = subst (λ y. IfSome y P) is p in q

-- what is wrong with the first file is the first thing that is wrong
pub first_at_library : (files : Files) (job : Job) (r : Refusal) → IsFaultAt job.library files r → IsFirstFault job files r
first_at_library files job r is = rw is refl

-- what is wrong with the second file is, where the first is there
pub first_at_netlist : (files : Files) (job : Job) (library : List ℕ) → IsHeld files job.library library → (r : Refusal) → IsFaultAt job.netlist files r → IsFirstFault job files r
first_at_netlist files job library held r is = let fine = held_is_fine files job.library library held in rw (fine, is) refl
