-- Why calls stop over the files of a shelf.
use Rattle.std.proofs.Common.{◌≡◌, ◌≢◌, ◌≤◌, ℕ, false, List, Option, Some, None, Result, Ok, Err, refl, sym, ap, subst, arith}
use Rattle.std.specs.Prelude.{IfSome, IfOk, IfErr, IsSomeAnd, IsErrAnd}
use Rattle.plain_lists.specs.declared.faults.Memory.{Memory as OutOfMemory}
use Rattle.pw_defs.specs.declared.faults.Code.{Code}
use Rattle.pw_defs.specs.declared.faults.Code.TheVariants.{F1, F2, T1, T2, T3, T4}
use Rattle.pw_defs.specs.declared.faults.LoadFault.{LoadFault}
use Rattle.pw_defs.specs.declared.faults.LoadFault.TheVariants.{Refused, Outside, Memory}
use Rattle.pw_defs.specs.declared.faults.Refusal.{Refusal}
use Rattle.pw_defs.specs.declared.faults.TclFault.{TclFault}
use Rattle.pw_defs.specs.declared.faults.TclFault.TheVariants as tcl
use Rattle.pw_outer.specs.Counts.{Counts, NoneFalls, Rose}
use Rattle.pw_outer.specs.Fetches.{Files, Fetched, HasFetchCause, file_named}
use Rattle.pw_outer.specs.declared.shelves.ShelfFault.{ShelfFault}
use Rattle.pw_outer.specs.declared.shelves.ShelfFault.TheVariants.{TooLong}
use Rattle.script_defs.specs.Refused.{Readers, text_refusal}
use Rattle.script_defs.specs.Runs.{IsFileRefused}
use Rattle.script_runs.specs.Outcomes.{held_by, IsHeld, is_file_code, ShowsInCounts, StopsLoad, StopsReading, IsStopOf}

-- an error by `?` is the one that was answered
pub err_is : {T E : Type 0} (r : Result T E) (f : E) (P : E → Type 0) → IsErrAnd r (λ e. e ≡ f) → P f → IfErr r P
err_is (Ok x) f P is p = tt
err_is (Err e) f P is p = subst P (sym is) p

pub on_some : {X : Type 0} {P Q : X → Type 0} (o : Option X) → ((x : X) → o ≡ Some x → P x → Q x) → IfSome o P → IfSome o Q
on_some None f p = tt
on_some (Some x) f p = f x refl p

pub on_ok : {T E : Type 0} {P Q : T → Type 0} (r : Result T E) → ((x : T) → P x → Q x) → IfOk r P → IfOk r Q
on_ok (Ok x) f p = f x p
on_ok (Err e) f p = tt

pub on_err : {T E : Type 0} {P Q : E → Type 0} (r : Result T E) → ((x : E) → P x → Q x) → IfErr r P → IfErr r Q
on_err (Ok x) f p = tt
on_err (Err e) f p = f e p

pub some_of : {X : Type 0} {P : X → Type 0} (o : Option X) → IsSomeAnd o P → (x : X) × (o ≡ Some x) × P x
some_of None p = absurd p
some_of (Some x) p = (x, refl, p)

pub same_counts : (c : Counts) → NoneFalls c c
same_counts c = record { faults = omega arith; misses = omega arith; overs = omega arith }

pub later_counts : (old mid new : Counts) → NoneFalls old mid → NoneFalls mid new → NoneFalls old new
later_counts old mid new p q = record {
  faults = let a = p.faults in let b = q.faults in omega arith;
  misses = let a = p.misses in let b = q.misses in omega arith;
  overs = let a = p.overs in let b = q.overs in omega arith;
}

pub rises : (old mid new : ℕ) → old ≤ mid → Rose mid new → Rose old new
rises old mid new le rose = omega arith

-- another code shows in no count
pub shows_nothing : (old new : Counts) (c : Code) → is_file_code c ≡ false → ShowsInCounts old new c
shows_nothing old new F1 other = cc
shows_nothing old new F2 other = cc
shows_nothing old new _ other = tt

-- what shows after some calls shows after all of them
pub shown_later : (old mid new : Counts) (c : Code) → NoneFalls old mid → ShowsInCounts mid new c → ShowsInCounts old new c
shown_later old mid new F1 falls shows = rises old.misses mid.misses new.misses falls.misses shows
shown_later old mid new F2 falls shows = rises old.overs mid.overs new.overs falls.overs shows
shown_later old mid new _ falls shows = tt

-- why a call stops after others
pub stops_after : (held mid : Option Files) (Is Js : Files → Refusal → Type 0) (old counts new : Counts) (fault : LoadFault) → mid ≡ held → NoneFalls old counts
    → ((files : Files) → held ≡ Some files → (r : Refusal) → Is files r → Js files r) → StopsLoad mid Is counts new fault → StopsLoad held Js old new fault
stops_after held mid Is Js old counts new (Refused r) same falls leads stops =
    (on_some held (λ files is. leads files is r) (subst (λ (h : Option Files). IfSome h (λ files. Is files r)) same stops.0), shown_later old counts new r.code falls stops.1)
stops_after held mid Is Js old counts new Outside same falls leads stops = rises old.faults counts.faults new.faults falls.faults stops
stops_after held mid Is Js old counts new Memory same falls leads stops = tt

-- a fault of words is shown by no code of files
text_code : (name : List ℕ) (fault : TclFault) (r : Refusal) → text_refusal name fault ≡ Some r → is_file_code r.code ≡ false
text_code name (tcl.T1 at) r is = let e : T1 ≡ r.code = cc in ap is_file_code (sym e)
text_code name (tcl.T2 at) r is = let e : T2 ≡ r.code = cc in ap is_file_code (sym e)
text_code name (tcl.T3 at) r is = let e : T3 ≡ r.code = cc in ap is_file_code (sym e)
text_code name (tcl.T4 at) r is = let e : T4 ≡ r.code = cc in ap is_file_code (sym e)
text_code name tcl.Memory r is = cc

-- want of memory is shown by no refusal
text_known : (name : List ℕ) (fault : TclFault) (r : Refusal) → text_refusal name fault ≡ Some r → fault ≢ tcl.Memory
text_known name fault r is none =
    let P : TclFault → Type 0 = λ f. text_refusal name f ≡ Some r in
    let clash : None ≡ Some r = subst P none is in
    cc

module _ (readers : Readers) where
  -- a text with a fault is unreadable
  pub reading_stops : (name text : List ℕ) (fault : TclFault) (o : Result Refusal OutOfMemory) (stop : LoadFault) → (fault ≢ tcl.Memory → readers.HasScriptFault text fault)
      → IfOk o (λ r. text_refusal name fault ≡ Some r) → IsStopOf o stop → StopsReading readers name text stop
  reading_stops name text fault (Ok r) stop has shown is =
      subst (StopsReading readers name text) (sym is) (record { fault = fault; has = has (text_known name fault r shown); shown = shown })
  reading_stops name text fault (Err e) stop has shown is = subst (StopsReading readers name text) (sym is) tt

  -- so the file with that text is refused
  pub fetched_stops : (held : Option Files) (name text read : List ℕ) (old new : Counts) (fault : LoadFault) → IfSome held (λ files. IsHeld files name text)
      → read ≡ text → StopsReading readers name read fault → StopsLoad held (λ files. IsFileRefused readers (held_by files) name) old new fault
  fetched_stops held name text read old new (Refused r) told same stops =
      (on_some held (λ files is there. refused files there) told, shows_nothing old new r.code (text_code name stops.fault r stops.shown))
    where
      refused : (files : Files) → IsHeld files name text → IsFileRefused readers (held_by files) name r
      refused files there =
          let P : List ℕ → Type 0 = λ t. readers.HasScriptFault t stops.fault in
          IsFileRefused.unreadable text stops.fault there.0 there.1 (subst P same stops.has) stops.shown
  fetched_stops held name text read old new Outside told same stops = absurd stops
  fetched_stops held name text read old new Memory told same stops = tt

  -- a file that is too long is refused
  pub long_stops : (held : Option Files) (name text : List ℕ) (old new : Counts) (why : ShelfFault) (o : Result Refusal OutOfMemory) (stop : LoadFault) → why ≡ TooLong
      → IfSome held (λ files. Fetched {T = Unit} (file_named name files) (Err why) text) → HasFetchCause {T = Unit} old new (Err why)
      → IfOk o (λ r. r ≡ record { code = F2; file = name; line = 0; name = name }) → IsStopOf o stop
      → StopsLoad held (λ files. IsFileRefused readers (held_by files) name) old new stop
  long_stops held name text old new why (Ok r) stop is_long told cause is stop_is =
      subst (StopsLoad held (λ files. IsFileRefused readers (held_by files) name) old new) (sym stop_is) (on_some held (λ files e there. refused files there) told, shown)
    where
      refused : (files : Files) → Fetched {T = Unit} (file_named name files) (Err why) text → IsFileRefused readers (held_by files) name r
      refused files there =
          let P : ShelfFault → Type 0 = λ x. Fetched {T = Unit} (file_named name files) (Err x) text in
          let file = some_of (file_named name files) (subst P is_long there) in
          IsFileRefused.too_long file.0 file.1 file.2.1 is

      shown : ShowsInCounts old new r.code
      shown =
          let P : ShelfFault → Type 0 = λ x. HasFetchCause {T = Unit} old new (Err x) in
          let e : F2 ≡ r.code = cc in
          subst (ShowsInCounts old new) e (subst P is_long cause)
  long_stops held name text old new why (Err e) stop is_long told cause is stop_is =
      subst (StopsLoad held (λ files. IsFileRefused readers (held_by files) name) old new) (sym stop_is) tt
