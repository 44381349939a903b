-- What a walk leaves where it has no result.
use Rattle.std.proofs.Common.{◌≡◌, ℕ, Bool, List, sym, subst, Result, Ok, Err, IsErrAnd}
use Rattle.plain_lists.specs.declared.faults.DiagFault.{DiagFault}
use Rattle.plain_lists.specs.declared.faults.DiagFault.TheVariants.{Memory}
use Rattle.diagram_defs.specs.Diagrams.{Diagram}
use Rattle.diagram_defs.specs.Parts.{GrowsBy}
use Rattle.diagram_defs.specs.Answers.{IsCause, Yields}
use Rattle.diagram_defs.proofs.PartLemmas.{GrowsBy_step, IsCause_wider}
use Rattle.state_meets.specs.declared.faults.GatherFault.{GatherFault}
use Rattle.state_meets.specs.declared.faults.GatherFault.TheVariants.{GivenUp, Table}
use Rattle.state_meets.specs.Gathered.{IsReason}

reason_wider : (Allowed Smaller : ℕ → (List ℕ → Bool) → Type 0) → ((level : ℕ) (part : List ℕ → Bool) → Smaller level part → Allowed level part) → (d : Diagram) (fault : GatherFault) → IsReason d Smaller fault → IsReason d Allowed fault
reason_wider Allowed Smaller wider d GivenUp why = tt
reason_wider Allowed Smaller wider d (Table fault) why = IsCause_wider Smaller Allowed wider d fault why

-- a fault of an operation whose parts are allowed too is passed on
pub walk_passed : {T : Type 0} {Allowed Smaller : ℕ → (List ℕ → Bool) → Type 0} {old mid new : Diagram} (Right : T → Type 0) (r : Result T GatherFault) (fault : GatherFault) → IsErrAnd r (λ e. e ≡ fault) → GrowsBy Allowed old mid
    → ((level : ℕ) (part : List ℕ → Bool) → Smaller level part → Allowed level part) → GrowsBy Smaller mid new × IsReason new Smaller fault → Yields Allowed old new Right (IsReason new Allowed) r
walk_passed Right (Ok x) fault is before wider after = absurd is
walk_passed {Allowed = Allowed} {Smaller = Smaller} {old = old} {mid = mid} {new = new} Right (Err e) fault is before wider after =
    (GrowsBy_step Allowed Smaller old mid new before wider after.0, subst (IsReason new Allowed) (sym is) (reason_wider Allowed Smaller wider new fault after.1))

-- memory ran out
pub walk_memory : {T : Type 0} {Allowed : ℕ → (List ℕ → Bool) → Type 0} {old new : Diagram} (Right : T → Type 0) (r : Result T GatherFault) → IsErrAnd r (λ e. e ≡ Table Memory) → GrowsBy Allowed old new → Yields Allowed old new Right (IsReason new Allowed) r
walk_memory Right (Ok x) is grown = absurd is
walk_memory {Allowed = Allowed} {new = new} Right (Err e) is grown = (grown, subst (IsReason new Allowed) (sym is) tt)

-- the answer of a last operation, whose parts are allowed too
pub walk_last : {T : Type 0} {Allowed Smaller : ℕ → (List ℕ → Bool) → Type 0} {old mid new : Diagram} (Right Wanted : T → Type 0) (r : Result T GatherFault) → GrowsBy Allowed old mid → ((level : ℕ) (part : List ℕ → Bool) → Smaller level part → Allowed level part)
    → ((x : T) → Right x → Wanted x) → Yields Smaller mid new Right (IsReason new Smaller) r → Yields Allowed old new Wanted (IsReason new Allowed) r
walk_last {Allowed = Allowed} {Smaller = Smaller} {old = old} {mid = mid} {new = new} Right Wanted (Ok x) before wider right after =
    (GrowsBy_step Allowed Smaller old mid new before wider after.0, right x after.1)
walk_last {Allowed = Allowed} {Smaller = Smaller} {old = old} {mid = mid} {new = new} Right Wanted (Err e) before wider right after =
    (GrowsBy_step Allowed Smaller old mid new before wider after.0, reason_wider Allowed Smaller wider new e after.1)

-- the cause of a fault of the table
pub table_cause : (d : Diagram) (Allowed : ℕ → (List ℕ → Bool) → Type 0) (e : GatherFault) (fault : DiagFault) → e ≡ Table fault → IsReason d Allowed e → IsCause d Allowed fault
table_cause d Allowed e fault is why = subst (IsReason d Allowed) is why
