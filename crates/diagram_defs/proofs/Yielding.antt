-- What is left after a row of operations, where each adds allowed parts alone.
use Rattle.std.proofs.Common.{◌≡◌, ℕ, Bool, List, sym, subst, length, Result, Ok, Err, IfOk, IfErr, IsErrAnd}
use Rattle.plain_lists.specs.declared.faults.DiagFault.{DiagFault}
use Rattle.plain_lists.specs.declared.faults.DiagFault.TheVariants.{Memory}
use Rattle.diagram_defs.specs.Diagrams.{Diagram, IsNumberFor}
use Rattle.diagram_defs.specs.Parts.{GrowsBy}
use Rattle.diagram_defs.specs.Answers.{IsCause, Yields, Makes, MakesSet}
use Rattle.diagram_defs.proofs.Growth.{IsNumberFor_same}
use Rattle.diagram_defs.proofs.PartLemmas.{GrowsBy_none, GrowsBy_step, IsCause_wider, IsPartOf_same}

-- a fault of an operation whose parts are allowed too is passed on
pub Yields_passed : {T : Type 0} {Allowed Smaller : ℕ → (List ℕ → Bool) → Type 0} {old mid new : Diagram} (Right : T → Type 0) (r : Result T DiagFault) (fault : DiagFault) → IsErrAnd r (λ e. e ≡ fault) → GrowsBy Allowed old mid
    → ((level : ℕ) (part : List ℕ → Bool) → Smaller level part → Allowed level part) → GrowsBy Smaller mid new × IsCause new Smaller fault → Yields Allowed old new Right (IsCause new Allowed) r
Yields_passed Right (Ok x) fault is before wider after = absurd is
Yields_passed {Allowed = Allowed} {Smaller = Smaller} {old = old} {mid = mid} {new = new} Right (Err e) fault is before wider after =
    (GrowsBy_step Allowed Smaller old mid new before wider after.0, subst (IsCause new Allowed) (sym is) (IsCause_wider Smaller Allowed wider new fault after.1))

-- memory ran out
pub Yields_memory : {T : Type 0} {Allowed : ℕ → (List ℕ → Bool) → Type 0} {old new : Diagram} (Right : T → Type 0) (r : Result T DiagFault) → IsErrAnd r (λ e. e ≡ Memory) → GrowsBy Allowed old new → Yields Allowed old new Right (IsCause new Allowed) r
Yields_memory Right (Ok x) is grown = absurd is
Yields_memory {Allowed = Allowed} {new = new} Right (Err e) is grown = (grown, subst (IsCause new Allowed) (sym is) tt)

-- the answer of a last operation, whose parts are allowed too
pub Yields_last : {T : Type 0} {Allowed Smaller : ℕ → (List ℕ → Bool) → Type 0} {old mid new : Diagram} (Right Wanted : T → Type 0) (r : Result T DiagFault) → GrowsBy Allowed old mid → ((level : ℕ) (part : List ℕ → Bool) → Smaller level part → Allowed level part)
    → ((x : T) → Right x → Wanted x) → Yields Smaller mid new Right (IsCause new Smaller) r → Yields Allowed old new Wanted (IsCause new Allowed) r
Yields_last {Allowed = Allowed} {Smaller = Smaller} {old = old} {mid = mid} {new = new} Right Wanted (Ok x) before wider right after =
    (GrowsBy_step Allowed Smaller old mid new before wider after.0, right x after.1)
Yields_last {Allowed = Allowed} {Smaller = Smaller} {old = old} {mid = mid} {new = new} Right Wanted (Err e) before wider right after =
    (GrowsBy_step Allowed Smaller old mid new before wider after.0, IsCause_wider Smaller Allowed wider new e after.1)

-- the same, for the number of a set that has the same rests
pub Makes_last : {Allowed Smaller : ℕ → (List ℕ → Bool) → Type 0} {old mid new : Diagram} (level : ℕ) (set other : List ℕ → Bool) (r : Result ℕ DiagFault) → GrowsBy Allowed old mid → ((level : ℕ) (part : List ℕ → Bool) → Smaller level part → Allowed level part)
    → ((rest : List ℕ) → set rest ≡ other rest) → Makes Smaller level set mid new r → Makes Allowed level other old new r
Makes_last {new = new} level set other r before wider agree after =
    Yields_last (IsNumberFor new level set) (IsNumberFor new level other) r before wider (λ n is. IsNumberFor_same new level set other n agree is) after

-- an operation alone
pub Makes_wider : {Allowed Smaller : ℕ → (List ℕ → Bool) → Type 0} {old new : Diagram} (level : ℕ) (set other : List ℕ → Bool) (r : Result ℕ DiagFault) → ((level : ℕ) (part : List ℕ → Bool) → Smaller level part → Allowed level part)
    → ((rest : List ℕ) → set rest ≡ other rest) → Makes Smaller level set old new r → Makes Allowed level other old new r
Makes_wider {Allowed = Allowed} {old = old} level set other r wider agree made =
    Makes_last level set other r (GrowsBy_none Allowed old made.0.grows.was) wider agree made

-- the same set by another test
pub Makes_same : (old new : Diagram) (level : ℕ) (set other : List ℕ → Bool) (r : Result ℕ DiagFault) → ((rest : List ℕ) → set rest ≡ other rest) → MakesSet level set old new r → MakesSet level other old new r
Makes_same old new level set other r agree made =
    Makes_wider level set other r (λ l part p. IsPartOf_same (length old.arities) level set other l part agree p) agree made

-- what an operation made, and why it made nothing
pub value_of : {A E : Type 0} {Allowed : ℕ → (List ℕ → Bool) → Type 0} {old new : Diagram} (Right : A → Type 0) (Why : E → Type 0) (r : Result A E) → Yields Allowed old new Right Why r → IfOk r Right
value_of Right Why (Ok x) made = made.1
value_of Right Why (Err e) made = tt

pub reason_of : {A E : Type 0} {Allowed : ℕ → (List ℕ → Bool) → Type 0} {old new : Diagram} (Right : A → Type 0) (Why : E → Type 0) (r : Result A E) → Yields Allowed old new Right Why r → IfErr r Why
reason_of Right Why (Ok x) made = tt
reason_of Right Why (Err e) made = made.1
