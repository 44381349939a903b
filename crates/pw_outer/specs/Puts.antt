-- What a put answers, and what the sink took.
use Rattle.std.specs.Prelude.{◌≡◌, ℕ, List, ◌++◌, take, Option, None, Some, Result, Ok, Err, ⊤}
use Rattle.std.specs.Io.KnownBytes.{Appends}
use Rattle.pw_outer.specs.Counts.{Rose, raised}
use Rattle.pw_outer.specs.declared.sinks.PutFault.{PutFault}
use Rattle.pw_outer.specs.declared.sinks.PutFault.TheVariants.{Failed, Memory}

-- what was taken grew by these bytes, where the sink tells it
abbrev pub Grew : Option (List ℕ) → Option (List ℕ) → List ℕ → Type 0
Grew None new bytes = new ≡ None
Grew (Some taken) new bytes = new ≡ Some (taken ++ bytes)

-- it grew by a front of these bytes
abbrev pub GrewByFront : Option (List ℕ) → Option (List ℕ) → List ℕ → Type 0
GrewByFront old new bytes = (n : ℕ) × Grew old new (take n bytes)

-- all bytes are taken with `Ok`, and a front of them with an error
abbrev pub Took : {T : Type 0} → Option (List ℕ) → Option (List ℕ) → List ℕ → Result T PutFault → Type 0
Took old new bytes (Ok _) = Grew old new bytes
Took old new bytes (Err _) = GrewByFront old new bytes

-- a failure shows in the count
abbrev pub HasPutCause : {T : Type 0} → ℕ → ℕ → Result T PutFault → Type 0
HasPutCause old new (Ok _) = ⊤
HasPutCause old new (Err Failed) = Rose old new
HasPutCause old new (Err Memory) = ⊤

-- the count after an answer, where a failure counts itself and nothing else
abbrev pub faults_after : {T : Type 0} → ℕ → Result T PutFault → ℕ
faults_after old (Ok _) = old
faults_after old (Err Failed) = raised old
faults_after old (Err Memory) = old

-- a writer that tells its bytes has a front of these more
abbrev pub AppendsFront : Option (List ℕ) → Option (List ℕ) → List ℕ → Type 0
AppendsFront old new bytes = (n : ℕ) × Appends old new (take n bytes)
