-- What a fetch answers and leaves.
use Rattle.std.specs.Prelude.{◌≡◌, ℕ, ◌+◌, ◌<◌, ◌≤◌, List, [], ◌∷◌, length, take, Option, None, Some, Result, Ok, Err, IsSomeAnd, unwrap_or, if◌then◌else◌, ⊤}
use Rattle.list_defs.specs.Members.{same_name}
use Rattle.pw_outer.specs.Counts.{Counts, Rose, raised}
use Rattle.pw_outer.specs.declared.shelves.TheConstants.{LONGEST_FILE}
use Rattle.pw_outer.specs.declared.shelves.ShelfFault.{ShelfFault}
use Rattle.pw_outer.specs.declared.shelves.ShelfFault.TheVariants.{Absent, TooLong, Failed, Memory}

-- names, each with the bytes of its file
abbrev pub Files : Type 0
Files = List (List ℕ × List ℕ)

-- the bytes of the first file of this name
abbrev pub file_named : List ℕ → Files → Option (List ℕ)
file_named name [] = None
file_named name (file ∷ files) = if same_name name file.0 then Some file.1 else file_named name files

-- the bytes are a front of the file, of which there are none where there is no file
abbrev pub IsFrontOf : Option (List ℕ) → List ℕ → Type 0
IsFrontOf held bytes = (n : ℕ) × (bytes ≡ take n (unwrap_or held []))

-- what a shelf that tells what it holds under a name answers, and the bytes that it leaves
abbrev pub Fetched : {T : Type 0} → Option (List ℕ) → Result T ShelfFault → List ℕ → Type 0
Fetched held (Ok _) bytes = IsSomeAnd held (λ file. (bytes ≡ file) × (length file ≤ LONGEST_FILE))
Fetched held (Err Absent) bytes = held ≡ None
Fetched held (Err TooLong) bytes = IsSomeAnd held (λ file. (bytes ≡ take (LONGEST_FILE + 1) file) × (LONGEST_FILE < length file))
Fetched held (Err Failed) bytes = IsFrontOf held bytes
Fetched held (Err Memory) bytes = IsFrontOf held bytes

-- how many bytes any shelf leaves with its answer
abbrev pub LeavesBytes : {T : Type 0} → Result T ShelfFault → List ℕ → Type 0
LeavesBytes (Ok _) bytes = length bytes ≤ LONGEST_FILE
LeavesBytes (Err Absent) bytes = bytes ≡ []
LeavesBytes (Err TooLong) bytes = length bytes ≡ LONGEST_FILE + 1
LeavesBytes (Err Failed) bytes = length bytes ≤ LONGEST_FILE + 1
LeavesBytes (Err Memory) bytes = length bytes ≤ LONGEST_FILE + 1

-- the number that rose, which shows the cause of the answer
abbrev pub HasFetchCause : {T : Type 0} → Counts → Counts → Result T ShelfFault → Type 0
HasFetchCause old new (Ok _) = ⊤
HasFetchCause old new (Err Absent) = Rose old.misses new.misses
HasFetchCause old new (Err TooLong) = Rose old.overs new.overs
HasFetchCause old new (Err Failed) = Rose old.faults new.faults
HasFetchCause old new (Err Memory) = ⊤

-- the counts after an answer, where each counts itself and nothing else
abbrev pub counts_after : {T : Type 0} → Counts → Result T ShelfFault → Counts
counts_after old (Ok _) = old
counts_after old (Err Absent) = record old { misses = raised old.misses }
counts_after old (Err TooLong) = record old { overs = raised old.overs }
counts_after old (Err Failed) = record old { faults = raised old.faults }
counts_after old (Err Memory) = old
