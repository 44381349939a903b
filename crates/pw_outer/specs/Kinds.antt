-- What contracts see of each kind of shelf and sink.
use Rattle.std.specs.Prelude.{◌≡◌, ℕ, Bool, List, [], ◌∷◌, ◌++◌, take, Option, None, Some, Result, Ok, Err, IsSomeAnd, ◌==◌, if◌then◌else◌}
use Rattle.std.specs.List.{list_any}
use Rattle.pw_outer.specs.Counts.{Counts}
use Rattle.pw_outer.specs.Fetches.{Files}
use Rattle.pw_outer.specs.declared.sinks.PutFault.{PutFault}
use Rattle.pw_outer.specs.declared.sinks.PutFault.TheVariants.{Failed, Memory}

-- files in memory, and how often one was absent or too long
pub record HeldFiles : Type 0 where
  pub files : Files
  pub misses : ℕ
  pub overs : ℕ

-- such files behind a shelf that fails at the calls whose numbers are listed
pub record FailingFiles : Type 0 where
  pub held : HeldFiles
  pub failing : List ℕ
  pub calls : ℕ
  pub faults : ℕ

-- the path of a folder, and the counts of the shelf before it
pub record Folder : Type 0 where
  pub dir : List ℕ
  pub counts : Counts

-- a writer, and how often it failed
pub record Stream (W : Type 0) : Type 0 where
  pub writer : W
  pub faults : ℕ

-- the counts of a shelf that never fails
abbrev pub counts_of : HeldFiles → Counts
counts_of shelf = record { faults = 0; misses = shelf.misses; overs = shelf.overs }

abbrev pub counts_of_failing : FailingFiles → Counts
counts_of_failing shelf = record { faults = shelf.faults; misses = shelf.held.misses; overs = shelf.held.overs }

-- whether the number of a call is listed
abbrev pub is_listed : List ℕ → ℕ → Bool
is_listed failing call = list_any (λ at. at == call) failing

-- bytes that were taken, by a sink that fails at the listed calls after so many bytes of each
pub record FailingSink : Type 0 where
  pub taken : List ℕ
  pub failing : List (ℕ × ℕ)
  pub calls : ℕ
  pub faults : ℕ

-- how many bytes are taken before the failure of this call, if it is listed
abbrev pub failure_of : List (ℕ × ℕ) → ℕ → Option ℕ
failure_of [] call = None
failure_of (listed ∷ more) call = if listed.0 == call then Some listed.1 else failure_of more call

-- what a sink that may fail took by a call: all, or so many bytes of them where it failed, or nothing where memory ran out
abbrev pub TookBefore : {T : Type 0} → Option ℕ → List ℕ → List ℕ → List ℕ → Result T PutFault → Type 0
TookBefore failure old new bytes (Ok _) = (failure ≡ None) × (new ≡ old ++ bytes)
TookBefore failure old new bytes (Err Failed) = IsSomeAnd failure (λ most. new ≡ old ++ take most bytes)
TookBefore failure old new bytes (Err Memory) = new ≡ old
