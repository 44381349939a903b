-- What the sinks get.
use Rattle.std.specs.Prelude.{◌≡◌, ◌⊎◌, ℕ, Bool, List, Option}
use Rattle.pw_defs.specs.declared.status.Status.{Status}
use Rattle.pw_defs.specs.declared.status.Status.TheVariants.{Refused as RefusedStatus, Usage as UsageStatus, Bound as BoundStatus, Outside as OutsideStatus, Memory as MemoryStatus}
use Rattle.pw_outer.specs.Counts.{Rose}
use Rattle.pw_outer.specs.Puts.{Grew, GrewByFront}
use Rattle.upf_sign.specs.declared.planning.Stop.{Stop}
use Rattle.upf_sign.specs.declared.planning.Stop.TheVariants.{Usage, Refused, Bound, Outside, Memory}
use Rattle.upf_sign.specs.RefusalText.{refusal_text, usage_line, bound_line, outside_line, memory_line}
use Rattle.upf_sign.specs.Runs.{TookLine, status_of}

-- the line was put and the status stands, or memory ran out with a front of the line
abbrev pub Says : List ℕ → Status → Status → Option (List ℕ) → Option (List ℕ) → ℕ → ℕ → Type 0
Says line status result old new faults more = ((result ≡ status) × TookLine old new faults more line) ⊎ ((result ≡ MemoryStatus) × GrewByFront old new line)

-- what is said of each reason
abbrev pub Tells : Stop → Status → Option (List ℕ) → Option (List ℕ) → ℕ → ℕ → Type 0
Tells Usage result old new faults more = Says usage_line UsageStatus result old new faults more
Tells (Refused r) result old new faults more = Says (refusal_text r) RefusedStatus result old new faults more ⊎ Says memory_line MemoryStatus result old new faults more
Tells Bound result old new faults more = Says bound_line BoundStatus result old new faults more
Tells Outside result old new faults more = Says outside_line OutsideStatus result old new faults more
Tells Memory result old new faults more = Says memory_line MemoryStatus result old new faults more

-- The report was put whole, with its status and nothing else said; or the sink failed or memory ran out with a front
-- of it, which is said.
pub data Delivers (text : List ℕ) (clean : Bool) (result : Status) (old new : Option (List ℕ)) (faults more : ℕ) (Same : Type 0) (Said : List ℕ → Status → Type 0) : Type 0 where
  whole : result ≡ status_of clean → Grew old new text → Same → Delivers text clean result old new faults more Same Said
  failed : GrewByFront old new text → Rose faults more → Said outside_line OutsideStatus → Delivers text clean result old new faults more Same Said
  out_of_memory : GrewByFront old new text → Said memory_line MemoryStatus → Delivers text clean result old new faults more Same Said
