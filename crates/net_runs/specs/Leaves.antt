-- What the names and constants of expressions stand for.
use Rattle.std.specs.Prelude.{◌≡◌, ◌≢◌, ℕ, Bool, true, false, ◌++◌, ◌+◌, ◌-◌, ◌≤◌, ◌^◌, nat_le, min, if◌then◌else◌, List, [], ◌∷◌, Option, Some, None}
use Rattle.std.specs.List.{AllZip, flat_map}
use Rattle.pw_defs.specs.declared.design.Body.TheVariants.{Module as ModuleBody}
use Rattle.pw_defs.specs.declared.netlist.Expr.{Expr}
use Rattle.pw_defs.specs.declared.netlist.Module.{Module}
use Rattle.list_defs.specs.Members.{IsIn}
use Rattle.design_defs.specs.Hierarchy.{Sources}
use Rattle.design_defs.specs.Places.{Signal, exprs_in, misselected, names_in, signals}
use Rattle.design_defs.specs.Ranges.{place_at}
use Rattle.module_rows.specs.declared.plain.Netlist.{Netlist}
use Rattle.module_rows.specs.Leaves.{own_leaf}
use Rattle.module_rows.specs.Reads.{HasLeavesFrom, numbered_expr}
use Rattle.net_runs.specs.declared.runs.Run.{Run}
use Rattle.net_runs.specs.declared.runs.Run.TheVariants.{Bits}
use Rattle.net_runs.specs.LocalNumbers.{IsSignalBit, run_bits}

-- the bits from one place to another of a net whose first bit has a number; sums stay within 64 bits
abbrev pub run_between : ℕ → Option ℕ → Option ℕ → Option Run
run_between first None right = None
run_between first (Some left) None = None
run_between first (Some left) (Some right) = if nat_le left right then Some (Bits (min (first + left) (2 ^ 64 - 1)) (right - left + 1)) else None

-- the bits from one index to another, in the direction of the range
abbrev pub part_run : ℕ → Option (ℕ × ℕ) → ℕ → ℕ → Option Run
part_run first None left right = None
part_run first (Some range) left right = run_between first (place_at range left) (place_at range right)

-- the bits of a run are the signals, from the left
abbrev pub AreRunOf : Sources → ℕ → List Signal → Run → Type 0
AreRunOf s number named run = AllZip (IsSignalBit s (ModuleBody number)) named (run_bits run)

-- a run is what is selected; there is none where nothing can be selected so
abbrev pub IsSelection : Sources → ℕ → Option (List Signal) → Option Run → Type 0
IsSelection s number chosen None = chosen ≡ None
IsSelection s number chosen (Some run) = (named : List Signal) × (chosen ≡ Some named) × AreRunOf s number named run

-- A run is what a name or a constant stands for in the module of a number; there is none where the name is selected
-- wrongly, or is that of an instance.
abbrev pub IsRun : Sources → ℕ → Module → Expr → Option Run → Type 0
IsRun s number m e None = (name : List ℕ) × (misselected m e ≡ name ∷ []) × (names_in e ≡ name ∷ [])
IsRun s number m e (Some run) = (misselected m e ≡ []) × AreRunOf s number (signals m e) run

-- the same of the name or constant that an expression is itself; for a concatenation, which is none, an empty run
abbrev pub IsLeafRun : Sources → ℕ → Module → Expr → Option Run → Type 0
IsLeafRun s number m e None = (name : List ℕ) × (flat_map (misselected m) (own_leaf e) ≡ name ∷ []) × (flat_map names_in (own_leaf e) ≡ name ∷ [])
IsLeafRun s number m e (Some run) = (flat_map (misselected m) (own_leaf e) ≡ []) × AreRunOf s number (flat_map (signals m) (own_leaf e)) run

-- the expression of a number is one in the lines of a module, or a part of one
pub record StandsIn (n : Netlist) (m : Module) (k : ℕ) : Type 0 where
  pub all : ℕ
  pub first : ℕ
  pub in_lines : IsIn (numbered_expr n all) (exprs_in m)
  pub leaves : HasLeavesFrom n all first
  pub behind : first ≤ k
  pub before : k ≤ all

-- the bits of runs, one run after the other
abbrev pub runs_bits : List Run → List (Option ℕ)
runs_bits = flat_map run_bits

-- the run of an expression is added, where there is one
abbrev pub AddsRun : Sources → ℕ → Module → Expr → List Run → List Run → Bool → Type 0
AddsRun s number m e old new true = (run : Run) × (new ≡ old ++ run ∷ []) × IsLeafRun s number m e (Some run)
AddsRun s number m e old new false = IsLeafRun s number m e None

-- the runs are what some expressions stand for by themselves, from the left
pub record AreRunsOf (s : Sources) (number : ℕ) (m : Module) (es : List Expr) (runs : List Run) : Type 0 where
  pub right : flat_map (misselected m) es ≡ []
  pub bits : AllZip (IsSignalBit s (ModuleBody number)) (flat_map (signals m) es) (runs_bits runs)

-- the runs are what an expression stands for, from the left, or something in it is selected wrongly
abbrev pub AreRuns : Sources → ℕ → Module → Expr → List Run → Bool → Type 0
AreRuns s number m e runs true = (misselected m e ≡ []) × AllZip (IsSignalBit s (ModuleBody number)) (signals m e) (runs_bits runs)
AreRuns s number m e runs false = misselected m e ≢ []
