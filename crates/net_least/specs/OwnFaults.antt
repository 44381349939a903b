-- The faults that a module has wherever it stands, the least of them for each module.
use Rattle.std.specs.Prelude.{◌≡◌, ◌≢◌, ℕ, List, Option, Some, None, MatchOption, slice_get}
use Rattle.std.specs.Ordering.{nat_cmp, on, then_cmp}
use Rattle.std.specs.declared.cmp.Ordering.{Ordering}
use Rattle.std.specs.declared.cmp.Ordering.TheVariants.{Less}
use Rattle.pw_defs.specs.declared.faults.AtModule.{AtModule}
use Rattle.pw_defs.specs.declared.netlist.Module.{Module}
use Rattle.list_defs.specs.Orders.{name_cmp}
use Rattle.design_defs.specs.DesignFaults.{FaultKind, HasFirstFault, IsFault, answer_of, at_line}
use Rattle.design_defs.specs.Hierarchy.{IsOfModule, Sources, Way, module_at}
use Rattle.net_hierarchy.specs.Ordered.{HasNoneOf}
use Rattle.net_least.specs.declared.own.OwnFault.{OwnFault}

-- the kinds of faults that a module has wherever it stands
pub data IsOfLines : FaultKind → Type 0 where
  unknown_type : IsOfLines FaultKind.unknown_type
  unknown_port : IsOfLines FaultKind.unknown_port
  wrong_width : IsOfLines FaultKind.wrong_width

-- faults of one module go by line, then by name
abbrev pub line_cmp : ℕ × List ℕ → ℕ × List ℕ → Ordering
line_cmp = then_cmp (on (λ (x : ℕ × List ℕ). x.0) nat_cmp) (on (λ (x : ℕ × List ℕ). x.1) name_cmp)

-- an instance of the module has such a fault at a line
pub record IsFaultIn (s : Sources) (kind : FaultKind) (n line : ℕ) (name : List ℕ) : Type 0 where
  pub way : Way
  pub m : Module
  pub of_module : IsOfModule s way n m
  pub fault : IsFault s (at_line kind way n line name)

-- each instance of the module has this fault, and none has one at a line or with a name before it
pub record IsLeastIn (s : Sources) (kind : FaultKind) (n line : ℕ) (name : List ℕ) : Type 0 where
  pub each : (way : Way) (m : Module) → IsOfModule s way n m → IsFault s (at_line kind way n line name)
  pub least : (l : ℕ) (x : List ℕ) → IsFaultIn s kind n l x → line_cmp (l, x) (line, name) ≢ Less

-- the least fault of a kind that a module has, by the spellings of symbols, or that it has none
abbrev pub IsOwn : Sources → FaultKind → List (List ℕ) → ℕ → Option OwnFault → Type 0
IsOwn s kind symbols n None = (line : ℕ) (name : List ℕ) → IsFaultIn s kind n line name → ⊥
IsOwn s kind symbols n (Some own) = (name : List ℕ) × (slice_get symbols own.name ≡ Some name) × IsLeastIn s kind n own.line name

-- the same for each module
abbrev pub AreOwn : Sources → FaultKind → List (List ℕ) → List (Option OwnFault) → Type 0
AreOwn s kind symbols own = (n : ℕ) (m : Module) → module_at s n ≡ Some m → (o : Option OwnFault) × (slice_get own n ≡ Some o) × IsOwn s kind symbols n o

-- the fault of its own of a module
abbrev pub own_or_none : Option (Option OwnFault) → Option OwnFault
own_or_none None = None
own_or_none (Some own) = own

abbrev pub own_at : List (Option OwnFault) → ℕ → Option OwnFault
own_at own n = own_or_none (slice_get own n)

-- the design has no fault of a kind, or its first fault is one and stands here
abbrev pub IsFirstOf : Sources → FaultKind → Option AtModule → Type 0
IsFirstOf s kind found = MatchOption found (HasNoneOf s kind) (λ at. HasFirstFault s (answer_of kind at))
