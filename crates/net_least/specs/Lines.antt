-- The first line of a module that makes an instance of which something holds.
use Rattle.std.specs.Prelude.{◌≡◌, ◌≢◌, ◌⊎◌, ℕ, List, Option, Some, None, slice_get}
use Rattle.std.specs.declared.cmp.Ordering.TheVariants.{Less}
use Rattle.pw_defs.specs.declared.netlist.Inst.{Inst}
use Rattle.list_defs.specs.Members.{IsIn}
use Rattle.design_defs.specs.Hierarchy.{Sources, type_of}
use Rattle.net_least.specs.OwnFaults.{line_cmp}
use Rattle.net_least.specs.declared.own.OwnFault.{OwnFault}

-- the line and the kind of an instance of which it holds, and none of these at a line or of a kind before it is so
pub record IsFirstLine (P : Inst → Type 0) (symbols : List (List ℕ)) (insts : List Inst) (own : OwnFault) : Type 0 where
  pub i : Inst
  pub one : IsIn i insts
  pub holds : P i
  pub line : own.line ≡ i.line
  pub name : slice_get symbols own.name ≡ Some i.kind
  pub least : (other : Inst) → IsIn other insts → P other → line_cmp (other.line, other.kind) (i.line, i.kind) ≢ Less

-- the first of them, or that there is none
abbrev pub IsLeastLine : (Inst → Type 0) → List (List ℕ) → List Inst → Option OwnFault → Type 0
IsLeastLine P symbols insts None = (i : Inst) → IsIn i insts → P i → ⊥
IsLeastLine P symbols insts (Some own) = IsFirstLine P symbols insts own

-- of a fault that was found before and the next, this is the first
abbrev pub IsFirstOwn : List (List ℕ) → Option OwnFault → OwnFault → OwnFault → Type 0
IsFirstOwn symbols best next result =
    (before : OwnFault) (x y : List ℕ) → best ≡ Some before → slice_get symbols before.name ≡ Some x → slice_get symbols next.name ≡ Some y
    → ((line_cmp (next.line, y) (before.line, x) ≡ Less) × (result ≡ next)) ⊎ ((line_cmp (next.line, y) (before.line, x) ≢ Less) × (result ≡ before))

-- the same where the next is the line and the kind of an instance
pub record IsInstOwn (symbols : List (List ℕ)) (i : Inst) (best : Option OwnFault) (own : OwnFault) : Type 0 where
  pub next : OwnFault
  pub line : next.line ≡ i.line
  pub name : slice_get symbols next.name ≡ Some i.kind
  pub one : best ≡ None → own ≡ next
  pub first : IsFirstOwn symbols best next own

abbrev pub IsNextOwn : List (List ℕ) → Inst → Option OwnFault → Option OwnFault → Type 0
IsNextOwn symbols i best None = ⊥
IsNextOwn symbols i best (Some own) = IsInstOwn symbols i best own

-- an instance of a type that isn't there
abbrev pub IsUnknown : Sources → Inst → Type 0
IsUnknown s i = type_of s i.kind ≡ None
