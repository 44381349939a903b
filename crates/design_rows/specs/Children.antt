-- What is inside an instance, by name.
use Rattle.std.specs.Prelude.{◌≡◌, ◌≢◌, ℕ, ◌<◌, List, [], Some, length}
use Rattle.std.specs.Ordering.{nat_cmp, on, then_cmp}
use Rattle.std.specs.declared.cmp.Ordering.{Ordering}
use Rattle.pw_defs.specs.declared.design.Design.{Design}
use Rattle.list_defs.specs.Orders.{AreAllRising, name_cmp}
use Rattle.design_defs.specs.Joined.{parent_of, path_of}
use Rattle.design_defs.specs.Names.{joined}
use Rattle.design_rows.specs.declared.tables.Rows.{Rows}
use Rattle.design_rows.specs.View.{inst_at, name_at}

-- an instance by what it is inside and by its own name
abbrev pub key_of : Rows → ℕ → ℕ × List ℕ
key_of r n = ((inst_at r n).parent, name_at r (inst_at r n).name)

-- keys go by what is inside the same instance, then by name
abbrev pub key_cmp : ℕ × List ℕ → ℕ × List ℕ → Ordering
key_cmp = then_cmp (on (λ (k : ℕ × List ℕ). k.0) nat_cmp) (on (λ (k : ℕ × List ℕ). k.1) name_cmp)

abbrev pub child_cmp : Rows → ℕ → ℕ → Ordering
child_cmp r = on (key_of r) key_cmp

-- an instance that is inside another one: each but the first
abbrev pub IsInner : Rows → ℕ → Type 0
IsInner r n = (0 < n) × (n < length r.insts)

-- the children are all instances that are inside others, in order
abbrev pub HasChildren : Rows → Type 0
HasChildren r = AreAllRising (child_cmp r) (IsInner r) r.children

-- no instance inside another one has the empty name
abbrev pub HasNames : Rows → Type 0
HasNames r = (n : ℕ) → IsInner r n → name_at r (inst_at r n).name ≢ []

-- an instance that is inside this one and has this name there
pub record IsChild (r : Rows) (outer : ℕ) (name : List ℕ) (n : ℕ) : Type 0 where
  pub inner : IsInner r n
  pub inside : (inst_at r n).parent ≡ outer
  pub named : name_at r (inst_at r n).name ≡ name

-- two instances inside one have one name there
pub record HasNameTwice (r : Rows) : Type 0 where
  pub outer : ℕ
  pub name : List ℕ
  pub one : ℕ
  pub other : ℕ
  pub two : one ≢ other
  pub is_one : IsChild r outer name one
  pub is_other : IsChild r outer name other

-- In a design an instance is inside another one, and its path is this name joined to that one's path.
pub record IsNamedInside (d : Design) (outer : ℕ) (name : List ℕ) (n : ℕ) : Type 0 where
  pub inside : parent_of d n ≡ Some (Some outer)
  pub path : List ℕ
  pub path_of_outer : path_of d outer ≡ Some path
  pub path_there : path_of d n ≡ Some (joined path name)

-- nothing inside the instance has the name
abbrev pub HasNoneInside : Design → ℕ → List ℕ → Type 0
HasNoneInside d outer name = (n : ℕ) → IsNamedInside d outer name n → ⊥

-- whatever is inside an instance has a name there, which isn't empty
abbrev pub HasNamesInside : Design → Type 0
HasNamesInside d = (n outer : ℕ) → parent_of d n ≡ Some (Some outer) → (name : List ℕ) × (name ≢ []) × IsNamedInside d outer name n
