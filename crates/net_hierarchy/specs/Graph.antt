-- The graph of modules: which modules each one holds, by the types of its instances.
use Rattle.std.specs.Prelude.{◌≡◌, ℕ, List, Option, Some, None, map, slice_get, take, true}
use Rattle.pw_defs.specs.declared.design.Body.{Body}
use Rattle.pw_defs.specs.declared.design.Body.TheVariants.{Module as ModuleBody}
use Rattle.pw_defs.specs.declared.netlist.Inst.{Inst}
use Rattle.pw_defs.specs.declared.netlist.Module.{Module}
use Rattle.list_defs.specs.Members.{IsIn, all_differ, same_name}
use Rattle.design_defs.specs.Hierarchy.{Sources, module_at, type_of}

-- the types of the instances of each module
abbrev pub Types : Type 0
Types = List (List (Option Body))

-- the types that modules, cells and models give the instances
abbrev pub types_of : Sources → Types
types_of s = map (λ (m : Module). map (λ (i : Inst). type_of s i.kind) m.insts) s.modules

-- the module of one number holds an instance of the module of another
pub record Holds (types : Types) (n k : ℕ) : Type 0 where
  pub row : List (Option Body)
  pub is_row : slice_get types n ≡ Some row
  pub one : IsIn (Some (ModuleBody k)) row

-- the module of the second number is that of the first, or somewhere below it
pub data Leads (types : Types) : ℕ → ℕ → Type 0 where
  here : (n : ℕ) → Leads types n n
  further : (n m k : ℕ) → Leads types n m → Holds types m k → Leads types n k

-- below the top a module comes back to itself
pub record HasCycle (types : Types) (top : ℕ) : Type 0 where
  pub upper : ℕ
  pub lower : ℕ
  pub reached : Leads types top upper
  pub downward : Leads types upper lower
  pub back : Holds types lower upper

-- All modules below the top and no others, each behind those that it holds.
pub record IsOrder (types : Types) (top : ℕ) (order : List ℕ) : Type 0 where
  pub with_top : IsIn top order
  pub behind : (at n k : ℕ) → slice_get order at ≡ Some n → Holds types n k → IsIn k (take at order)
  pub reached : (n : ℕ) → IsIn n order → Leads types top n

-- no module has two instances of one name
abbrev pub AreInstsApart : Sources → Type 0
AreInstsApart s = (n : ℕ) (m : Module) → module_at s n ≡ Some m → all_differ same_name (map (λ (i : Inst). i.name) m.insts) ≡ true

-- one of the modules in the order has an instance whose type isn't there
pub record HasUnknown (types : Types) (order : List ℕ) : Type 0 where
  pub n : ℕ
  pub row : List (Option Body)
  pub in_order : IsIn n order
  pub is_row : slice_get types n ≡ Some row
  pub unknown : IsIn None row
