-- A search through the graph of modules, depth first, with the modules that it is inside on a stack.
use Rattle.std.specs.Prelude.{◌≡◌, ◌≤◌, ℕ, List, [], Option, Some, None, option_and_then, slice_get, take}
use Rattle.pw_defs.specs.declared.design.Body.{Body}
use Rattle.pw_defs.specs.declared.design.Body.TheVariants.{Module as ModuleBody, Cell as CellBody, Model as ModelBody}
use Rattle.list_defs.specs.Members.{IsIn}
use Rattle.net_hierarchy.specs.Graph.{HasCycle, Holds, IsOrder, Leads, Types}
use Rattle.net_hierarchy.specs.declared.search.Frame.{Frame}
use Rattle.net_hierarchy.specs.declared.search.Mark.{Mark}
use Rattle.net_hierarchy.specs.declared.search.Mark.TheVariants.{New, Open, Done}
use Rattle.net_hierarchy.specs.declared.search.Item.{Item}
use Rattle.net_hierarchy.specs.declared.search.Item.TheVariants.{End, Leaf, Module as ModuleItem}
use Rattle.net_hierarchy.specs.declared.search.Step.{Step}
use Rattle.net_hierarchy.specs.declared.search.Step.TheVariants.{Goes, Ends, Returns}

-- the modules that a module holds before a place are all in the order
abbrev pub AreDoneTo : Types → List ℕ → Frame → Type 0
AreDoneTo types order f = (row : List (Option Body)) (k : ℕ) → slice_get types f.number ≡ Some row → IsIn (Some (ModuleBody k)) (take f.next row) → IsIn k order

-- What holds after each step: the order so far, the modules on the stack, each below the one before, and the marks of both.
pub record IsSearch (types : Types) (top : ℕ) (marks : List Mark) (order : List ℕ) (stack : List Frame) : Type 0 where
  pub behind : (at n k : ℕ) → slice_get order at ≡ Some n → Holds types n k → IsIn k (take at order)
  pub reached : (n : ℕ) → IsIn n order → Leads types top n
  pub done : (n : ℕ) → slice_get marks n ≡ Some Done → IsIn n order
  pub open_there : (n : ℕ) → slice_get marks n ≡ Some Open → (at : ℕ) × (f : Frame) × (slice_get stack at ≡ Some f) × (f.number ≡ n)
  pub done_to : (at : ℕ) (f : Frame) → slice_get stack at ≡ Some f → AreDoneTo types order f
  pub from_top : (at : ℕ) (f : Frame) → slice_get stack at ≡ Some f → Leads types top f.number
  pub downward : (at below : ℕ) (f g : Frame) → slice_get stack at ≡ Some f → slice_get stack below ≡ Some g → at ≤ below → Leads types f.number g.number
  pub first : (f : Frame) → slice_get stack 0 ≡ Some f → f.number ≡ top
  pub last : stack ≡ [] → IsIn top order

-- what a step says
abbrev pub IsStepped : Types → ℕ → List Mark → List ℕ → List Frame → Step → Type 0
IsStepped types top marks order stack Goes = IsSearch types top marks order stack
IsStepped types top marks order stack Ends = IsOrder types top order
IsStepped types top marks order stack Returns = HasCycle types top

-- what stands at a place of a row
abbrev pub item_of : Option (Option Body) → Item
item_of None = End
item_of (Some None) = Leaf
item_of (Some (Some (ModuleBody k))) = ModuleItem k
item_of (Some (Some (CellBody c))) = Leaf
item_of (Some (Some (ModelBody m))) = Leaf

-- what stands at the next place of a module
abbrev pub item_at : Types → Frame → Item
item_at types f = item_of (option_and_then (λ row. slice_get row f.next) (slice_get types f.number))

-- how far a module has been looked at
abbrev pub mark_of : Option Mark → Mark
mark_of None = New
mark_of (Some mark) = mark

abbrev pub mark_at : List Mark → ℕ → Mark
mark_at marks n = mark_of (slice_get marks n)
