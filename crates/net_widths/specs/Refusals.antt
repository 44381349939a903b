-- What the lines of a module have wrong wherever it stands: connections that name no port of the type, names that are
-- selected wrongly, and widths that differ.
use Rattle.std.specs.Prelude.{◌≡◌, ◌≢◌, ℕ, ◌==◌, ⊤, List, [], ◌∷◌, ◌++◌, Option, Some, None, length, map, option_map, slice_get, if◌then◌else◌}
use Rattle.std.specs.List.{flat_map}
use Rattle.std.specs.declared.cmp.Ordering.TheVariants.{Less}
use Rattle.pw_defs.specs.declared.design.Body.{Body}
use Rattle.pw_defs.specs.declared.netlist.Assign.{Assign}
use Rattle.pw_defs.specs.declared.netlist.Conn.{Conn}
use Rattle.pw_defs.specs.declared.netlist.Expr.{Expr}
use Rattle.pw_defs.specs.declared.netlist.Inst.{Inst}
use Rattle.pw_defs.specs.declared.netlist.Module.{Module}
use Rattle.pw_defs.specs.declared.netlist.Port.{Port}
use Rattle.list_defs.specs.Members.{IsIn}
use Rattle.design_defs.specs.Hierarchy.{Sources, module_at, type_of}
use Rattle.design_defs.specs.Links.{port_of_conn}
use Rattle.design_defs.specs.Places.{misselected, names_in, signals}
use Rattle.design_defs.specs.Ranges.{width}
use Rattle.net_least.specs.OwnFaults.{line_cmp}
use Rattle.net_least.specs.declared.own.OwnFault.{OwnFault}

-- a line, and a name that is refused there
abbrev pub Refusal : Type 0
Refusal = ℕ × List ℕ

-- names that are refused at one line
abbrev pub at_one_line : ℕ → List (List ℕ) → List Refusal
at_one_line line = map (λ name. (line, name))

-- the first of names
abbrev pub first_of : List (List ℕ) → List (List ℕ)
first_of [] = []
first_of (name ∷ names) = name ∷ []

-- the name of a connection whose instance is of a type without such a port
abbrev pub without_port : Conn → Option Body → Option Port → List (List ℕ)
without_port c None port = []
without_port c (Some body) None = c.port ∷ []
without_port c (Some body) (Some port) = []

-- what the connections of a module name that is no port of the type
abbrev pub ports_of_conn : Sources → Inst → Conn → List Refusal
ports_of_conn s i c = at_one_line i.line (without_port c (type_of s i.kind) (port_of_conn s i c))

abbrev pub ports_of_inst : Sources → Inst → List Refusal
ports_of_inst s i = flat_map (ports_of_conn s i) i.conns

abbrev pub ports_of_module : Sources → Module → List Refusal
ports_of_module s m = flat_map (ports_of_inst s) m.insts

-- how many bits there are, where nothing is selected wrongly
abbrev pub right_width : List (List ℕ) → ℕ → Option ℕ
right_width [] count = Some count
right_width (name ∷ names) count = None

-- how many bits an expression names, where it selects nothing wrongly
abbrev pub width_of : Module → Expr → Option ℕ
width_of m e = right_width (misselected m e) (length (signals m e))

-- where two widths are there and differ, the first of some names
abbrev pub unequal : Option ℕ → Option ℕ → List (List ℕ) → List (List ℕ)
unequal None right names = []
unequal (Some left) None names = []
unequal (Some left) (Some right) names = if left == right then [] else first_of names

-- what is connected: the names that it selects wrongly, and that of the port where the widths differ
abbrev pub names_of_connected : Module → List ℕ → Option Port → Option Expr → List (List ℕ)
names_of_connected m name port None = []
names_of_connected m name port (Some e) = misselected m e ++ unequal (width_of m e) (option_map (λ (p : Port). width p.range) port) (name ∷ [])

-- what an assignment selects wrongly, and the first name of its left side where the widths differ
abbrev pub names_of_assign : Module → Assign → List (List ℕ)
names_of_assign m a = (misselected m a.left ++ misselected m a.right) ++ unequal (width_of m a.left) (width_of m a.right) (names_in a.left)

-- what the lines of a module have wrong in their widths and selects
abbrev pub widths_of_conn : Sources → Module → Inst → Conn → List Refusal
widths_of_conn s m i c = at_one_line i.line (names_of_connected m c.port (port_of_conn s i c) c.expr)

abbrev pub widths_of_inst : Sources → Module → Inst → List Refusal
widths_of_inst s m i = flat_map (widths_of_conn s m i) i.conns

abbrev pub widths_of_assign : Module → Assign → List Refusal
widths_of_assign m a = at_one_line a.line (names_of_assign m a)

abbrev pub widths_of_module : Sources → Module → List Refusal
widths_of_module s m = flat_map (widths_of_inst s m) m.insts ++ flat_map (widths_of_assign m) m.assigns

-- one of the refusals, by the spelling of a symbol, and none of them is at a line or of a name before it
pub record IsFirst (symbols : List (List ℕ)) (refusals : List Refusal) (own : OwnFault) : Type 0 where
  pub name : List ℕ
  pub is_name : slice_get symbols own.name ≡ Some name
  pub one : IsIn (own.line, name) refusals
  pub least : (other : Refusal) → IsIn other refusals → line_cmp other (own.line, name) ≢ Less

-- the first of them, or that there is none
abbrev pub IsFirstOf : List (List ℕ) → List Refusal → Option OwnFault → Type 0
IsFirstOf symbols refusals None = (x : Refusal) → IsIn x refusals → ⊥
IsFirstOf symbols refusals (Some own) = IsFirst symbols refusals own

-- the first of what was found so far and of some more
abbrev pub Finds : List (List ℕ) → Option OwnFault → Option OwnFault → List Refusal → Type 0
Finds symbols best result more = (before : List Refusal) → IsFirstOf symbols before best → IsFirstOf symbols (before ++ more) result

-- the first of each module
abbrev pub AreFirst : Sources → (Module → List Refusal) → List (List ℕ) → List (Option OwnFault) → Type 0
AreFirst s refusals symbols own = (n : ℕ) (m : Module) → module_at s n ≡ Some m → (o : Option OwnFault) × (slice_get own n ≡ Some o) × IsFirstOf symbols (refusals m) o

-- the symbol of the first of names, where there is one
abbrev pub IsFirstName : List (List ℕ) → List (List ℕ) → Option ℕ → Type 0
IsFirstName symbols [] None = ⊤
IsFirstName symbols [] (Some symbol) = ⊥
IsFirstName symbols (name ∷ names) None = ⊥
IsFirstName symbols (name ∷ names) (Some symbol) = slice_get symbols symbol ≡ Some name
