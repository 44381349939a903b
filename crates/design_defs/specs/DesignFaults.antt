-- What can be wrong with a design, where each fault stands, and which one comes first.
use Rattle.std.specs.Prelude.{◌≡◌, ◌≢◌, ℕ, ◌<◌, true, List, [], ◌∷◌, ◌++◌, Option, Some, None, length, slice_get, codes, ◌≤◌}
use Rattle.std.specs.Ordering.{nat_cmp, on, then_cmp}
use Rattle.std.specs.declared.cmp.Ordering.{Ordering}
use Rattle.std.specs.declared.cmp.Ordering.TheVariants.{Less}
use Rattle.pw_defs.specs.declared.cells.Cells.{Cells}
use Rattle.pw_defs.specs.declared.design.Body.{Body}
use Rattle.pw_defs.specs.declared.design.Body.TheVariants.{Module as ModuleBody, Cell as CellBody, Model as ModelBody}
use Rattle.pw_defs.specs.declared.design.Design.{Design}
use Rattle.pw_defs.specs.declared.faults.AtModule.{AtModule}
use Rattle.pw_defs.specs.declared.faults.DesignFault.{DesignFault}
use Rattle.pw_defs.specs.declared.faults.DesignFault.TheVariants.{N5, N6, N7, N8, N9, N10, N11, N12, M5, X1}
use Rattle.pw_defs.specs.declared.model.Model.{Model}
use Rattle.pw_defs.specs.declared.netlist.Assign.{Assign}
use Rattle.pw_defs.specs.declared.netlist.Conn.{Conn}
use Rattle.pw_defs.specs.declared.netlist.Expr.{Expr}
use Rattle.pw_defs.specs.declared.netlist.Inst.{Inst}
use Rattle.pw_defs.specs.declared.netlist.Module.{Module}
use Rattle.pw_defs.specs.declared.netlist.Port.{Port}
use Rattle.list_defs.specs.Members.{IsIn, HasMoreThan}
use Rattle.list_defs.specs.Orders.{IsLeast, name_cmp}
use Rattle.design_defs.specs.Bits.{HasSpotName, IsSpot, Spot}
use Rattle.design_defs.specs.Designs.{IsMadeFrom}
use Rattle.design_defs.specs.Hierarchy.{IsInstance, IsOfModule, Sources, Way, body_at, cell_named, module_at, module_named, path, ports_in, type_of, way_cmp}
use Rattle.design_defs.specs.Links.{Feeds, IsFed, IsInstLine, IsLink, port_of_conn}
use Rattle.design_defs.specs.Names.{joined}
use Rattle.design_defs.specs.Places.{misselected, names_in, signals}
use Rattle.design_defs.specs.Ports.{is_input}
use Rattle.design_defs.specs.Ranges.{bit_name, width}
use Rattle.list_defs.specs.Rings.{IsReached}

-- KINDS of faults, in the order in which they are looked for.
pub data FaultKind : Type 0 where
  module_twice port_mismatch recursion unknown_type size unknown_port wrong_width path_twice multi_driven wire_loop : FaultKind

-- the place of a kind in this order
abbrev pub kind_number : FaultKind → ℕ
kind_number FaultKind.module_twice = 0
kind_number FaultKind.port_mismatch = 1
kind_number FaultKind.recursion = 2
kind_number FaultKind.unknown_type = 3
kind_number FaultKind.size = 4
kind_number FaultKind.unknown_port = 5
kind_number FaultKind.wrong_width = 6
kind_number FaultKind.path_twice = 7
kind_number FaultKind.multi_driven = 8
kind_number FaultKind.wire_loop = 9

-- a fault: the instance whose module holds the line, the number of that module, the line, and the name that is refused
pub record Fault : Type 0 where
  pub kind : FaultKind
  pub way : Way
  pub module_number : ℕ
  pub line : ℕ
  pub name : List ℕ

-- By kind, then by instance, the top first, then by module, by line and by name. (An instance has one module, so that
-- the number of the module tells apart only faults of modules alone, which have the empty way.)
abbrev pub fault_cmp : Fault → Fault → Ordering
fault_cmp =
    then_cmp (on (λ (f : Fault). kind_number f.kind) nat_cmp)
    (then_cmp (on (λ (f : Fault). f.way) way_cmp)
    (then_cmp (on (λ (f : Fault). f.module_number) nat_cmp)
    (then_cmp (on (λ (f : Fault). f.line) nat_cmp)
    (on (λ (f : Fault). f.name) name_cmp))))

-- the fault of a kind at a line of the module of an instance
abbrev pub at_line : FaultKind → Way → ℕ → ℕ → List ℕ → Fault
at_line kind way number line name = record { kind = kind; way = way; module_number = number; line = line; name = name }

-- the fault of a kind of a module by itself
abbrev pub of_module : FaultKind → ℕ → Module → Fault
of_module kind number m = at_line kind [] number m.line m.name

-- the fault of a kind at no line
abbrev pub at_no_line : FaultKind → List ℕ → Fault
at_no_line kind name = at_line kind [] 0 0 name

-- RECURSION. The module of this number is that of the instance or of one that it is inside.
pub data IsAtOrAbove (s : Sources) (number : ℕ) : Way → Type 0 where
  here : (way : Way) → body_at s way ≡ Some (ModuleBody number) → IsAtOrAbove s number way
  above : (name : List ℕ) (outer : Way) → IsAtOrAbove s number outer → IsAtOrAbove s number (name ∷ outer)

-- SIZE. More than 1,000,000 instances, more than 8,000,000 bits, or an instance inside more than 100
pub data IsTooLarge (s : Sources) : Type 0 where
  instances : HasMoreThan 1000000 (IsInstance s) → IsTooLarge s
  bits : HasMoreThan 8000000 (IsSpot s) → IsTooLarge s
  depth : (way : Way) → IsInstance s way → 100 < length way → IsTooLarge s

-- NAMES. What has a joined name: an instance below the top, a port or pin by its number, or a bit of a vector port.
pub data Thing : Type 0 where
  instance : Way → Thing
  port : Way → ℕ → Thing
  vector_bit : Way → ℕ → ℕ → Thing

-- the instance that it is, or that has it
abbrev pub way_of : Thing → Way
way_of (Thing.instance way) = way
way_of (Thing.port way number) = way
way_of (Thing.vector_bit way number place) = way

-- the instance has this port
abbrev pub HasPort : Sources → Way → Port → Type 0
HasPort s way p = (body : Body) × (ports : List Port) × (body_at s way ≡ Some body) × (ports_in s body ≡ Some ports) × IsIn p ports

-- the instance has this port under this number
abbrev pub HasPortAt : Sources → Way → ℕ → Port → Type 0
HasPortAt s way number p =
    (body : Body) × (ports : List Port) × (body_at s way ≡ Some body) × (ports_in s body ≡ Some ports) × (slice_get ports number ≡ Some p)

-- what there is, with its joined name
pub data HasThingName (s : Sources) : Thing → List ℕ → Type 0 where
  instance : (name : List ℕ) (outer : Way) → IsInstance s (name ∷ outer) → HasThingName s (Thing.instance (name ∷ outer)) (path (name ∷ outer))
  port : (way : Way) (number : ℕ) (p : Port) → HasPortAt s way number p → HasThingName s (Thing.port way number) (joined (path way) p.name)
  vector_bit : (way : Way) (number : ℕ) (p : Port) (range : ℕ × ℕ) (place : ℕ) → HasPortAt s way number p → p.range ≡ Some range
      → place < width p.range → HasThingName s (Thing.vector_bit way number place) (joined (path way) (bit_name p.name p.range place))

-- An instance stands at its line in the module that it is inside; a port of a module stands at the line of that module,
-- and a port of a cell or a model at the line of its instance.
pub data StandsAt (s : Sources) (t : Thing) (way : Way) (number line : ℕ) : Type 0 where
  instance : (name : List ℕ) (m : Module) → t ≡ Thing.instance (name ∷ way) → IsOfModule s way number m → IsInstLine s way name line
      → StandsAt s t way number line
  module_port : (m : Module) → t ≢ Thing.instance way → way_of t ≡ way → IsOfModule s way number m → line ≡ m.line → StandsAt s t way number line
  cell_port : (name : List ℕ) (c : ℕ) (m : Module) → t ≢ Thing.instance (name ∷ way) → way_of t ≡ name ∷ way → body_at s (name ∷ way) ≡ Some (CellBody c)
      → IsOfModule s way number m → IsInstLine s way name line → StandsAt s t way number line
  model_port : (name : List ℕ) (c : ℕ) (m : Module) → t ≢ Thing.instance (name ∷ way) → way_of t ≡ name ∷ way → body_at s (name ∷ way) ≡ Some (ModelBody c)
      → IsOfModule s way number m → IsInstLine s way name line → StandsAt s t way number line

-- LINKS go by the instance whose module has the line, then by line.
abbrev pub place_cmp : Way × ℕ → Way × ℕ → Ordering
place_cmp = then_cmp (on (λ (x : Way × ℕ). x.0) way_cmp) (on (λ (x : Way × ℕ). x.1) nat_cmp)

-- an input bit of the top
pub record IsTopInput (s : Sources) (x : Spot) : Type 0 where
  pub in_top : x.way ≡ []
  pub port : Port
  pub has_port : HasPort s [] port
  pub same : port.name ≡ x.net
  pub input : is_input (Some port.dir) ≡ true

-- RINGS. A bit on a ring whose name none on the ring comes before.
pub record IsLeastOnRing (s : Sources) (x : Spot) (name : List ℕ) : Type 0 where
  pub named : HasSpotName s x name
  pub ring : IsReached (Feeds s) x x
  pub least : (y : Spot) (other : List ℕ) → IsReached (Feeds s) x y → HasSpotName s y other → name_cmp other name ≢ Less

-- THE FAULTS of a design.
pub data IsFault (s : Sources) : Fault → Type 0 where
  -- a module has the name of an earlier one
  module_twice : (n earlier : ℕ) (m other : Module) → module_at s n ≡ Some m → module_at s earlier ≡ Some other → earlier < n → other.name ≡ m.name
      → IsFault s (of_module FaultKind.module_twice n m)
  -- a module has the name of a cell
  module_and_cell : (n c : ℕ) (m : Module) → module_at s n ≡ Some m → cell_named s m.name ≡ Some c
      → IsFault s (of_module FaultKind.module_twice n m)
  -- a module has other ports than its model
  port_mismatch : (n : ℕ) (m : Module) (model : Model) → module_at s n ≡ Some m → IsIn model s.models → model.module ≡ m.name → model.ports ≢ m.ports
      → IsFault s (of_module FaultKind.port_mismatch n m)
  -- an instance is of a module that it is inside
  recursion : (way : Way) (n of_inst : ℕ) (m : Module) (i : Inst) → IsOfModule s way n m → IsIn i m.insts → type_of s i.kind ≡ Some (ModuleBody of_inst)
      → IsAtOrAbove s of_inst way → IsFault s (at_line FaultKind.recursion way n i.line i.kind)
  -- no module has the name of the top
  no_top : module_named s s.top ≡ None → IsFault s (at_no_line FaultKind.unknown_type s.top)
  -- an instance is of a type that isn't there
  unknown_type : (way : Way) (n : ℕ) (m : Module) (i : Inst) → IsOfModule s way n m → IsIn i m.insts → type_of s i.kind ≡ None
      → IsFault s (at_line FaultKind.unknown_type way n i.line i.kind)
  -- the design is too large
  size : IsTooLarge s → IsFault s (at_no_line FaultKind.size (codes "-"))
  -- a connection names no port of the type
  unknown_port : (way : Way) (n : ℕ) (m : Module) (i : Inst) (c : Conn) (body : Body) → IsOfModule s way n m → IsIn i m.insts → IsIn c i.conns
      → type_of s i.kind ≡ Some body → port_of_conn s i c ≡ None → IsFault s (at_line FaultKind.unknown_port way n i.line c.port)
  -- a connection selects wrongly
  selected_in_conn : (way : Way) (n : ℕ) (m : Module) (i : Inst) (c : Conn) (e : Expr) (name : List ℕ) → IsOfModule s way n m → IsIn i m.insts
      → IsIn c i.conns → c.expr ≡ Some e → IsIn name (misselected m e) → IsFault s (at_line FaultKind.wrong_width way n i.line name)
  -- an assignment selects wrongly
  selected_in_assign : (way : Way) (n : ℕ) (m : Module) (a : Assign) (name : List ℕ) → IsOfModule s way n m → IsIn a m.assigns
      → IsIn name (misselected m a.left ++ misselected m a.right) → IsFault s (at_line FaultKind.wrong_width way n a.line name)
  -- what is connected has another width than the port
  width_of_conn : (way : Way) (n : ℕ) (m : Module) (i : Inst) (c : Conn) (e : Expr) (p : Port) → IsOfModule s way n m → IsIn i m.insts → IsIn c i.conns
      → c.expr ≡ Some e → port_of_conn s i c ≡ Some p → misselected m e ≡ [] → length (signals m e) ≢ width p.range
      → IsFault s (at_line FaultKind.wrong_width way n i.line c.port)
  -- the sides of an assignment have different widths; the first name of the left side is refused
  width_of_assign : (way : Way) (n : ℕ) (m : Module) (a : Assign) (name : List ℕ) (names : List (List ℕ)) → IsOfModule s way n m → IsIn a m.assigns
      → misselected m a.left ≡ [] → misselected m a.right ≡ [] → length (signals m a.left) ≢ length (signals m a.right) → names_in a.left ≡ name ∷ names
      → IsFault s (at_line FaultKind.wrong_width way n a.line name)
  -- two things have one joined name; the fault is at the later one
  path_twice : (x y : Thing) (name : List ℕ) (way : Way) (n line : ℕ) → HasThingName s x name → HasThingName s y name → x ≢ y
      → way_cmp (way_of y) (way_of x) ≢ Less → StandsAt s y way n line → IsFault s (at_line FaultKind.path_twice way n line name)
  -- two links feed one bit; the fault is at the later one
  multi_driven : (way other_way : Way) (n number other line other_line : ℕ) (m : Module) (x : Spot) (source other_source : Option Spot) (name : List ℕ)
      → IsLink s other_way other other_line x other_source → IsLink s way number line x source → (other_way ≡ way → other ≢ number)
      → place_cmp (way, line) (other_way, other_line) ≢ Less → IsOfModule s way n m → HasSpotName s x name
      → IsFault s (at_line FaultKind.multi_driven way n line name)
  -- a link feeds an input bit of the top, which is fed from outside
  driven_input : (way : Way) (n number line : ℕ) (m : Module) (x : Spot) (source : Option Spot) (name : List ℕ) → IsLink s way number line x source
      → IsTopInput s x → IsOfModule s way n m → HasSpotName s x name → IsFault s (at_line FaultKind.multi_driven way n line name)
  -- bits feed one another in a ring; the fault is at the line that feeds the least bit of the ring
  wire_loop : (way : Way) (n line : ℕ) (m : Module) (x source : Spot) (name : List ℕ) → IsLeastOnRing s x name → IsFed s x source way line
      → IsOfModule s way n m → IsFault s (at_line FaultKind.wire_loop way n line name)

-- nothing is wrong with the design
abbrev pub IsFaultless : Sources → Type 0
IsFaultless s = (f : Fault) → IsFault s f → ⊥

-- no fault of a kind that comes before this one
abbrev pub HasNoneBefore : FaultKind → Sources → Type 0
HasNoneBefore kind s = (f : Fault) → IsFault s f → kind_number kind ≤ kind_number f.kind

-- the line and the name that are refused, with the module that has the line
abbrev pub place_of_fault : Fault → AtModule
place_of_fault f = record { «module» = f.module_number; line = f.line; name = f.name }

-- the fault as an answer
abbrev pub answer_of : FaultKind → AtModule → DesignFault
answer_of FaultKind.module_twice = N11
answer_of FaultKind.port_mismatch = M5
answer_of FaultKind.recursion = N9
answer_of FaultKind.unknown_type = N5
answer_of FaultKind.size = X1
answer_of FaultKind.unknown_port = N6
answer_of FaultKind.wrong_width = N7
answer_of FaultKind.path_twice = N12
answer_of FaultKind.multi_driven = N8
answer_of FaultKind.wire_loop = N10

-- the least fault, as an answer
abbrev pub HasFirstFault : Sources → DesignFault → Type 0
HasFirstFault s answer = (f : Fault) × IsLeast fault_cmp (IsFault s) f × (answer ≡ answer_of f.kind (place_of_fault f))

-- modules, cells, models and the name of the top together
abbrev pub sources : List Module → Cells → List Model → List ℕ → Sources
sources modules cells models top = record { modules = modules; cells = cells; models = models; top = top }

-- Modules, cells and models below a top have this first fault.
abbrev pub HasDesignFault : List Module → Cells → List Model → List ℕ → DesignFault → Type 0
HasDesignFault modules cells models top answer = HasFirstFault (sources modules cells models top) answer

-- Modules, cells and models below a top have no fault, and make this design.
pub record IsDesignOf (modules : List Module) (cells : Cells) (models : List Model) (top : List ℕ) (d : Design) : Type 0 where
  pub faultless : IsFaultless (sources modules cells models top)
  pub made : IsMadeFrom (sources modules cells models top) d
