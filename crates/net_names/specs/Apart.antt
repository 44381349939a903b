-- When the names of what stands in one body keep all joined names apart.
use Rattle.std.specs.Prelude.{◌≡◌, ◌<◌, ◌^◌, ◌++◌, ◌∷◌, ℕ, true, List, [], Some, None, Option, map}
use Rattle.pw_defs.specs.declared.design.Body.{Body}
use Rattle.pw_defs.specs.declared.design.Body.TheVariants.{Module as ModuleBody, Cell as CellBody, Model as ModelBody}
use Rattle.pw_defs.specs.declared.netlist.Inst.{Inst}
use Rattle.pw_defs.specs.declared.netlist.Module.{Module}
use Rattle.pw_defs.specs.declared.netlist.Port.{Port}
use Rattle.list_defs.specs.Members.{IsIn, all_differ, same_name}
use Rattle.design_defs.specs.DesignFaults.{HasThingName, Thing}
use Rattle.design_defs.specs.Hierarchy.{Sources, module_at, ports_in}

-- the names of ports
abbrev pub port_names : List Port → List (List ℕ)
port_names = map (λ (p : Port). p.name)

-- the names of the instances that a module makes
abbrev pub inst_names : Module → List (List ℕ)
inst_names m = map (λ (i : Inst). i.name) m.insts

-- the same where there is a module, and no names else
abbrev pub names_or_none : Option Module → List (List ℕ)
names_or_none None = []
names_or_none (Some m) = inst_names m

-- the names of the instances that stand in a body; cells and models show none
abbrev pub insts_in : Sources → Body → List (List ℕ)
insts_in s (ModuleBody n) = names_or_none (module_at s n)
insts_in s (CellBody c) = []
insts_in s (ModelBody m) = []

-- the name begins with another one, this byte behind it
abbrev pub GoesOn : ℕ → List ℕ → List ℕ → Type 0
GoesOn byte front name = (rest : List ℕ) × (name ≡ front ++ byte ∷ rest)

-- the ends of a range are numbers of 32 bits
abbrev pub IsSmall : Option (ℕ × ℕ) → Type 0
IsSmall None = Unit {0}
IsSmall (Some r) = (r.0 < 2 ^ 32) × (r.1 < 2 ^ 32)

-- No name goes on behind that of an instance with a slash, or behind that of a vector port with an opening bracket.
pub record IsNameApart (insts : List (List ℕ)) (ports : List Port) (name : List ℕ) : Type 0 where
  pub slash : (inst : List ℕ) → IsIn inst insts → GoesOn 47 inst name → ⊥
  pub bracket : (p : Port) (r : ℕ × ℕ) → IsIn p ports → p.range ≡ Some r → GoesOn 91 p.name name → ⊥

-- Instances and ports of one body: no two have one name, and no name goes on behind another so.
pub record AreApart (insts : List (List ℕ)) (ports : List Port) : Type 0 where
  pub ports_differ : all_differ same_name (port_names ports) ≡ true
  pub kinds_differ : (inst : List ℕ) → IsIn inst insts → IsIn inst (port_names ports) → ⊥
  pub small : (p : Port) → IsIn p ports → IsSmall p.range
  pub each_inst : (name : List ℕ) → IsIn name insts → IsNameApart insts ports name
  pub each_port : (p : Port) → IsIn p ports → IsNameApart insts ports p.name

-- the same for each body
abbrev pub AreAllApart : Sources → Type 0
AreAllApart s = (body : Body) (ports : List Port) → ports_in s body ≡ Some ports → AreApart (insts_in s body) ports

-- no two things have one joined name
abbrev pub HasOwnNames : Sources → Type 0
HasOwnNames s = (x y : Thing) (name : List ℕ) → HasThingName s x name → HasThingName s y name → x ≡ y
