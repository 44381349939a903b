-- What the lines of a module say of names, one after the other: the first that is said of a name counts.
use Rattle.std.specs.Prelude.{ℕ, ◌+◌, Bool, List, [], ◌∷◌, ◌++◌, Option, Some, None, map, option_and_then}
use Rattle.std.specs.Option.{option_to_list}
use Rattle.pw_defs.specs.declared.netlist.Assign.{Assign}
use Rattle.pw_defs.specs.declared.netlist.Conn.{Conn}
use Rattle.pw_defs.specs.declared.netlist.Expr.{Expr}
use Rattle.std.specs.List.{find, flat_map, list_any}
use Rattle.pw_defs.specs.declared.netlist.Inst.{Inst}
use Rattle.pw_defs.specs.declared.netlist.Module.{Module}
use Rattle.pw_defs.specs.declared.netlist.Net.{Net}
use Rattle.pw_defs.specs.declared.netlist.Port.{Port}
use Rattle.list_defs.specs.Members.{same_name}
use Rattle.design_defs.specs.Places.{names_alone}
use Rattle.module_rows.specs.Leaves.{own_leaf}
use Rattle.net_places.specs.Nets.{OwnNet}

-- a name, with the net that it is of, if it is of one
pub record Mention : Type 0 where
  pub name : List ℕ
  pub net : Option OwnNet

-- whether something is said of a name
abbrev pub is_mentioned : List Mention → List ℕ → Bool
is_mentioned mentions name = list_any (λ (x : Mention). same_name name x.name) mentions

-- the net of a name, by the first that is said of it
abbrev pub net_mentioned : List Mention → List ℕ → Option OwnNet
net_mentioned mentions name = option_and_then (λ (x : Mention). x.net) (find (λ (x : Mention). same_name name x.name) mentions)

-- a port with its number
abbrev pub of_port : ℕ → Port → Mention
of_port n p = record { name = p.name; net = Some (record { name = p.name; range = p.range; port = Some n }) }

-- ports with their numbers, from one number on
abbrev pub of_ports : ℕ → List Port → List Mention
of_ports n [] = []
of_ports n (p ∷ ps) = of_port n p ∷ of_ports (n + 1) ps

-- a declared wire
abbrev pub of_wire : Net → Mention
of_wire w = record { name = w.name; net = Some (record { name = w.name; range = w.range; port = None }) }

-- an instance, which is no net
abbrev pub of_inst : Inst → Mention
of_inst i = record { name = i.name; net = None }

-- a name that stands alone, which is a wire of one bit
abbrev pub of_use : List ℕ → Mention
of_use name = record { name = name; net = Some (record { name = name; range = None; port = None }) }

-- the names that stand alone in an expression
abbrev pub of_expr : Expr → List Mention
of_expr e = map of_use (names_alone e)

-- a name or constant that is an expression itself
abbrev pub of_leaf : Expr → List Mention
of_leaf e = flat_map of_expr (own_leaf e)

-- what is connected
abbrev pub of_conn : Conn → List Mention
of_conn c = flat_map of_expr (option_to_list c.expr)

abbrev pub of_conns : Inst → List Mention
of_conns i = flat_map of_conn i.conns

-- the sides of an assignment
abbrev pub of_assign : Assign → List Mention
of_assign a = of_expr a.left ++ of_expr a.right

-- all names that stand alone
abbrev pub of_exprs : Module → List Mention
of_exprs m = flat_map of_conns m.insts ++ flat_map of_assign m.assigns

-- all that a module says of names: its ports, its wires, its instances, and names that stand alone
abbrev pub of_module : Module → List Mention
of_module m = of_ports 0 m.ports ++ map of_wire m.nets ++ map of_inst m.insts ++ of_exprs m
