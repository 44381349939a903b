-- Lines of a module whose ends are there and of one width.
use Rattle.std.specs.Prelude.{◌≡◌, [], Some, length}
use Rattle.pw_defs.specs.declared.netlist.Assign.{Assign}
use Rattle.pw_defs.specs.declared.netlist.Conn.{Conn}
use Rattle.pw_defs.specs.declared.netlist.Expr.{Expr}
use Rattle.pw_defs.specs.declared.netlist.Inst.{Inst}
use Rattle.pw_defs.specs.declared.netlist.Module.{Module}
use Rattle.pw_defs.specs.declared.netlist.Port.{Port}
use Rattle.list_defs.specs.Members.{IsIn}
use Rattle.design_defs.specs.Hierarchy.{Sources}
use Rattle.design_defs.specs.Links.{port_of_conn}
use Rattle.design_defs.specs.Places.{misselected, signals}
use Rattle.design_defs.specs.Ranges.{width}

-- a connection names a port of the type, and what is connected is there and as wide as the port
pub record IsConnWired (s : Sources) (m : Module) (i : Inst) (c : Conn) : Type 0 where
  pub port : Port
  pub is_port : port_of_conn s i c ≡ Some port
  pub fits : (e : Expr) → c.expr ≡ Some e → (misselected m e ≡ []) × (length (signals m e) ≡ width port.range)

-- the sides of an assignment are there and of one width
pub record IsAssignWired (m : Module) (a : Assign) : Type 0 where
  pub left : misselected m a.left ≡ []
  pub right : misselected m a.right ≡ []
  pub same : length (signals m a.left) ≡ length (signals m a.right)

-- all lines of a module are so
pub record IsWired (s : Sources) (m : Module) : Type 0 where
  pub conns : (i : Inst) (c : Conn) → IsIn i m.insts → IsIn c i.conns → IsConnWired s m i c
  pub assigns : (a : Assign) → IsIn a m.assigns → IsAssignWired m a
