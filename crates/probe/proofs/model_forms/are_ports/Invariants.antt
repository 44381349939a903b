use Rattle.std.proofs.Common.{take}
use Rattle.pw_defs.specs.declared.netlist.Port.{Port}
use Rattle.list_defs.specs.Members.{IsIn}
use Rattle.design_defs.specs.Models.{IsModelPort}
use Rattle.probe.proofs.model_forms.are_ports.Given as goal

abbrev pub invariant-loop-port : goal.invariant-loop-port
invariant-loop-port l = (p : Port) → IsIn p (take l.port-index l.ports) → IsModelPort p
