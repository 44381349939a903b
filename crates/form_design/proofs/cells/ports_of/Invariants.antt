use Rattle.std.proofs.Common.{◌≡◌, ◌++◌, None, map, drop}
use Rattle.pw_defs.specs.declared.netlist.Port.{Port}
use Rattle.line_forms.specs.declared.netlist_lines.PortWords.{PortWords}
use Rattle.form_design.proofs.cells.ports_of.Given as goal

-- those so far and those that are left are all
abbrev pub invariant-loop-port : goal.invariant-loop-port
invariant-loop-port l = l.ports ++ map (λ (p : PortWords). let port : Port = record { name = p.name; dir = p.dir; range = None } in port) (drop l.port-index l.words) ≡ map (λ (p : PortWords). let port : Port = record { name = p.name; dir = p.dir; range = None } in port) l.words
