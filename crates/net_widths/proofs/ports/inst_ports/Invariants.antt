use Rattle.std.proofs.Common.{◌≡◌, take}
use Rattle.std.specs.List.{flat_map}
use Rattle.design_defs.specs.Hierarchy.{Sources, type_of}
use Rattle.module_rows.specs.Reads.{inst_at}
use Rattle.net_widths.specs.Ports.{IsSeen}
use Rattle.net_widths.specs.Refusals.{Finds, ports_of_conn}
use Rattle.net_widths.proofs.ports.inst_ports.Given as goal

abbrev pub invariant-loop-conn : goal.invariant-loop-conn
invariant-loop-conn l =
    (s : Sources) → IsSeen s l.spellings l.plans → l.kind ≡ type_of s (inst_at l.spellings.modules.now l.holder l.inst).kind
    → Finds l.spellings.modules.now.symbols l.fn.best l.least
    (flat_map (ports_of_conn s (inst_at l.spellings.modules.now l.holder l.inst)) (take l.conn (inst_at l.spellings.modules.now l.holder l.inst).conns))
