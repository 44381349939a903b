-- The kinds of faults in their order.
use Rattle.std.proofs.Common.{◌≡◌, ◌+◌, ◌≤◌, arith}
use Rattle.design_defs.specs.DesignFaults.{FaultKind, IsFaultless, kind_number, HasNoneBefore}
use Rattle.design_defs.specs.Hierarchy.{Sources}
use Rattle.net_hierarchy.specs.Ordered.{HasNoneOf}

-- where there is no fault of a kind or of one before it, none comes before the next
pub none_before_next : (s : Sources) (kind next : FaultKind) → kind_number next ≡ kind_number kind + 1 → HasNoneBefore kind s → HasNoneOf s kind → HasNoneBefore next s
none_before_next s kind next is before none f fault = omega (arith, is, before f fault, none f fault)

last_kind : (kind : FaultKind) → kind_number kind ≤ 9
last_kind FaultKind.module_twice = omega arith
last_kind FaultKind.port_mismatch = omega arith
last_kind FaultKind.recursion = omega arith
last_kind FaultKind.unknown_type = omega arith
last_kind FaultKind.size = omega arith
last_kind FaultKind.unknown_port = omega arith
last_kind FaultKind.wrong_width = omega arith
last_kind FaultKind.path_twice = omega arith
last_kind FaultKind.multi_driven = omega arith
last_kind FaultKind.wire_loop = omega arith

-- where there is neither a fault of the last kind nor one before, there is none
pub no_fault : (s : Sources) → HasNoneBefore FaultKind.wire_loop s → HasNoneOf s FaultKind.wire_loop → IsFaultless s
no_fault s before none f fault = omega (arith, before f fault, none f fault, last_kind f.kind)
