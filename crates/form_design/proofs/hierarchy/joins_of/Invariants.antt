use Rattle.std.proofs.Common.{◌≡◌, ◌++◌, drop}
use Rattle.std.specs.List.{filter_map}
use Rattle.form_design.specs.Hierarchy.{join_of}
use Rattle.form_design.proofs.hierarchy.joins_of.Given as goal

-- the joins so far and those of the connections that are left are all
abbrev pub invariant-loop-conn : goal.invariant-loop-conn
invariant-loop-conn l = l.joins ++ filter_map (join_of l.names l.holder l.body) (drop l.conn-index l.conns) ≡ filter_map (join_of l.names l.holder l.body) l.conns
