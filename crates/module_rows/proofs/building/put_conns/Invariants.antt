use Rattle.std.proofs.Common.{◌≡◌, drop, length, map, take}
use Rattle.module_rows.specs.Growth.{HasConns}
use Rattle.module_rows.specs.View.{conn_of}
use Rattle.module_rows.proofs.building.put_conns.Given as goal

abbrev pub invariant-loop-conn : goal.invariant-loop-conn
invariant-loop-conn l = record {
  has : HasConns l.initial.terms l.initial.rows l.terms l.rows;
  made : map (conn_of l.terms) (drop (length l.initial.rows) l.rows) ≡ take l.conn-index l.conns;
}
