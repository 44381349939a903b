use Rattle.std.proofs.Common.{◌≡◌, ℕ, ◌<◌, [], length, map}
use Rattle.std.specs.Prelude.{Some, slice_get, slice_index_or}
use Rattle.pw_defs.specs.declared.cells.Cell.{Cell}
use Rattle.pw_defs.specs.declared.netlist.Port.{Port}
use Rattle.design_defs.specs.Ports.{port_of_pin}
use Rattle.net_places.specs.Nets.{net_among}
use Rattle.net_places.specs.Tables.{IsPlanOf}
use Rattle.net_places.proofs.plans.cell_plans.Given as goal

abbrev pub invariant-loop-cell : goal.invariant-loop-cell
invariant-loop-cell l = record {
  count : length l.table ≡ l.cell-index;
  plans : (n : ℕ) (x : Cell) → n < l.cell-index → slice_get l.cells n ≡ Some x → IsPlanOf (net_among (map port_of_pin x.pins)) (map (λ (p : Port). p.name) (map port_of_pin x.pins)) (slice_index_or l.table n []);
}
