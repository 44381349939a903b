use Rattle.std.proofs.Common.{◌≡◌, ℕ, ◌<◌, [], length, map}
use Rattle.std.specs.Prelude.{Some, slice_get, slice_index_or}
use Rattle.pw_defs.specs.declared.model.Model.{Model}
use Rattle.pw_defs.specs.declared.netlist.Port.{Port}
use Rattle.net_places.specs.Nets.{net_among}
use Rattle.net_places.specs.Tables.{IsPlanOf}
use Rattle.net_places.proofs.plans.model_plans.Given as goal

abbrev pub invariant-loop-model : goal.invariant-loop-model
invariant-loop-model l = record {
  count : length l.table ≡ l.model-index;
  plans : (n : ℕ) (x : Model) → n < l.model-index → slice_get l.models n ≡ Some x → IsPlanOf (net_among x.ports) (map (λ (p : Port). p.name) x.ports) (slice_index_or l.table n []);
}
