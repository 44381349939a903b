use Rattle.std.proofs.Common.{◌≡◌, ℕ, ◌+◌, ◌<◌, [], length}
use Rattle.std.specs.Prelude.{slice_index_or}
use Rattle.module_rows.specs.Reads.{module_at}
use Rattle.net_places.specs.Gathered.{IsReady}
use Rattle.net_places.specs.Nets.{net_in}
use Rattle.net_places.specs.Tables.{IsPlanOf}
use Rattle.net_places.proofs.plans.module_plans.Given as goal

abbrev pub invariant-loop-holder : goal.invariant-loop-holder
invariant-loop-holder l = record {
  ready : IsReady l.modules.symbols (l.holder + 1) l.gathering;
  count : length l.table ≡ l.holder;
  plans : (m : ℕ) → m < l.holder → IsPlanOf (net_in (module_at l.modules m)) l.modules.symbols (slice_index_or l.table m []);
}
