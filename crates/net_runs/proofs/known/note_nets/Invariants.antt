use Rattle.std.proofs.Common.{◌≡◌, length}
use Rattle.pw_defs.specs.declared.design.Body.TheVariants.{Module as ModuleBody}
use Rattle.net_places.specs.Plans.{rows_at}
use Rattle.net_runs.specs.Known.{AreKnown, HasKnown}
use Rattle.net_runs.proofs.known.note_nets.Given as goal

abbrev pub invariant-loop-net : goal.invariant-loop-net
invariant-loop-net l = record {
  count : length l.known.items ≡ length l.initial.known.items;
  known : AreKnown l.plans l.initial.known.items → AreKnown l.plans l.known.items;
  all : HasKnown l.holder (rows_at l.plans (ModuleBody l.holder)) l.net l.known.items;
}
