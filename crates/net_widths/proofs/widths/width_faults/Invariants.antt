use Rattle.std.proofs.Common.{◌≡◌, length}
use Rattle.design_defs.specs.Hierarchy.{Sources}
use Rattle.net_hierarchy.specs.Graph.{types_of}
use Rattle.net_widths.specs.Ports.{IsSeen}
use Rattle.net_widths.specs.Refusals.{widths_of_module}
use Rattle.net_widths.proofs.Steps.{AreFirstTo}
use Rattle.net_widths.proofs.widths.width_faults.Given as goal

abbrev pub invariant-loop-holder : goal.invariant-loop-holder
invariant-loop-holder l = record {
  count : length l.own.items ≡ l.holder;
  netlist : l.lookup.netlist ≡ l.spellings.modules.now;
  plans : l.lookup.plans ≡ l.plans;
  own : (s : Sources) → IsSeen s l.spellings l.plans → l.types ≡ types_of s → AreFirstTo s (widths_of_module s) l.spellings.modules.now.symbols l.holder l.own.items;
}
