use Rattle.std.proofs.Common.{◌≡◌, ℕ, ◌<◌, [], length}
use Rattle.std.specs.Prelude.{slice_index_or}
use Rattle.pw_defs.specs.declared.netlist.Module.{Module}
use Rattle.design_defs.specs.Hierarchy.{Sources}
use Rattle.net_links.specs.Adding.{AreParts, HasOpen, IsLinkable}
use Rattle.net_links.specs.LocalLinks.{AreLocalLinks, locals}
use Rattle.net_links.proofs.linking.links_of.Given as goal

abbrev pub invariant-loop-holder : goal.invariant-loop-holder
invariant-loop-holder l = record {
  opened : HasOpen l.linker l.linker.lookup.holder;
  same : l.linker ≡ record l.initial.linker { lookup = l.linker.lookup };
  count : length l.links ≡ l.holder;
  rows : (n : ℕ) → n < l.holder → (s : Sources) → AreParts s l.modules l.cells l.models l.types l.plans → (m : Module) → IsLinkable s n m
      → AreLocalLinks s n m (locals (slice_index_or l.links n []));
}
