use Rattle.std.proofs.Common.{◌≡◌, Some, length}
use Rattle.design_defs.specs.Hierarchy.{Sources, module_named, AreNamedInsts}
use Rattle.net_hierarchy.specs.Graph.{AreInstsApart, types_of}
use Rattle.net_least.specs.Recursion.{IsBegun}
use Rattle.net_least.proofs.recursion.first_recursion.Given as goal

abbrev pub invariant-loop : goal.invariant-loop
invariant-loop l = (s : Sources) → AreInstsApart s → AreNamedInsts s → s.modules ≡ l.modules.modules → l.types ≡ types_of s → module_named s s.top ≡ Some l.top
    → IsBegun s l.marks.items l.number × (length l.marks.items ≡ length s.modules)
