use Rattle.std.proofs.Common.{◌≡◌, ◌==◌, map, take, unwrap_or}
use Rattle.std.specs.List.{enumerate_from}
use Rattle.list_defs.specs.Members.{place_of}
use Rattle.form_intent.specs.Intent.{domain_for}
use Rattle.form_intent.proofs.elements.domain_of.Given as goal

abbrev pub invariant-loop-parent : goal.invariant-loop-parent
invariant-loop-parent l = record {
  domains : l.domains ≡ map (domain_for l.elements.keys) (take l.parent-index (enumerate_from 0 l.parents));
  top : l.top ≡ unwrap_or (place_of (◌==◌ 0) l.elements.keys) 0;
}
