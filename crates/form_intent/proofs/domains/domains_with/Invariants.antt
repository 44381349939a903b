use Rattle.std.proofs.Common.{◌≡◌, map, take}
use Rattle.std.specs.List.{enumerate_from, filter_map}
use Rattle.form_intent.specs.Script.{domain_made}
use Rattle.form_intent.specs.Intent.{domain_with}
use Rattle.form_intent.specs.Sets.{set_at}
use Rattle.form_intent.proofs.domains.domains_with.Given as goal

abbrev pub invariant-loop-place : goal.invariant-loop-place
invariant-loop-place l = l.domains ≡ map (domain_with (set_at l.known.set_names.now l.known.sets.now) l.known.instances.now) (filter_map domain_made (take l.place (enumerate_from 1 l.commands)))
